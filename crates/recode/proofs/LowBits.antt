-- The laws of a remainder held as low bits and bytes: taking in the next four bytes, dropping zeros, and halving.
use mathlib.Core.Path.{◌≡◌, refl, sym, ap, ◌∙◌}
use mathlib.Core.Logic.{◌≢◌}
use mathlib.Core.List.{List, [], ◌∷◌}
use Prim.Native.Nat.{ℕ, zero, suc, ◌+◌, ◌-◌, ◌*◌, ◌/◌, ◌%◌, ◌^◌, ◌≤◌, ◌<◌}
use native.Mathlib.Nat.{mul-le-mul_left, lt_of_not-le, le_of_suc-le-suc, mul-div_cancel_left, zero-div}
use native.Mathlib.Numerals.{add-one, sub-one}
use native.Mathlib.Omega.{arith}
use lib.Bits.{bit_or, or_step, or_mod, or_shr, or_add_and, and_le_l, and_le_r}
use lib.Count.{count_trailing_zeros}
use lib.ListN.{length, get_or, drop, drop_of_length-le}
use lib.Pow.{pow-add, pow_pos, pow_mono, shl_exact, split}
use lib.IntN.{ℤ, pos, negsuc, nat_abs, ◌-ℤ◌, pos-ne-negsuc}
use Rattle.digits.specs.Integer.{up, down, half}
use Rattle.digits.specs.Integer.Parts.{difference, size}
use Rattle.digits.specs.Scalar.{little}
use Rattle.digits.specs.Scalar.Zeros.{odd_part}

-- the bytes from a place on are the byte there and those above it, also past the end
pub byte_step : (bytes : List ℕ) (at next : ℕ) → next ≡ suc at → little (drop at bytes) ≡ get_or bytes at 0 + 256 * little (drop next bytes)
unfolding little
byte_step bytes at next e = rw e (go bytes at)
  where
    go : (bytes : List ℕ) (at : ℕ) → little (drop at bytes) ≡ get_or bytes at 0 + 256 * little (drop (suc at) bytes)
    go [] zero = refl
    go [] (suc at) = refl
    go (b ∷ bytes) zero = refl
    go (b ∷ bytes) (suc at) = go bytes at

-- four bytes as one number
pub four_bytes : (bytes : List ℕ) (at w : ℕ) → w ≡ get_or bytes at 0 + 256 * get_or bytes (at + 1) 0 + 65536 * (get_or bytes (at + 2) 0 + 256 * get_or bytes (at + 3) 0)
    → w + 2 ^ 32 * little (drop (at + 4) bytes) ≡ little (drop at bytes)
four_bytes bytes at w e =
    let step = byte_step bytes in
    omega (arith, e, step at (at + 1) (omega arith), step (at + 1) (at + 2) (omega arith), step (at + 2) (at + 3) (omega arith), step (at + 3) (at + 4) (omega arith))

-- a word above at most 15 low bits
pub shifted_word : (w k : ℕ) → w < 2 ^ 32 → k ≤ 15 → (w * 2 ^ k) % 2 ^ 64 ≡ w * 2 ^ k
shifted_word w k h l = shl_exact {a = w} 32 k 64 h (omega arith)

pub more_bits : (k : ℕ) → 2 ^ (k + 32) ≡ 2 ^ 32 * 2 ^ k
more_bits k = pow-add 2 k 32 ∙ omega arith

pub word_bound : (w k x : ℕ) → w < 2 ^ 32 → x ≤ 2 ^ k + 31 → x + w * 2 ^ k ≤ 2 ^ 32 * 2 ^ k + 31
word_bound w k x h l = omega (arith, mul-le-mul_left (2 ^ k) h)

pub few : (k : ℕ) → k ≤ 15 → 2 ^ k ≤ 32768
few k h = pow_mono {j = 15} h

pub next_word : (w k x a b : ℕ) → w + 2 ^ 32 * a ≡ b → x + w * 2 ^ k + 2 ^ (k + 32) * a ≡ x + 2 ^ k * b
next_word w k x a b e = rw (more_bits, ← e) (omega arith)

pub no_byte : (bytes : List ℕ) (at j k x : ℕ) → length bytes ≤ at → x + 2 ^ j * little (drop at bytes) ≡ x + 2 ^ k * little (drop at bytes)
unfolding little
no_byte bytes at j k x h = rw (drop_of_length-le bytes h) (omega arith)

-- what `zeros` answers of n, which has b low bits
abbrev pub Zeros : ℕ → ℕ → ℕ → Type 0
Zeros b n z = (z ≤ b) × ((n ≡ 2 ^ z * (n / 2 ^ z)) × (z < b → n / 2 ^ z % 2 ≡ 1))

within : (b n z q : ℕ) → n < 2 ^ (b + 1) → n ≡ 2 ^ z * q → q % 2 ≡ 1 → z ≤ b
within b n z q l e o =
    le_of_suc-le-suc (lt_of_not-le {n = suc b} (λ (g : suc b ≤ z).
    omega (arith, add-one b, pow_mono {i = b + 1} {j = z} (omega arith), mul-le-mul_left {m = 1} {n = q} (2 ^ z) (omega arith))))

pub trailing : (b n : ℕ) → n < 2 ^ (b + 1) → n ≢ 0 → n < 2 ^ 64 → Zeros b n (count_trailing_zeros 64 n)
trailing b n l p m = go (count_trailing_zeros 64 n) (odd_part 64 n (omega arith) m)
  where
    go : (z : ℕ) → (q : ℕ) × (n ≡ 2 ^ z * q) × (q % 2 ≡ 1) → Zeros b n z
    go z t =
        let quotient : n / 2 ^ z ≡ t.0 = ap (λ (k : ℕ). k / 2 ^ z) t.1 ∙ mul-div_cancel_left t.0 (pow_pos z) in
        (within b n z t.0 l t.1 t.2, (rw quotient t.1, λ _. rw quotient t.2))

pub all_zeros : (b n : ℕ) → n ≡ 0 → Zeros b n b
all_zeros b n e = rw e (omega arith, (rw zero-div (omega arith), λ l. absurd (omega arith)))

-- low bits that are held with a carry fit one bit more
pub one_bit_more : (b n : ℕ) → 5 ≤ b → n ≤ 2 ^ b + 31 → n < 2 ^ (b + 1)
one_bit_more b n h l = omega (arith, pow-add 2 b 1, pow_mono {i = 5} {j = b} h)

-- zeros below the bits of two numbers together are zeros of both
pub shared_zeros : (a b z : ℕ) → bit_or a b ≡ 2 ^ z * (bit_or a b / 2 ^ z) → (a ≡ 2 ^ z * (a / 2 ^ z)) × (b ≡ 2 ^ z * (b / 2 ^ z))
shared_zeros a b z e =
    let x : ℕ = a % 2 ^ z in
    let y : ℕ = b % 2 ^ z in
    let none : bit_or x y ≡ 0 = sym (or_mod a b z) ∙ omega (arith, split (bit_or a b) z) in
    omega (arith, split a z, split b z, or_add_and x y, and_le_l x y, and_le_r x y)

-- and above them one of both is odd, where the bits together are
pub shared_one : (a b z : ℕ) → bit_or a b / 2 ^ z % 2 ≡ 1 → 1 ≤ a / 2 ^ z % 2 + b / 2 ^ z % 2
shared_one a b z e =
    let x : ℕ = a / 2 ^ z in
    let y : ℕ = b / 2 ^ z in
    omega (arith, or_shr a b z, or_step x y)

-- dropping z zeros of b bits keeps the number within its bits
shrunk : (b n z q k : ℕ) → n ≤ 2 ^ b + 31 → n ≡ 2 ^ z * q → k + z ≡ b → q ≤ 2 ^ k + 31
shrunk b n z q k l f g =
    let over : ¬ (2 ^ k + 32 ≤ q) =
    λ m. omega (arith, pow-add 2 k z, ap (λ (i : ℕ). 2 ^ i) g, pow_pos z, mul-le-mul_left (2 ^ z) m)
    in
    omega arith

pub shifted_bound : (b n z : ℕ) → z ≤ b → n ≤ 2 ^ b + 31 → n ≡ 2 ^ z * (n / 2 ^ z) → n / 2 ^ z ≤ 2 ^ (b - z) + 31
shifted_bound b n z h l e = shrunk b n z (n / 2 ^ z) (b - z) l e (omega arith)

-- so does taking off a digit and halving
pub half_parts : (z : ℤ) (r : ℕ) → pos r ≡ half z → (down z ≡ 0) × ((2 * r ≤ up z) × (up z ≤ 2 * r + 1))
unfolding half
half_parts (pos n) r e = omega (arith, ap up e)
half_parts (negsuc n) r e = absurd (pos-ne-negsuc r (n / 2) e)

one_bit_less : (b : ℕ) → 1 ≤ b → 2 ^ b ≡ 2 * 2 ^ (b - 1)
one_bit_less zero h = absurd (omega arith)
one_bit_less (suc b) h = rw sub-one (omega arith)

pub less_bound : (b n r : ℕ) (d : ℤ) → 1 ≤ b → n ≤ 2 ^ b + 31 → nat_abs d ≤ 31 → pos r ≡ half (pos n -ℤ d) → r ≤ 2 ^ (b - 1) + 31
less_bound b n r d h l s e =
    omega (arith, one_bit_less b h, half_parts (pos n -ℤ d) r e, difference (pos n) d, size d)

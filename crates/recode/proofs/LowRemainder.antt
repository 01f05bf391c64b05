-- The remainder that low bits and bytes stand for: at the start, without zeros, at its end, and less a digit.
use mathlib.Core.Path.{◌≡◌, refl, sym, ap, ◌∙◌}
use mathlib.Core.List.{List, [], ◌∷◌}
use Prim.Native.Nat.{ℕ, zero, suc, ◌+◌, ◌-◌, ◌*◌, ◌/◌, ◌%◌, ◌^◌, ◌≤◌, ◌<◌}
use native.Mathlib.Nat.{mul_assoc, mul-le-mul_left, pow-suc, add-mul-mod_self_left}
use native.Mathlib.Numerals.{add-one}
use native.Mathlib.Omega.{arith}
use lib.IntN.{ℤ, pos, negsuc, ◌-ℤ◌}
use lib.ListN.{length, take, drop, take-append-drop}
use lib.Pow.{pow-add, pow_pos, pow_mono}
use Rattle.digits.specs.Scalar.Value.{bytes_power, little_append}
use Rattle.digits.specs.Scalar.{Bytes}
use Rattle.digits.specs.Integer.{up, down, half}
use Rattle.digits.specs.Integer.Parts.{difference, one_side}
use Rattle.digits.specs.Scalar.Length.{below_length, length_least}
use Rattle.digits.specs.Scalar.{little, bit_length}
use Rattle.recode.specs.declared.low.Low.{Low}
use Rattle.recode.specs.Body.Remainder.{remaining}
use Rattle.recode.proofs.LowBits.{half_parts}

pub remaining_new : (bytes : List ℕ) (s : Low) → (s.at ≡ 0) × ((s.bits ≡ 0) × (s.low ≡ 0)) → remaining bytes s ≡ little bytes
unfolding remaining
remaining_new bytes s e =
    ap (λ (n : ℕ). n + 2 ^ s.bits * little (drop s.at bytes)) e.1.1
    ∙ ap (λ (n : ℕ). 0 + 2 ^ n * little (drop s.at bytes)) e.1.0
    ∙ ap (λ (n : ℕ). 0 + 1 * little (drop n bytes)) e.0
    ∙ omega arith

-- without z zeros
pub record Without (s t : Low) (z : ℕ) : Type 0 where
  pub zeros : s.low ≡ 2 ^ z * (s.low / 2 ^ z)
  pub shifted : (t.at ≡ s.at) × ((t.bits + z ≡ s.bits) × (t.low ≡ s.low / 2 ^ z))

module _ {s t : Low} {z : ℕ} (w : Without s t z) where
  pub remaining_shifted : (bytes : List ℕ) → remaining bytes s ≡ 2 ^ z * remaining bytes t
  unfolding remaining
  remaining_shifted bytes =
      let h = w.shifted in
      let power : 2 ^ s.bits ≡ 2 ^ z * 2 ^ t.bits = ap (λ (n : ℕ). 2 ^ n) (sym h.1.0) ∙ pow-add 2 t.bits z ∙ omega arith in
      rw (power, h.0, h.1.1) (omega (arith, w.zeros))

  -- and something is still left
  pub still : (used : ℕ) → (s.low ≡ 0 → s.at < used) → t.low ≡ 0 → t.at < used
  still used going n =
      let h = w.shifted in
      let none : s.low ≡ 0 = w.zeros ∙ ap (λ (q : ℕ). 2 ^ z * q) (sym h.1.1 ∙ n) ∙ omega arith in
      omega (arith, h.0, going none)

-- the bytes from a place on: 0 where the number ends below it, and not 0 where it does not
none_above : (bytes : List ℕ) (at : ℕ) → little bytes < 256 ^ at → little (drop at bytes) ≡ 0
unfolding little
none_above bytes zero h = omega arith
none_above [] (suc at) h = refl
none_above (b ∷ bytes) (suc at) h = none_above bytes at (omega (arith, pow-suc 256 at))

some_above : (bytes : List ℕ) (at : ℕ) → Bytes bytes → 256 ^ at ≤ little bytes → 0 < little (drop at bytes)
unfolding little
some_above bytes zero b h = omega arith
some_above [] (suc at) b h = absurd (omega (arith, pow_pos (8 * suc at), bytes_power (suc at)))
some_above (x ∷ bytes) (suc at) b h =
    some_above bytes at (λ i. b (suc i)) (omega (arith, pow-suc 256 at, b 0))

-- the bytes in use are those below the bit length
abbrev pub Used : List ℕ → ℕ → Type 0
Used bytes used = used ≡ (bit_length (little bytes) + 7) / 8

below : (n at : ℕ) → bit_length n ≤ 8 * at → n < 256 ^ at
below n at h = rw bytes_power (omega (arith, below_length n, pow_mono h))

past : (n at : ℕ) → 8 * at < bit_length n → 256 ^ at ≤ n
past n at h =
    let short : ¬ (n < 256 ^ at) = λ l. omega (arith, length_least n (8 * at) (rw bytes_power at l)) in
    omega arith

-- and they alone have the whole number
pub used_whole : (bytes : List ℕ) (used : ℕ) → Used bytes used → little (take used bytes) ≡ little bytes
used_whole bytes used u =
    let above : little (drop used bytes) ≡ 0 = none_above bytes used (below (little bytes) used (omega arith)) in
    let parts : little bytes ≡ little (take used bytes) + 256 ^ length (take used bytes) * little (drop used bytes) =
    ap little (sym (take-append-drop used bytes)) ∙ little_append (take used bytes) (drop used bytes)
    in
    sym (parts ∙ rw above (omega arith))

pub remaining_zero : (bytes : List ℕ) (s : Low) (used : ℕ) → Used bytes used → (s.low ≡ 0) × (used ≤ s.at) → remaining bytes s ≡ 0
unfolding remaining
remaining_zero bytes s used u e =
    rw (e.0, none_above bytes s.at (below (little bytes) s.at (omega arith))) (omega arith)

pub remaining_some : (bytes : List ℕ) (s : Low) (used : ℕ) → Bytes bytes → Used bytes used → (s.low ≡ 0 → s.at < used) → 0 < remaining bytes s
unfolding remaining
remaining_some bytes s used b u e = go s.low refl
  where
    go : (n : ℕ) → s.low ≡ n → 0 < s.low + 2 ^ s.bits * little (drop s.at bytes)
    go zero f =
        let more : 0 < little (drop s.at bytes) = some_above bytes s.at b (past (little bytes) s.at (omega (arith, e f))) in
        omega (arith, mul-le-mul_left (2 ^ s.bits) more, pow_pos s.bits)
    go (suc n) f = omega arith

-- the remainder by a power of two that the low bits reach is theirs
pub low_bits : (bytes : List ℕ) (s : Low) (w : ℕ) → w ≤ s.bits → remaining bytes s % 2 ^ w ≡ s.low % 2 ^ w
unfolding remaining
low_bits bytes s w h =
    let power : 2 ^ s.bits ≡ 2 ^ w * 2 ^ (s.bits - w) = ap (λ (n : ℕ). 2 ^ n) (omega arith) ∙ pow-add 2 w (s.bits - w) in
    rw (power, mul_assoc, add-mul-mod_self_left)

-- less a digit and halved
half_is : (z : ℤ) (k : ℕ) → down z ≡ 0 → 2 * k ≤ up z → up z ≤ 2 * k + 1 → pos k ≡ half z
unfolding half
half_is (pos n) k e l u = ap pos (omega arith)
half_is (negsuc n) k e l u = absurd (omega arith)

half_more : (x X k : ℕ) (d : ℤ) → pos k ≡ half (pos x -ℤ d) → pos (k + X) ≡ half (pos (x + 2 * X) -ℤ d)
half_more x X k d e = half_is y (k + X) parts.0 parts.1.0 parts.1.1
  where
    y : ℤ
    y = pos (x + 2 * X) -ℤ d

    parts : (down y ≡ 0) × ((2 * (k + X) ≤ up y) × (up y ≤ 2 * (k + X) + 1))
    parts = omega (arith, half_parts (pos x -ℤ d) k e, difference (pos x) d, difference (pos (x + 2 * X)) d, one_side y)

pub remaining_less : (bytes : List ℕ) (s t : Low) (d : ℤ) → t.at ≡ s.at → t.bits + 1 ≡ s.bits → pos t.low ≡ half (pos s.low -ℤ d)
    → pos (remaining bytes t) ≡ half (pos (remaining bytes s) -ℤ d)
unfolding remaining
remaining_less bytes s t d a b l =
    let power : 2 ^ s.bits * little (drop s.at bytes) ≡ 2 * (2 ^ t.bits * little (drop t.at bytes)) =
    rw (← b, add-one, pow-suc, ← a) (omega arith)
    in
    rw power (half_more s.low (2 ^ t.bits * little (drop t.at bytes)) t.low d l)

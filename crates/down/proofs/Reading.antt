-- The bits that were read and not yet taken: those of the scalar from a place down, turned for a minus, and zeros below them. More bytes go
-- below them, and the highest are taken off.
use mathlib.Core.Path.{◌≡◌, sym, ap, ap₂, subst, ◌∙◌}
use mathlib.Core.Bool.{Bool, true, false, not}
use mathlib.Core.List.{List, ◌++◌}
use Prim.Native.Nat.{ℕ, ◌+◌, ◌*◌, ◌-◌, ◌/◌, ◌%◌, ◌^◌, ◌≤◌, ◌<◌}
use native.Mathlib.Nat.{mul_assoc, add-mul, mul-le-mul_right, add-mul-mod_self_left, mod-lt, mod-eq_of_lt, div-eq_of_lt, div-add-mod'}
use native.Mathlib.Omega.{arith}
use lib.Dec.{T, leb, leb→le, nleb→lt}
use lib.ListN.{length, get_or, take, replicate, length-append, get_or-eq_default}
use lib.Pow.{pow-add, pow_pos, shr_lt}
use Rattle.digits.specs.Buffer.Zeros.{padded_at}
use Rattle.digits.specs.Scalar.{Bytes, little, scalar}
use Rattle.digits.specs.Scalar.Value.{scalar_below, bytes_power}
use Rattle.down.specs.declared.bits.Bits.{Bits}
use Rattle.down.specs.Body.Ahead.{four, eight, turned, room, Filled}
use Rattle.down.specs.Down.Bits.{shifted, shifted_up, shifted_above, shifted_lower}
use Rattle.down.proofs.FourBytes.{scalar_append, first_bytes, four_more}
use Rattle.down.proofs.TurnedBits.{split, fewer, higher, joined, above_zeros, turned_less, turned_joined, turned_low, turned_high}

-- ── what was read ───────────────────────────────────────────────────────────────────────────

-- `held` bits of u from place i down
abbrev pub from : ℕ → ℕ → ℕ → ℕ
from u i held = shifted u i (held - 1) % 2 ^ held

-- they are the highest of the bits, turned for a minus, and the next byte is the one below them
pub record Reading (u L sign i at held bits : ℕ) : Type 0 where
  pub some : 1 ≤ held
  pub few : held ≤ 64
  pub level : i + 1 + 8 * at ≡ held + 8 * L
  pub same : bits ≡ turned sign held (from u i held) * 2 ^ (64 - held)

none_above : (s : List ℕ) → Bytes s → shifted (scalar s) (8 * length s) 0 ≡ 0
unfolding shifted
none_above s bytes = div-eq_of_lt (omega (arith, scalar_below s bytes, bytes_power (length s)))

-- at first it is the 0 above all bytes
pub start_reading : (s : List ℕ) (sign bits : ℕ) → Bytes s → bits ≡ turned sign 1 0 * 2 ^ 63 → Reading (scalar s) (length s) sign (8 * length s) 0 1 bits
start_reading s sign bits bytes e =
    record {
      some = omega arith;
      few = omega arith;
      level = omega arith;
      same = e ∙ ap (λ (x : ℕ). turned sign 1 (x % 2 ^ 1) * 2 ^ 63) (sym (none_above s bytes));
    }

-- four zeros behind the bytes
abbrev followed : List ℕ → List ℕ
followed s = s ++ replicate 4 0

followed_scalar : (s : List ℕ) → scalar (followed s) ≡ 2 ^ 32 * scalar s
unfolding scalar little
followed_scalar s = scalar_append s (replicate 4 0) ∙ omega arith

followed_bytes : (s : List ℕ) → Bytes s → Bytes (followed s)
followed_bytes s bytes i = rw (padded_at s 4 i) (bytes i)

same_four : (s : List ℕ) (p : ℕ) → four (followed s) p ≡ four s p
same_four s p = rw (padded_at s 4 p, padded_at s 4 (p + 1), padded_at s 4 (p + 2), padded_at s 4 (p + 3))

four_small : (s : List ℕ) (at : ℕ) → Bytes s → four s at < 2 ^ 32
four_small s at bytes = omega (arith, bytes at, bytes (at + 1), bytes (at + 2), bytes (at + 3))

-- the four bytes from `at` on are the 32 bits below place 8 (L − at)
word_within : (s : List ℕ) (at q : ℕ) → Bytes s → at + q ≡ length s → four s at ≡ 2 ^ 32 * scalar s / 256 ^ q % 2 ^ 32
word_within s at q bytes e =
    let long : length (followed s) ≡ length s + 4 = length-append s (replicate 4 0) ∙ omega arith in
    sym (
    ap (λ (x : ℕ). x % 2 ^ 32)
    (ap (λ (x : ℕ). x / 256 ^ q) (sym (followed_scalar s))
    ∙ first_bytes (followed s) (at + 4) q (followed_bytes s bytes) (omega (arith, long))
    ∙ four_more (followed s) at (omega (arith, long))
    ∙ ap (λ (x : ℕ). x + 2 ^ 32 * scalar (take at (followed s))) (same_four s at))
    ∙ add-mul-mod_self_left (four s at) (2 ^ 32) (scalar (take at (followed s)))
    ∙ mod-eq_of_lt (four_small s at bytes))

-- below place 0 there are zeros
word_past : (s : List ℕ) (at : ℕ) → length s ≤ at → four s at ≡ 0
word_past s at h =
    let past : (j : ℕ) → length s ≤ j → get_or s j 0 ≡ 0 = λ j l. get_or-eq_default s 0 {n = j} l in
    omega (arith, past at (omega arith), past (at + 1) (omega arith), past (at + 2) (omega arith), past (at + 3) (omega arith))

word_is : (s : List ℕ) (i at held : ℕ) → Bytes s → 1 ≤ held → i + 1 + 8 * at ≡ held + 8 * length s → four s at ≡ shifted (scalar s) i (held - 1 + 32) % 2 ^ 32
unfolding shifted
word_is s i at held bytes some level = go (leb at (length s)) (leb→le at (length s)) (nleb→lt at (length s))
  where
    u : ℕ
    u = scalar s

    L : ℕ
    L = length s

    go : (t : Bool) → (T t → at ≤ L) → (T (not t) → L < at) → four s at ≡ shifted u i (held - 1 + 32) % 2 ^ 32
    go true p q =
        let rest : ℕ = L - at in
        let h : at ≤ L = p tt in
        word_within s at rest bytes (omega arith)
        ∙ ap (λ (x : ℕ). x % 2 ^ 32)
        (ap (λ (x : ℕ). 2 ^ 32 * u / x) (bytes_power rest) ∙ sym (shifted_lower u (8 * rest) 32 (held - 1)) ∙ ap (λ (n : ℕ). shifted u n (held - 1 + 32)) (omega arith))
    go false p q =
        let more : ℕ = 8 * (at - L) in
        let h : L < at = q tt in
        word_past s at (omega arith)
        ∙ sym (
        ap (λ (x : ℕ). x % 2 ^ 32)
        (shifted_up u i (held - 1 + 32) (omega arith) ∙ ap (λ (n : ℕ). 2 ^ n * u) (omega arith) ∙ ap (λ (x : ℕ). x * u) (pow-add 2 32 more) ∙ mul_assoc (2 ^ 32) (2 ^ more) u)
        ∙ omega arith)

-- y is the bits held
module _ {u L sign i at held bits : ℕ} (r : Reading u L sign i at held bits) where
  abbrev y : ℕ
  y = from u i held

  pub held_less : y < 2 ^ held
  held_less = mod-lt (shifted u i (held - 1)) (pow_pos held)

  -- there is space below them
  pub space : bits + 2 ^ (64 - held) ≤ 2 ^ 64
  space =
      let c : ℕ = 64 - held in
      let z : ℕ = turned sign held y in
      let most : (z + 1) * 2 ^ c ≤ 2 ^ held * 2 ^ c = mul-le-mul_right (2 ^ c) (omega (arith, turned_less sign held y held_less)) in
      omega (arith, r.same, most, add-mul z 1 (2 ^ c), sym (pow-add 2 held c) ∙ ap (λ (n : ℕ). 2 ^ n) {x = held + c} {y = 64} (omega (arith, r.few)))

  -- some are taken
  pub less_read : (t i' : ℕ) → t < held → i ≡ t + i' → Reading u L sign i' at (held - t) (bits * 2 ^ t % 2 ^ 64)
  less_read t i' h e =
      record {
        some = omega arith;
        few = omega (arith, r.few);
        level = omega (arith, r.level);
        same =
            ap (λ (n : ℕ). n * 2 ^ t % 2 ^ 64) r.same ∙ ap (λ (n : ℕ). n % 2 ^ 64) (mul_assoc z (2 ^ (64 - held)) (2 ^ t))
            ∙ ap₂ (λ (p q : ℕ). z * p % q) power all ∙ above_zeros z c a
            ∙ ap (λ (n : ℕ). n * 2 ^ c) (ap (λ (n : ℕ). turned sign n y % 2 ^ a) (sym whole) ∙ turned_low sign a t y (subst (λ (n : ℕ). y < 2 ^ n) (sym whole) held_less) ∙ ap (turned sign a) low);
      }
    where
      a : ℕ
      a = held - t

      c : ℕ
      c = 64 - a

      z : ℕ
      z = turned sign held y

      whole : a + t ≡ held
      whole = omega arith

      power : 2 ^ (64 - held) * 2 ^ t ≡ 2 ^ c
      power = sym (pow-add 2 (64 - held) t) ∙ ap (λ (n : ℕ). 2 ^ n) {x = 64 - held + t} {y = c} (omega (arith, r.few))

      all : 2 ^ 64 ≡ 2 ^ (c + a)
      all = ap (λ (n : ℕ). 2 ^ n) {x = 64} {y = c + a} (omega (arith, r.few))

      low : y % 2 ^ a ≡ from u i' a
      low =
          ap (λ (n : ℕ). shifted u i (held - 1) % 2 ^ n % 2 ^ a) (sym whole) ∙ fewer (shifted u i (held - 1)) a t
          ∙ ap (λ (n : ℕ). n % 2 ^ a) (ap₂ (shifted u) e (omega arith) ∙ shifted_lower u i' (a - 1) t)

-- eight bytes are the 64 bits below those held
eight_is : (s : List ℕ) (i at held : ℕ) → Bytes s → 1 ≤ held → i + 1 + 8 * at ≡ held + 8 * length s → eight s at ≡ shifted (scalar s) i (held - 1 + 64) % 2 ^ 64
eight_is s i at held bytes some level =
    let X : ℕ = shifted (scalar s) i (held - 1 + 64) in
    let high : four s at ≡ X / 2 ^ 32 % 2 ^ 32 =
    word_is s i at held bytes some level
    ∙ ap (λ (n : ℕ). n % 2 ^ 32) (sym (shifted_above (scalar s) i (held - 1 + 32) 32) ∙ ap (λ (n : ℕ). shifted (scalar s) i n / 2 ^ 32) {x = held - 1 + 32 + 32} {y = held - 1 + 64} (omega arith))
    in
    let low : four s (at + 4) ≡ X % 2 ^ 32 =
    word_is s i (at + 4) (held + 32) bytes (omega arith) (omega arith) ∙ ap (λ (n : ℕ). shifted (scalar s) i n % 2 ^ 32) {x = held + 32 - 1 + 32} {y = held - 1 + 64} (omega arith)
    in
    omega (arith, split X 32 32, high, low)

-- as many bytes more as there is room for
pub fill_read : (s : List ℕ) (sign : ℕ) (b r : Bits) {i : ℕ} → Bytes s → b.held ≤ 56 → Filled s sign b r → Reading (scalar s) (length s) sign i b.at b.held b.bits
    → Reading (scalar s) (length s) sign i r.at r.held r.bits
fill_read s sign b r {i} bytes h f g =
    record {
      some = omega (arith, f.1.0, g.some);
      few = omega (arith, f.1.0, whole);
      level = omega (arith, f.0, f.1.0, g.level, whole);
      same =
          f.1.1
          ∙ ap₂ (λ (p q : ℕ). p + q * 2 ^ c) (g.same ∙ ap (λ (n : ℕ). z * n) power ∙ sym (mul_assoc z (2 ^ more) (2 ^ c))) word_turned
          ∙ sym (add-mul (z * 2 ^ more) (turned sign more w) (2 ^ c))
          ∙ ap₂ (λ (p q : ℕ). p * 2 ^ q) (sym (turned_joined sign more held y w (held_less g) w_less) ∙ ap₂ (turned sign) (sym long) (sym all)) (omega (arith, f.1.0, whole));
    }
  where
    held : ℕ
    held = b.held

    u : ℕ
    u = scalar s

    c : ℕ
    c = (64 - held) % 8

    more : ℕ
    more = room held

    rest : ℕ
    rest = 64 - more

    whole : held + more + c ≡ 64
    whole = omega (arith, g.few)

    e : ℕ
    e = eight s b.at

    w : ℕ
    w = e / 2 ^ rest

    y : ℕ
    y = from u i held

    z : ℕ
    z = turned sign held y

    e_less : e < 2 ^ 64
    e_less = omega (arith, four_small s b.at bytes, four_small s (b.at + 4) bytes)

    e_parts : e < 2 ^ (rest + more)
    e_parts = subst (λ (n : ℕ). e < 2 ^ n) {x = 64} {y = rest + more} (omega (arith, whole)) e_less

    w_less : w < 2 ^ more
    w_less = shr_lt more rest (subst (λ (n : ℕ). e < 2 ^ n) {x = 64} {y = more + rest} (omega (arith, whole)) e_less)

    word_turned : turned sign 64 e / 2 ^ rest ≡ turned sign more w
    word_turned = ap (λ (n : ℕ). turned sign n e / 2 ^ rest) {x = 64} {y = rest + more} (omega (arith, whole)) ∙ turned_high sign rest more e e_parts

    long : r.held ≡ more + held
    long = f.1.0 ∙ omega arith

    power : 2 ^ (64 - held) ≡ 2 ^ more * 2 ^ c
    power = ap (λ (n : ℕ). 2 ^ n) {x = 64 - held} {y = more + c} (omega (arith, whole)) ∙ pow-add 2 more c

    -- they are the next ones of the scalar
    word_bits : w ≡ shifted u i (held - 1 + more) % 2 ^ more
    word_bits =
        ap (λ (n : ℕ). n / 2 ^ rest) (eight_is s i b.at held bytes g.some g.level)
        ∙ ap (λ (n : ℕ). shifted u i (held - 1 + 64) % 2 ^ n / 2 ^ rest) {x = 64} {y = rest + more} (omega (arith, whole)) ∙ higher (shifted u i (held - 1 + 64)) rest more
        ∙ ap (λ (n : ℕ). n % 2 ^ more)
        (ap (λ (n : ℕ). shifted u i n / 2 ^ rest) {x = held - 1 + 64} {y = held - 1 + more + rest} (omega (arith, whole)) ∙ shifted_above u i (held - 1 + more) rest)

    all : from u i r.held ≡ y * 2 ^ more + w
    all =
        ap (λ (n : ℕ). shifted u i (n - 1) % 2 ^ n) long
        ∙ ap (λ (n : ℕ). n % 2 ^ (more + held))
        (ap (shifted u i) {x = more + held - 1} {y = held - 1 + more} (omega (arith, g.some))
        ∙ sym (div-add-mod' (shifted u i (held - 1 + more)) (2 ^ more))
        ∙ ap₂ (λ (p q : ℕ). p * 2 ^ more + q) (shifted_above u i (held - 1) more) (sym word_bits))
        ∙ joined (shifted u i (held - 1)) w more held w_less

-- The laws of a scalar's bytes: the most significant one, leading zeros, and the bit length from the first that is not 0.
use Rattle.std.specs.Prelude.{◌≡◌, refl, ◌≢◌, ℕ, zero, suc, ◌+◌, ◌*◌, ◌-◌, ◌^◌, ◌≤◌, ◌<◌, length, get_or, drop}
use Rattle.std.proofs.Common.{sym, ap, ◌∙◌, mul-le-mul_left, pow-suc, add-suc, lt_of_lt_of_le, add-one, arith, length-drop, drop-cons, get_or-drop, pow-add, pow_mono}
use mathlib.Core.List.{List, [], ◌∷◌, ◌++◌, reverse, reverse-cons}
use Rattle.std.specs.Int.Count.{count_leading_zeros}
use Rattle.std.proofs.lemmas.Nat.{leading_top}
use Rattle.std.proofs.lemmas.List.{length-reverse}
use Rattle.digits.specs.Scalar.{Bytes, little, scalar, bit_length}
use Rattle.digits.specs.Scalar.Length.{length_only, length_least}

pub little_append : (s t : List ℕ) → little (s ++ t) ≡ little s + 256 ^ length s * little t
unfolding little
little_append [] t = omega arith
little_append (b ∷ s) t = omega (arith, little_append s t, ap (λ (n : ℕ). n * little t) (pow-suc 256 (length s)))

pub little_below : (s : List ℕ) → Bytes s → little s < 256 ^ length s
unfolding little
little_below [] h = omega arith
little_below (b ∷ s) h = omega (arith, h 0, little_below s (λ i. h (suc i)), pow-suc 256 (length s))

-- the first byte counts 256 for each byte below it
pub scalar_cons : (b : ℕ) (s : List ℕ) → scalar (b ∷ s) ≡ scalar s + 256 ^ length s * b
unfolding scalar little
scalar_cons b s =
    ap little (reverse-cons b s) ∙ little_append (reverse s) (b ∷ [])
    ∙ ap (λ (n : ℕ). little (reverse s) + 256 ^ n * (b + 256 * 0)) (length-reverse s)
    ∙ omega arith

pub scalar_below : (s : List ℕ) → Bytes s → scalar s < 256 ^ length s
unfolding scalar
scalar_below [] h = little_below [] h
scalar_below (b ∷ s) h =
    omega (arith, scalar_cons b s, scalar_below s (λ i. h (suc i)), pow-suc 256 (length s), mul-le-mul_left (256 ^ length s) (h 0))

pub bytes_power : (n : ℕ) → 256 ^ n ≡ 2 ^ (8 * n)
bytes_power zero = refl
bytes_power (suc n) =
    pow-suc 256 n ∙ ap (λ (x : ℕ). x * 256) (bytes_power n) ∙ sym (pow-add 2 (8 * n) 8) ∙ ap (λ (x : ℕ). 2 ^ x) (omega arith)

-- a leading zero byte changes nothing
pub scalar_zero : (s : List ℕ) → scalar (0 ∷ s) ≡ scalar s
scalar_zero s = omega (arith, scalar_cons 0 s)

-- n bits below a number of j + 1 bits
pub length_above : (x n b j : ℕ) → x < 2 ^ n → 2 ^ j ≤ b → b < 2 ^ suc j → bit_length (x + 2 ^ n * b) ≡ suc (n + j)
length_above x n b j l p q =
    length_only (x + 2 ^ n * b) (n + j) (omega (arith, pow-add 2 n j, mul-le-mul_left (2 ^ n) p))
    (rw (← add-suc n j) (omega (arith, pow-add 2 n (suc j), mul-le-mul_left (2 ^ n) q)))

-- the bit length of a scalar whose first byte is not 0
pub length_top : (b : ℕ) (s : List ℕ) → Bytes (b ∷ s) → 0 < b → 8 * length s + (8 - count_leading_zeros 8 b) ≡ bit_length (scalar (b ∷ s))
length_top b s h p = go (leading_top 8 b p (h 0))
  where
    low : scalar s < 2 ^ (8 * length s)
    low = rw (← bytes_power (length s)) (scalar_below s (λ i. h (suc i)))

    e : scalar (b ∷ s) ≡ scalar s + 2 ^ (8 * length s) * b
    e = rw (← bytes_power (length s)) (scalar_cons b s)

    go : (j : ℕ) × (count_leading_zeros 8 b + suc j ≡ 8) × (2 ^ j ≤ b) × (b < 2 ^ suc j) → 8 * length s + (8 - count_leading_zeros 8 b) ≡ bit_length (scalar (b ∷ s))
    go t = omega (arith, ap bit_length e, length_above (scalar s) (8 * length s) b t.0 low t.2 t.3)

pub length_bytes : (s : List ℕ) → Bytes s → bit_length (scalar s) ≤ 8 * length s
length_bytes s h = length_least (scalar s) (8 * length s) (rw (← bytes_power (length s)) (scalar_below s h))

-- a scan from the first byte: a zero byte is passed over, and the first other one gives the length
pub pass_zero : (s : List ℕ) (i : ℕ) → i < length s → get_or s i 0 ≡ 0 → scalar (drop (i + 1) s) ≡ scalar (drop i s)
pass_zero s i h e = rw (drop-cons s i 0 h, e, scalar_zero, ← add-one i)

pub at_top : (s : List ℕ) (i : ℕ) → i < length s → Bytes s → get_or s i 0 ≢ 0 → 8 * (length s - (i + 1)) + (8 - count_leading_zeros 8 (get_or s i 0)) ≡ bit_length (scalar (drop i s))
at_top s i h bytes ne =
    rw (drop-cons s i 0 h, ← length_top (get_or s i 0) (drop (suc i) s) here (omega arith))
    (omega (arith, length-drop (suc i) s))
  where
    here : Bytes (get_or s i 0 ∷ drop (suc i) s)
    here zero = bytes i
    here (suc j) = rw (get_or-drop (suc i) s j 0) (bytes (suc i + j))

-- a scalar of at most n bytes has at most 8 n bits
pub scalar_bits : (s : List ℕ) (n : ℕ) → Bytes s → length s ≤ n → scalar s < 2 ^ (8 * n)
scalar_bits s n h l =
    let more : 8 * length s ≤ 8 * n = omega arith in
    lt_of_lt_of_le (rw (← bytes_power (length s)) (scalar_below s h)) (pow_mono more)

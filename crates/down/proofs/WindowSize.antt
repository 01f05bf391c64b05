-- What a window is worth in size, from the top bits of x: it is not 0, and is an odd number above its zeros; its width, by the test of
-- line 9; and the sign and the byte of its digit.
use mathlib.Core.Path.{◌≡◌, refl, sym, ap, subst, ◌∙◌}
use mathlib.Core.Logic.{◌≢◌}
use mathlib.Core.Bool.{Bool, true, false, cond}
use Prim.Native.Nat.{ℕ, zero, suc, ◌+◌, ◌*◌, ◌-◌, ◌/◌, ◌%◌, ◌^◌, ◌≤◌, ◌<◌}
use native.Mathlib.Nat.{mul-le-mul_left, mul-le-mul_right, one-mul, mul-div_cancel_left, lt_of_not-le, le-div_iff_mul-le, div-lt_iff_lt-mul, pow-succ'}
use native.Mathlib.Omega.{arith}
use lib.Count.{count_trailing_zeros}
use lib.Dec.{ltb}
use lib.IntN.{ℤ, pos, neg_ℤ}
use lib.Pow.{pow_pos, pow-add, pow_mono}
use borrow.Author.Tests.{eq-eqb, ne_eqb, le-ltb, lt-ltb}
use Rattle.digits.specs.Byte.{byte_of}
use Rattle.digits.proofs.Laws.Byte.Signed.{byte_negated}
use Rattle.digits.specs.Integer.{signed_by}
use Rattle.digits.specs.Integer.Congruent.{power_step}
use Rattle.digits.specs.Integer.Parts.{integers, negation}
use Rattle.digits.specs.Scalar.{bit_length}
use Rattle.digits.specs.Scalar.Length.{below_length, length_least}
use Rattle.digits.specs.Scalar.Zeros.{odd_part}
use Rattle.forms.specs.Residue.{width}
use Rattle.forms.specs.Residue.Width.{width_least, width_is}
use Rattle.down.specs.declared.window.WindowDigit.{WindowDigit}
use Rattle.down.specs.Body.Window.{size_of, width_of, WindowOf}
use Rattle.down.specs.Down.{beyond}

-- the w top bits of x
top_bits : (x b w : ℕ) → b ≡ bit_length x → w ≤ b → x / 2 ^ (b - w) < 2 ^ w
top_bits x b w e l =
    (div-lt_iff_lt-mul (pow_pos (b - w))).1
    (rw (sym (pow-add 2 w (b - w))) (subst (λ (k : ℕ). x < 2 ^ k) {x = bit_length x} {y = w + (b - w)} (omega arith) (below_length x)))

-- no size is above 2^(w−1)
size_most : (x b w : ℕ) → b ≡ bit_length x → 1 ≤ w → w ≤ b → size_of x b w ≤ 2 ^ (w - 1)
size_most x b w e h l =
    let twice : 2 ^ w ≡ 2 * 2 ^ (w - 1) = ap (λ (k : ℕ). 2 ^ k) {x = w} {y = suc (w - 1)} (omega arith) ∙ pow-succ' 2 (w - 1) in
    omega (arith, top_bits x b w e l)

-- a number of b bits is at least 2^k for every k below b
pub at_least : (x b k : ℕ) → b ≡ bit_length x → k < b → 2 ^ k ≤ x
at_least x b k e h = let over : ¬ (x < 2 ^ k) = λ l. omega (arith, length_least x k l) in omega arith

-- the size is not 0
size_some : (x b w : ℕ) → b ≡ bit_length x → 1 ≤ w → w ≤ b → 1 ≤ size_of x b w
size_some x b w e h l =
    let one : 1 ≤ x / 2 ^ (b - w) = (le-div_iff_mul-le (pow_pos (b - w))).1 (omega (arith, at_least x b (b - w) e (omega arith))) in
    omega arith

-- the width of a window of at most 31
pub width_few : (m : ℕ) → 1 ≤ m → m ≤ 31 → (2 ≤ width m) × (width m ≤ 6)
width_few m h l = (omega (arith, (width_is m h).is), (width_least m h).1 6 (omega arith))

-- one place fewer than a width, or none
pub chosen : (c : Bool) (W : ℕ) → 2 ≤ W → (1 ≤ cond c (W - 1) W) × (cond c (W - 1) W ≤ W)
chosen true W h = (omega arith, omega arith)
chosen false W h = (omega arith, omega arith)

-- a size of at most 2^(W−1) is odd and not in the window m where its odd part is not: that of an even one is at most 2^(W−2)
pub beyond_odd : (m W n z o : ℕ) → 2 ≤ W → 2 ^ (W - 2) ≤ m → n ≤ 2 ^ (W - 1) → n ≡ 2 ^ z * o → o % 2 ≡ 1 → beyond m (pos n) ≡ ltb m o
beyond_odd m W n zero o h k l e odd =
    let same : n ≡ o = e ∙ one-mul o in rw (same, eq-eqb (o % 2) 1 odd) refl
beyond_odd m W n (suc z) o h k l e odd =
    let half : 2 ^ (W - 1) ≡ 2 * 2 ^ (W - 2) = ap (λ (j : ℕ). 2 ^ j) {x = W - 1} {y = suc (W - 2)} (omega arith) ∙ pow-succ' 2 (W - 2) in
    let even : n ≡ 2 * (2 ^ z * o) = e ∙ power_step z o in
    let small : o ≤ m = omega (arith, half, even, mul-le-mul_right {m = 1} {n = 2 ^ z} o (pow_pos z)) in
    rw (ne_eqb (n % 2) 1 (omega (arith, even)), le-ltb m o small) refl

-- the window of the width W, or of one place fewer
module _ (m x b most : ℕ) (one : 1 ≤ m) (few : m ≤ 31) (is : b ≡ bit_length x) (within : b ≤ 64) (fits : most ≤ 63) (there : most + b ≡ 63 + width m) where
  abbrev W : ℕ
  W = width m

  bounds : (2 ≤ W) × (W ≤ 6)
  bounds = width_few m one few

  least : 2 ^ (W - 2) ≤ m
  least = let i = width_is m one in omega (arith, i.within, ap (λ (k : ℕ). 2 ^ k) {x = W - 2} {y = i.k} (omega (arith, i.is)))

  -- w of the top bits of x
  module _ (low w : ℕ) (under : low + w ≡ b) where
    low_is : low ≡ b - w
    low_is = omega arith

    pub half_less : w ≤ 6 → x / 2 ^ low < 64
    half_less l = omega (arith, ap (λ (k : ℕ). x / 2 ^ k) low_is, top_bits x b w is (omega arith), pow_mono {i = w} {j = 6} l)

    half_is : (n : ℕ) → n ≡ (x / 2 ^ low + 1) / 2 → n ≡ size_of x b w
    half_is n e = e ∙ ap (λ (k : ℕ). (x / 2 ^ k + 1) / 2) low_is

    pub half_some : 1 ≤ w → (n : ℕ) → n ≡ (x / 2 ^ low + 1) / 2 → 0 < n
    half_some h n e = omega (arith, half_is n e, size_some x b w is h (omega arith))

  module _ (n : ℕ) (r : WindowDigit) (size : n ≡ (x / 2 ^ (63 - most) + 1) / 2) (made : (r.taken ≡ most) × ((n ≡ 2 ^ r.zeros * r.odd) × (r.odd % 2 ≡ 1))) where
    wide : n ≡ size_of x b W
    wide = half_is (63 - most) W (omega arith) n size

    beyond_is : beyond m (pos (size_of x b W)) ≡ ltb m r.odd
    beyond_is =
        ap (λ (k : ℕ). beyond m (pos k)) (sym wide)
        ∙ beyond_odd m W n r.zeros r.odd bounds.0 least (omega (arith, wide, size_most x b W is (omega (arith, bounds)) (omega (arith, there, fits)))) made.1.0 made.1.1

    pub window_wide : r.odd ≤ m → WindowOf 63 m x b r
    window_wide l =
        let full : width_of m x b ≡ W = ap (λ (c : Bool). cond c (W - 1) W) (beyond_is ∙ le-ltb m r.odd l) in
        record {
          taken = omega (arith, made.0, there, full);
          size = ap (size_of x b) full ∙ sym wide ∙ made.1.0;
          odd = made.1.1;
        }

    pub window_narrow : m < r.odd → (k : ℕ) (s : WindowDigit) → k ≡ (x / 2 ^ (64 - most) + 1) / 2 → (s.taken ≡ most - 1) × ((k ≡ 2 ^ s.zeros * s.odd) × (s.odd % 2 ≡ 1)) → WindowOf 63 m x b s
    window_narrow l k s e again =
        let less : width_of m x b ≡ W - 1 = ap (λ (c : Bool). cond c (W - 1) W) (beyond_is ∙ lt-ltb m r.odd l) in
        record {
          taken = omega (arith, again.0, there, less, bounds, within);
          size = ap (size_of x b) less ∙ sym (half_is (64 - most) (W - 1) (omega (arith, bounds)) k e) ∙ again.1.0;
          odd = again.1.1;
        }

-- fewer zeros than bits
zeros_below : (k n z q : ℕ) → n < 2 ^ k → n ≡ 2 ^ z * q → q % 2 ≡ 1 → z < k
zeros_below k n z q l e o =
    lt_of_not-le {n = k} {m = z} (λ (g : k ≤ z). omega (arith, pow_mono {i = k} {j = z} g, mul-le-mul_left {m = 1} {n = q} (2 ^ z) (omega arith)))

-- a number that is not 0, by its trailing zeros
pub trailing : (n : ℕ) → 1 ≤ n → n < 2 ^ 32 → let z = count_trailing_zeros 32 n in (z < 32) × ((n ≡ 2 ^ z * (n / 2 ^ z)) × (n / 2 ^ z % 2 ≡ 1))
trailing n p l = go (count_trailing_zeros 32 n) (odd_part 32 n p l)
  where
    go : (z : ℕ) → (q : ℕ) × (n ≡ 2 ^ z * q) × (q % 2 ≡ 1) → (z < 32) × ((n ≡ 2 ^ z * (n / 2 ^ z)) × (n / 2 ^ z % 2 ≡ 1))
    go z t =
        let quotient : n / 2 ^ z ≡ t.0 = ap (λ (k : ℕ). k / 2 ^ z) t.1 ∙ mul-div_cancel_left t.0 (pow_pos z) in
        (zeros_below 32 n z t.0 l t.1 t.2, (rw quotient t.1, rw quotient t.2))

-- r is the sign that a digit with the sign `below` has in the row of a scalar with a sign
abbrev pub Signs : ℕ → ℕ → ℕ → Type 0
Signs sign below r = (z : ℤ) → signed_by r z ≡ signed_by sign (signed_by below z)

pub minus_sign : (s below : ℕ) → below ≤ 1 → Signs (suc s) below (1 - below)
minus_sign s zero h z = refl
minus_sign s (suc zero) h z = omega (integers, negation z, negation (neg_ℤ z))
minus_sign s (suc (suc b)) h z = absurd (omega arith)

-- the byte of a digit
pub plus_byte : (sign n : ℕ) → sign ≡ 0 → n ≤ 32 → n ≡ byte_of (signed_by sign (pos n))
unfolding byte_of
plus_byte sign n e h = sym (ap (λ (s : ℕ). byte_of (signed_by s (pos n))) e ∙ omega arith)

pub minus_byte : (sign n : ℕ) → sign ≢ 0 → 1 ≤ n → n ≤ 32 → 256 - n ≡ byte_of (signed_by sign (pos n))
unfolding byte_of
minus_byte zero n h l k = absurd (h refl)
minus_byte (suc s) n h l k = sym (byte_negated (pos n) ∙ omega arith)

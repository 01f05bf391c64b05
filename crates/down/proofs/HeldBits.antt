-- What the bits held tell. They are the highest of 64. Folded, the 64 are y and those held are x: x is the bits below a place, turned by the one
-- there; it has the window of y where that is within the bits held, and else as many equal bits. From the bit lengths.
use mathlib.Core.Path.{◌≡◌, refl, sym, ap, ap₂, subst, ◌∙◌}
use mathlib.Core.Bool.{Bool, true, false, not, cond}
use Prim.Native.Nat.{ℕ, zero, suc, ◌+◌, ◌*◌, ◌-◌, ◌/◌, ◌%◌, ◌^◌, ◌≤◌, ◌<◌}
use native.Mathlib.Nat.{mul_comm, mul-div-mul_left, mul-le-mul_right, mul-lt-mul_of_pos_right, div-eq_of_lt, div-eq_of_lt-le, le-div_iff_mul-le, pow-succ'}
use native.Mathlib.Omega.{arith}
use lib.Arith.{digits_div}
use lib.Dec.{T, leb, leb→le, nleb→lt}
use lib.IntN.{pos}
use lib.Pow.{pow-add, pow_pos, pow_mono, shl-shr, shr_lt, shr-shr}
use Rattle.digits.specs.Scalar.{bit_length}
use Rattle.digits.specs.Scalar.Length.{below_length, length_least}
use Rattle.forms.specs.Residue.{width}
use Rattle.down.specs.declared.window.WindowDigit.{WindowDigit}
use Rattle.down.specs.Body.Ahead.{turned, Folded}
use Rattle.down.specs.Body.Window.{size_of, width_of, WindowOf}
use Rattle.down.specs.Down.{beyond}
use Rattle.down.specs.Down.Bits.{shifted}
use Rattle.down.proofs.AheadBits.{Ahead, read_plus, read_minus}
use Rattle.down.proofs.Reading.{Reading, from, held_less}
use Rattle.down.proofs.TurnedBits.{all_bits, turned_less}
use Rattle.down.proofs.WindowSize.{Signs, minus_sign, at_least, chosen}

-- ── the bits below a place ──────────────────────────────────────────────────────────────────

-- a number of n + 1 bits above c others that is folded
module _ (n c z x : ℕ) (all : suc n + c ≡ 64) (few : z < 2 ^ suc n) (f : Folded (z * 2 ^ c) x) where
  half_all : 2 ^ 63 ≡ 2 ^ n * 2 ^ c
  half_all = ap (λ (k : ℕ). 2 ^ k) {x = 63} {y = n + c} (omega arith) ∙ pow-add 2 n c

  all_all : 2 ^ 64 ≡ 2 ^ suc n * 2 ^ c
  all_all = ap (λ (k : ℕ). 2 ^ k) {x = 64} {y = suc n + c} (omega arith) ∙ pow-add 2 (suc n) c

  high_is : z * 2 ^ c / 2 ^ 63 ≡ z / 2 ^ n
  high_is = ap₂ (λ (p q : ℕ). p / q) (mul_comm z (2 ^ c)) (half_all ∙ mul_comm (2 ^ n) (2 ^ c)) ∙ mul-div-mul_left z (2 ^ n) (pow_pos c)

  fold_plus : z < 2 ^ n → x / 2 ^ c ≡ z
  fold_plus l = ap (λ (k : ℕ). k / 2 ^ c) (f.0 (omega (arith, half_all, mul-lt-mul_of_pos_right l (pow_pos c)))) ∙ shl-shr z c

  fold_minus : 2 ^ n ≤ z → x / 2 ^ c ≡ 2 ^ suc n - 1 - z
  fold_minus l =
      let q : ℕ = 2 ^ suc n - 1 - z in
      let sum = f.1 (omega (arith, half_all, mul-le-mul_right (2 ^ c) l)) in
      ap (λ (k : ℕ). k / 2 ^ c) {x = x} {y = q * 2 ^ c + (2 ^ c - 1)} (omega (arith, sum, all_all, all_bits c (suc n) z few, pow-add 2 c (suc n), mul_comm (2 ^ c) (2 ^ suc n), pow_pos c))
      ∙ digits_div q (omega (arith, pow_pos c))

-- the bits below the one at place i, and its sign in the row
pub record Seen (n u i x sign high : ℕ) : Type 0 where
  pub bit : ℕ
  pub ahead : Ahead n u i x bit
  pub signs : Signs sign bit high

seen_below : {u L sign i at n bits : ℕ} (x : ℕ) → Reading u L sign i at (suc n) bits → Folded bits x → Seen n u i (x / 2 ^ (63 - n)) sign (bits / 2 ^ 63)
seen_below {u} {L} {sign} {i} {at} {n} {bits} x r f =
    go sign (r.same ∙ ap (λ (k : ℕ). turned sign (suc n) y * 2 ^ k) (omega arith)) (leb (2 ^ n) y) (leb→le (2 ^ n) y) (nleb→lt (2 ^ n) y)
  where
    c : ℕ
    c = 63 - n

    y : ℕ
    y = from u i (suc n)

    is : y ≡ shifted u i n % 2 ^ suc n
    is = ap (λ (k : ℕ). shifted u i k % 2 ^ suc n) (omega arith)

    less : y < 2 ^ suc n
    less = held_less r

    twice : 2 ^ suc n ≡ 2 * 2 ^ n
    twice = pow-succ' 2 n

    all : suc n + c ≡ 64
    all = omega (arith, r.few)

    one : (z : ℕ) → 2 ^ n ≤ z → z < 2 ^ suc n → z / 2 ^ n ≡ 1
    one z g l = div-eq_of_lt-le (2 ^ n) (omega arith) (omega (arith, twice))

    go : (sign : ℕ) → bits ≡ turned sign (suc n) y * 2 ^ c → (t : Bool) → (T t → 2 ^ n ≤ y) → (T (not t) → y < 2 ^ n) → Seen n u i (x / 2 ^ c) sign (bits / 2 ^ 63)
    go zero e true p q =
        let g = subst (λ (k : ℕ). Folded k x) e f in
        record {
          bit = 1;
          ahead = read_minus n u i (x / 2 ^ c) y is (p tt) (omega (arith, fold_minus n c y x all less g (p tt), less));
          signs = rw (e, high_is n c y x all less g, one y (p tt) less) (λ z. refl);
        }
    go zero e false p q =
        let g = subst (λ (k : ℕ). Folded k x) e f in
        record {
          bit = 0;
          ahead = read_plus n u i (x / 2 ^ c) y is (q tt) (fold_plus n c y x all less g (q tt));
          signs = rw (e, high_is n c y x all less g, div-eq_of_lt (q tt)) (λ z. refl);
        }
    go (suc s) e true p q =
        let z : ℕ = 2 ^ suc n - 1 - y in
        let g = subst (λ (k : ℕ). Folded k x) e f in
        let some : z < 2 ^ suc n = turned_less (suc s) (suc n) y less in
        let low : z < 2 ^ n = omega (arith, twice, p tt, less) in
        record {
          bit = 1;
          ahead = read_minus n u i (x / 2 ^ c) y is (p tt) (omega (arith, fold_plus n c z x all some g low, less));
          signs = rw (e, high_is n c z x all some g, div-eq_of_lt low) (minus_sign s 1 (omega arith));
        }
    go (suc s) e false p q =
        let z : ℕ = 2 ^ suc n - 1 - y in
        let g = subst (λ (k : ℕ). Folded k x) e f in
        let some : z < 2 ^ suc n = turned_less (suc s) (suc n) y less in
        let high : 2 ^ n ≤ z = omega (arith, twice, q tt) in
        record {
          bit = 0;
          ahead = read_plus n u i (x / 2 ^ c) y is (q tt) (omega (arith, fold_minus n c z x all some g high, less));
          signs = rw (e, high_is n c z x all some g, one z high some) (minus_sign s 0 (omega arith));
        }

pub seen : {u L sign i at held bits : ℕ} (x : ℕ) → Reading u L sign i at held bits → Folded bits x → Seen (held - 1) u i (x / 2 ^ (64 - held)) sign (bits / 2 ^ 63)
seen {u} {L} {sign} {i} {at} {held} {bits} x r f = go held r
  where
    go : (h : ℕ) → Reading u L sign i at h bits → Seen (h - 1) u i (x / 2 ^ (64 - h)) sign (bits / 2 ^ 63)
    go zero r = absurd (omega (arith, r.some))
    go (suc n) r =
        subst (λ (k : ℕ). Seen k u i (x / 2 ^ (64 - suc n)) sign (bits / 2 ^ 63)) {x = n} {y = suc n - 1} (omega arith)
        (subst (λ (k : ℕ). Seen n u i (x / 2 ^ k) sign (bits / 2 ^ 63)) {x = 63 - n} {y = 64 - suc n} (omega arith) (seen_below x r f))

-- ── the window ──────────────────────────────────────────────────────────────────────────────

-- c bits are left away
module _ (y c : ℕ) where
  abbrev x : ℕ
  x = y / 2 ^ c

  -- at most k more are there
  pub length_few : (k : ℕ) → bit_length y ≤ c + k → bit_length x ≤ k
  length_few k h =
      length_least x k (shr_lt k c (omega (arith, below_length y, pow_mono {i = bit_length y} {j = k + c} (omega arith))))

  -- at least k more are there
  pub length_many : (k : ℕ) → 1 ≤ k → c + k ≤ bit_length y → k ≤ bit_length x
  length_many k h l =
      let some : 2 ^ (k - 1) ≤ x = (le-div_iff_mul-le (pow_pos c)).1 (omega (arith, at_least y (bit_length y) (k - 1 + c) refl (omega arith), pow-add 2 (k - 1) c)) in
      let over : ¬ (bit_length x < k) = λ g. omega (arith, below_length x, pow_mono {i = bit_length x} {j = k - 1} (omega arith)) in
      omega arith

  length_less : 1 ≤ bit_length x → bit_length y ≡ c + bit_length x
  length_less h =
      let b : ℕ = bit_length y in
      let low : bit_length x ≤ b - c = length_few (b - c) (omega arith) in
      omega (arith, length_many (b - c) (omega arith) (omega arith))

  -- the window is the same
  pub window_held : (n m : ℕ) (r : WindowDigit) → n + c ≡ 63 → 2 ≤ width m → width m ≤ bit_length x → WindowOf 63 m y (bit_length y) r → WindowOf n m x (bit_length x) r
  window_held n m r e h l made =
      let b : ℕ = bit_length x in
      let W : ℕ = width m in
      let long : bit_length y ≡ c + b = length_less (omega arith) in
      let same : (w : ℕ) → w ≤ b → size_of y (bit_length y) w ≡ size_of x b w =
      λ w g. ap (λ (k : ℕ). (k + 1) / 2) (ap (λ (k : ℕ). y / 2 ^ k) {x = bit_length y - w} {y = c + (b - w)} (omega arith) ∙ sym (shr-shr y c (b - w)))
      in
      let width_same : width_of m y (bit_length y) ≡ width_of m x b = ap (λ (k : ℕ). cond (beyond m (pos k)) (W - 1) W) (same W l) in
      let few = chosen (beyond m (pos (size_of x b W))) W h in
      record {
        taken = omega (arith, made.taken, width_same, long);
        size = sym (ap (size_of y (bit_length y)) width_same ∙ same (width_of m x b) (omega (arith, few))) ∙ made.size;
        odd = made.odd;
      }

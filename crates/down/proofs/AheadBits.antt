-- What the bits ahead of place i tell: the bits at and below it that are equal, what a window below those is worth, and how many places
-- it takes. The n bits below the one at place i are read as one number x, each turned where that one is set.
use mathlib.Core.Path.{◌≡◌, refl, sym, ap, subst, ◌∙◌}
use mathlib.Core.Logic.{◌≢◌}
use Prim.Native.Nat.{ℕ, zero, suc, ◌+◌, ◌*◌, ◌-◌, ◌/◌, ◌%◌, ◌^◌, ◌≤◌, ◌<◌}
use native.Mathlib.Nat.{mul-add, mul_assoc, mul_comm, add-mul-div_left, mul-div_cancel_left, div-add-mod, mod-lt, pow-suc, div-eq_of_lt, div-eq_of_lt-le, lt_of_mul-lt-mul_left, add_comm}
use native.Mathlib.Omega.{arith}
use lib.IntN.{pos, nat_abs}
use lib.Pow.{pow-add, pow_pos, pow_mono}
use borrow.Author.Tests.{ne_eqb}
use Rattle.digits.specs.Integer.{signed_by}
use Rattle.digits.specs.Integer.Congruent.{power_step, power_split}
use Rattle.digits.specs.Integer.Parts.{integers, one_side, negation}
use Rattle.digits.specs.Integer.Sign.{signed_size}
use Rattle.digits.specs.Scalar.{bit_length}
use Rattle.digits.specs.Scalar.Length.{below_length}
use Rattle.forms.specs.Residue.{width}
use Rattle.down.specs.Body.Window.{size_of, width_of}
use Rattle.down.specs.Down.{under, worth, taken}
use Rattle.down.specs.Down.Bits.{shifted, shifted_up, shifted_above, shifted_place, under_is, near, near_shifted, near_down, worth_near}
use Rattle.down.proofs.WindowSize.{at_least}

-- S is y + x, or y − 1 − x where the bits are turned
abbrev Reads : ℕ → ℕ → ℕ → ℕ → Type 0
Reads zero S y x = S ≡ y + x
Reads (suc t) S y x = S + suc x ≡ y

-- n is d above q, or below it
abbrev Apart : ℕ → ℕ → ℕ → ℕ → Type 0
Apart zero n q d = n ≡ q + d
Apart (suc t) n q d = n + d ≡ q

-- the n bits read below place i: x, turned where the bit t there is 1
pub record Ahead (n u i x t : ℕ) : Type 0 where
  pub few : x < 2 ^ n
  pub bit : t ≤ 1
  pub above : ℕ
  pub reads : Reads t (shifted u i n) (2 ^ suc n * above) x

-- y is the number of those bits and of the one at place i
pub read_plus : (n u i x y : ℕ) → y ≡ shifted u i n % 2 ^ suc n → y < 2 ^ n → x ≡ y → Ahead n u i x 0
read_plus n u i x y e l f =
    let S : ℕ = shifted u i n in
    record { few = omega arith; bit = omega arith; above = S / 2 ^ suc n; reads = omega (arith, div-add-mod S (2 ^ suc n)) }

pub read_minus : (n u i x y : ℕ) → y ≡ shifted u i n % 2 ^ suc n → 2 ^ n ≤ y → x + y + 1 ≡ 2 ^ suc n → Ahead n u i x 1
read_minus n u i x y e l f =
    let S : ℕ = shifted u i n in
    let q : ℕ = S / 2 ^ suc n in
    record { few = omega (arith, pow-suc 2 n); bit = omega arith; above = q + 1; reads = omega (arith, div-add-mod S (2 ^ suc n), mul-add (2 ^ suc n) q 1) }

parts_less : (t S Y x e : ℕ) → Reads t S (2 ^ e * Y) x → Reads t (S / 2 ^ e) Y (x / 2 ^ e)
parts_less zero S Y x e r =
    ap (λ (n : ℕ). n / 2 ^ e) (r ∙ add_comm (2 ^ e * Y) x) ∙ add-mul-div_left x Y (pow_pos e) ∙ add_comm (x / 2 ^ e) Y
parts_less (suc t) S Y x e r = omega (arith, low, high)
  where
    σ : ℕ
    σ = S / 2 ^ e

    X : ℕ
    X = x / 2 ^ e

    low : σ + X < Y
    low =
        lt_of_mul-lt-mul_left (2 ^ e) (omega (arith, r, div-add-mod S (2 ^ e), div-add-mod x (2 ^ e), mul-add (2 ^ e) σ X))

    high : Y < σ + X + 2
    high =
        lt_of_mul-lt-mul_left (2 ^ e) (omega (
          arith,
          r,
          div-add-mod S (2 ^ e),
          div-add-mod x (2 ^ e),
          mod-lt S (pow_pos e),
          mod-lt x (pow_pos e),
          mul-add (2 ^ e) σ X,
          mul-add (2 ^ e) (σ + X) 2,
        ))

-- the first bits alone
first : (n u i x t h k : ℕ) → k ≤ n → Reads t (shifted u i n) (2 ^ suc n * h) x → Reads t (shifted u i k) (2 ^ suc k * h) (x / 2 ^ (n - k))
first n u i x t h k l r =
    let e : ℕ = n - k in
    let whole : k + e ≡ n = omega arith in
    let power : 2 ^ suc n * h ≡ 2 ^ e * (2 ^ suc k * h) =
    ap (λ (p : ℕ). p * h) (ap (λ (j : ℕ). 2 ^ j) {x = suc n} {y = e + suc k} (omega arith) ∙ pow-add 2 e (suc k)) ∙ mul_assoc (2 ^ e) (2 ^ suc k) h
    in
    let less : shifted u i n / 2 ^ e ≡ shifted u i k = ap (λ (j : ℕ). shifted u i j / 2 ^ e) (sym whole) ∙ shifted_above u i k e in
    subst (λ (y : ℕ). Reads t y (2 ^ suc k * h) (x / 2 ^ e)) less (parts_less t (shifted u i n) (2 ^ suc k * h) x e (subst (λ (y : ℕ). Reads t (shifted u i n) y x) power r))

-- below place 0 there is no bit
under_below : (u i k : ℕ) → i < k → under u i k ≡ 0
under_below u i k h = go (k - i) (omega arith) (under_is u i k ∙ ap (λ (n : ℕ). n % 2) (shifted_up u i k (omega arith)))
  where
    go : (n : ℕ) → 0 < n → under u i k ≡ 2 ^ n * u % 2 → under u i k ≡ 0
    go zero p e = absurd (omega arith)
    go (suc n) p e = omega (arith, e, power_step n u)

-- so many places down is so many bits further
pub under_place : (u i s k : ℕ) → s ≤ i → under u (i - s) k ≡ under u i (s + k)
under_place u i s k h = under_is u (i - s) k ∙ ap (λ (n : ℕ). n % 2) (shifted_place u i s k h) ∙ sym (under_is u i (s + k))

-- 2^z times an odd number that two multiples of 2^e differ by has as many zeros
zeros_enough : (e z o A B : ℕ) → o % 2 ≡ 1 → 2 ^ e * A ≡ 2 ^ e * B + 2 ^ z * o → e ≤ z
zeros_enough e z o A B odd d =
    let more : ¬ (z < e) = λ l. over l in
    omega arith
  where
    over : z < e → ⊥
    over l =
        let f : ℕ = e - suc z in
        let part : (n : ℕ) → 2 ^ e * n ≡ 2 ^ z * (2 * (2 ^ f * n)) =
        λ n. ap (λ (y : ℕ). y * n) (ap (λ (y : ℕ). 2 ^ y) {x = e} {y = z + suc f} (omega arith) ∙ pow-add 2 z (suc f)) ∙ mul_assoc (2 ^ z) (2 ^ suc f) n ∙ ap (λ (y : ℕ). 2 ^ z * y) (power_step f n)
        in
        let sum : 2 ^ z * (2 * (2 ^ f * A)) ≡ 2 ^ z * (2 * (2 ^ f * B) + o) = sym (part A) ∙ d ∙ ap (λ (y : ℕ). y + 2 ^ z * o) (part B) ∙ sym (mul-add (2 ^ z) (2 * (2 ^ f * B)) o) in
        let alone : 2 * (2 ^ f * A) ≡ 2 * (2 ^ f * B) + o = sym (mul-div_cancel_left (2 * (2 ^ f * A)) (pow_pos z)) ∙ ap (λ (y : ℕ). y / 2 ^ z) sum ∙ mul-div_cancel_left (2 * (2 ^ f * B) + o) (pow_pos z) in
        omega arith

module _ {n u i x t : ℕ} (a : Ahead n u i x t) where
  abbrev h : ℕ
  h = a.above

  -- bit k, by the bits of x
  bit_at : (k : ℕ) → k ≤ n → under u i k ≡ (t + x / 2 ^ (n - k)) % 2
  bit_at k l = under_is u i k ∙ go t a.bit (first n u i x t h k l a.reads)
    where
      go : (t : ℕ) → t ≤ 1 → Reads t (shifted u i k) (2 ^ suc k * h) (x / 2 ^ (n - k)) → shifted u i k % 2 ≡ (t + x / 2 ^ (n - k)) % 2
      go zero b r = omega (arith, r, power_step k h)
      go (suc zero) b r = omega (arith, r, power_step k h)
      go (suc (suc t)) b r = absurd (omega arith)

  module _ (b : ℕ) (is : b ≡ bit_length x) where
    -- the bits above those of x are equal
    none_above : (k : ℕ) → k + b ≤ n → x / 2 ^ (n - k) ≡ 0
    none_above k l = div-eq_of_lt (omega (arith, is, ap (λ (e : ℕ). 2 ^ e) is, below_length x, pow_mono {i = b} {j = n - k} (omega arith)))

    pub equal : (k : ℕ) → k + b ≤ n → under u i k ≡ t
    equal k l = bit_at k (omega arith) ∙ omega (arith, none_above k l, a.bit)

    -- so many of them
    module _ (s : ℕ) (all : s + b ≡ n) (some : 1 ≤ b) where
      -- and the next one is not
      top_one : x / 2 ^ (n - suc s) ≡ 1
      top_one =
          let k : ℕ = n - suc s in
          let whole : bit_length x ≡ suc k = omega (arith, is) in
          div-eq_of_lt-le (2 ^ k) (omega (arith, at_least x b k is (omega arith)))
          (omega (arith, below_length x, ap (λ (y : ℕ). 2 ^ y) whole, power_step k 1))

      turned : under u i (suc s) ≢ t
      turned e = omega (arith, bit_at (suc s) (omega arith), top_one, a.bit)

      -- it is not below place 0
      pub inside : s ≤ i
      inside =
          let over : ¬ (i < s) = λ l. turned (under_below u i (suc s) (omega arith) ∙ sym (under_below u i s l) ∙ equal s (omega arith)) in
          omega arith

      -- the place above it
      abbrev j : ℕ
      j = i - s

      -- what the window of w places from there is worth, in two parts
      module _ (v : ℕ) (wide : suc v ≤ b) where
        abbrev w : ℕ
        w = suc v

        abbrev size : ℕ
        size = size_of x b w

        abbrev P : ℕ
        P = 2 ^ s * h

        upper_near : near u (suc j) ≡ P
        upper_near =
            ap (λ (y : ℕ). near y (suc j)) (sym (omega arith)) ∙ near_shifted u j 0
            ∙ ap (λ (y : ℕ). (y + 1) / 2) (shifted_place u i s 0 inside ∙ ap (shifted u i) (omega arith))
            ∙ go t a.bit (first n u i x t h s (omega arith) a.reads)
          where
            go : (t : ℕ) → t ≤ 1 → Reads t (shifted u i s) (2 ^ suc s * h) (x / 2 ^ (n - s)) → (shifted u i s + 1) / 2 ≡ P
            go zero l r = omega (arith, r, none_above s (omega arith), power_step s h)
            go (suc t) l r = omega (arith, r, none_above s (omega arith), power_step s h)

        lower_power : 2 ^ (s + w) * h ≡ 2 ^ w * P
        lower_power = ap (λ (y : ℕ). y * h) (pow-add 2 s w ∙ mul_comm (2 ^ s) (2 ^ w)) ∙ mul_assoc (2 ^ w) (2 ^ s) h

        -- the lower end of the window, rounded
        abbrev lower : ℕ
        lower = near (2 ^ w * u) (suc j)

        lower_near : Apart t lower (2 ^ w * P) size
        lower_near = go t (first n u i x t h (s + w) (omega arith) a.reads)
          where
            here : lower ≡ (shifted u i (s + w) + 1) / 2
            here = near_shifted u j w ∙ ap (λ (y : ℕ). (y + 1) / 2) (shifted_place u i s w inside)

            bits : x / 2 ^ (n - (s + w)) ≡ x / 2 ^ (b - w)
            bits = ap (λ (e : ℕ). x / 2 ^ e) (omega arith)

            go : (t : ℕ) → Reads t (shifted u i (s + w)) (2 ^ suc (s + w) * h) (x / 2 ^ (n - (s + w))) → Apart t lower (2 ^ w * P) size
            go zero r = omega (arith, r, here, bits, power_step (s + w) h, lower_power)
            go (suc t) r = omega (arith, r, here, bits, power_step (s + w) h, lower_power)

        -- so it is worth its size, with the sign of the top bit
        pub worth_is : worth u j w ≡ signed_by t (pos size)
        worth_is = go t lower_near
          where
            top : 2 ^ w * near u (suc j) ≡ 2 ^ w * P
            top = ap (λ (y : ℕ). 2 ^ w * y) upper_near

            go : (t : ℕ) → Apart t lower (2 ^ w * P) size → worth u j w ≡ signed_by t (pos size)
            go zero r = omega (integers, r, worth_near u j v, top, one_side (worth u j w))
            go (suc t) r = omega (integers, r, worth_near u j v, top, one_side (worth u j w), negation (pos size))

        -- and its zeros reach place 0
        pub zeros_reach : (z o : ℕ) → size ≡ 2 ^ z * o → o % 2 ≡ 1 → w ≤ suc j + z
        zeros_reach z o e odd = let enough = go t lower_near in omega arith
          where
            below : ℕ
            below = w - suc j

            A : ℕ
            A = near u (suc j - w)

            B : ℕ
            B = 2 ^ (w - below) * P

            first_part : lower ≡ 2 ^ below * A
            first_part = near_down u (suc j) w

            second_part : 2 ^ w * P ≡ 2 ^ below * B
            second_part = ap (λ (y : ℕ). y * P) (power_split below w (omega arith)) ∙ mul_assoc (2 ^ below) (2 ^ (w - below)) P

            go : (t : ℕ) → Apart t lower (2 ^ w * P) size → w - suc j ≤ z
            go zero r = zeros_enough below z o A B odd (omega (arith, r, first_part, second_part, e))
            go (suc t) r = zeros_enough below z o B A odd (omega (arith, r, first_part, second_part, e))

      -- the window takes as many places as the test of line 9 says
      pub taken_is : (m W : ℕ) → W ≡ width m → 1 ≤ W → W ≤ b → taken m u j ≡ width_of m x b
      unfolding taken
      taken_is m zero e l h = absurd (omega arith)
      taken_is m (suc v) e l h =
          let differ : under u j 0 ≢ under u j 1 =
          λ same. turned (ap (under u i) (omega arith) ∙ sym (under_place u i s 1 inside) ∙ sym same ∙ under_place u i s 0 inside ∙ ap (under u i) (omega arith) ∙ equal s (omega arith))
          in
          let sized : nat_abs (worth u j (suc v)) ≡ size_of x b (suc v) = ap nat_abs (worth_is v h) ∙ signed_size t (pos (size_of x b (suc v))) in
          rw (ne_eqb (under u j 0) (under u j 1) differ, ← e, sized) refl

-- The bits of a number and what a window is worth, in whole numbers: a window of w places below place n is worth 2^w u / 2^n less
-- 2^w times u / 2^n, both rounded to the nearest. From the laws of division.
use Rattle.std.specs.Prelude.{◌≡◌, ℕ, zero, suc, ◌+◌, ◌*◌, ◌-◌, ◌/◌, ◌%◌, ◌^◌, ◌≤◌, ◌<◌, Bool, true, false, not, T, leb, ℤ, pos, negsuc, ◌-ℤ◌}
use Rattle.std.proofs.Common.{sym, ap, ap₂, ◌∙◌, mul_assoc, mul_comm, one-mul, div-one, mul-add, mul_left_comm, leb→le, sub-one, arith, pow-add, pow_pos}
use Rattle.std.proofs.Math.Nat.{mul-div-mul_left, mul-div_cancel_left, div-div-eq-div-mul, pow-succ'}
use Rattle.std.proofs.Math.Dec.{nleb→lt}
use Rattle.digits.specs.Integer.{up, down}
use Rattle.digits.specs.Integer.Parts.{difference}
use Rattle.digits.specs.Integer.Congruent.{power_step, power_split}
use Rattle.down.specs.Down.{bit, under, bits, worth}

-- u / 2^(i−j), and 2^(j−i) u where j is beyond i
unfoldable pub shifted : ℕ → ℕ → ℕ → ℕ
shifted u i j = 2 ^ j * u / 2 ^ i

-- 2^j of 2^i is cancelled
pub shifted_down : (u i j : ℕ) → j ≤ i → shifted u i j ≡ u / 2 ^ (i - j)
unfolding shifted
shifted_down u i j h = ap (λ (n : ℕ). 2 ^ j * u / n) (power_split j i h) ∙ mul-div-mul_left u (2 ^ (i - j)) (pow_pos j)

pub shifted_up : (u i j : ℕ) → i ≤ j → shifted u i j ≡ 2 ^ (j - i) * u
unfolding shifted
shifted_up u i j h =
    ap (λ (n : ℕ). n * u / 2 ^ i) (power_split i j h) ∙ ap (λ (n : ℕ). n / 2 ^ i) (mul_assoc (2 ^ i) (2 ^ (j - i)) u) ∙ mul-div_cancel_left (2 ^ (j - i) * u) (pow_pos i)

-- the bits are the parities
pub under_is : (u i j : ℕ) → under u i j ≡ shifted u i j % 2
unfolding under
under_is u i j = go (pos i -ℤ pos j) (difference (pos i) (pos j))
  where
    go : (z : ℤ) → up z + (0 + j) ≡ (i + 0) + down z → bit u z ≡ shifted u i j % 2
    go (pos n) e =
        ap (λ (x : ℕ). x % 2) (ap (λ (x : ℕ). u / 2 ^ x) (omega arith) ∙ sym (shifted_down u i j (omega arith)))
    go (negsuc n) e =
        omega (arith, shifted_up u i j (omega arith), ap (λ (x : ℕ). 2 ^ x * u) (the_power n e), power_step n u)
      where
        the_power : (n : ℕ) → 0 + (0 + j) ≡ (i + 0) + suc n → j - i ≡ suc n
        the_power n e = omega arith

-- the lowest a bits are left away
pub shifted_above : (u i j a : ℕ) → shifted u i (j + a) / 2 ^ a ≡ shifted u i j
unfolding shifted
shifted_above u i j a =
    div-div-eq-div-mul (2 ^ (j + a) * u) (2 ^ i) (2 ^ a)
    ∙ ap₂ (λ (x y : ℕ). x / y)
    (ap (λ (x : ℕ). x * u) (pow-add 2 j a ∙ mul_comm (2 ^ j) (2 ^ a)) ∙ mul_assoc (2 ^ a) (2 ^ j) u)
    (mul_comm (2 ^ i) (2 ^ a))
    ∙ mul-div-mul_left (2 ^ j * u) (2 ^ i) (pow_pos a)

pub shifted_half : (u i j : ℕ) → shifted u i (suc j) / 2 ≡ shifted u i j
shifted_half u i j = ap (λ (n : ℕ). shifted u i n / 2) {x = suc j} {y = j + 1} (omega arith) ∙ shifted_above u i j 1

-- so many places down is so many bits further
pub shifted_lower : (u i j t : ℕ) → shifted u (t + i) (t + j) ≡ shifted u i j
unfolding shifted
shifted_lower u i j t =
    ap₂ (λ (x y : ℕ). x * u / y) (pow-add 2 t j) (pow-add 2 t i) ∙ ap (λ (x : ℕ). x / (2 ^ t * 2 ^ i)) (mul_assoc (2 ^ t) (2 ^ j) u) ∙ mul-div-mul_left (2 ^ j * u) (2 ^ i) (pow_pos t)

pub shifted_place : (u i s w : ℕ) → s ≤ i → shifted u (i - s) w ≡ shifted u i (s + w)
shifted_place u i s w h = sym (shifted_lower u (i - s) w s) ∙ ap (λ (n : ℕ). shifted u n (s + w)) {x = s + (i - s)} {y = i} (omega arith)

-- the bits of n places below i
pub bits_are : (u i n : ℕ) → bits u i n + 2 ^ n * shifted u i 0 ≡ shifted u i n
unfolding bits
bits_are u i zero = omega arith
bits_are u i (suc n) = omega (arith, bits_are u i n, power_step n (shifted u i 0), under_is u i (suc n), shifted_half u i n)

-- x / 2^n, rounded to the nearest, and up from the middle
unfoldable pub near : ℕ → ℕ → ℕ
near x n = (2 * x / 2 ^ n + 1) / 2

-- at place 0 it is x
pub near_zero : (x : ℕ) → near x 0 ≡ x
unfolding near
near_zero x = omega (arith, div-one (2 * x))

-- above place i it is a half of what stands at place i
pub near_shifted : (u i w : ℕ) → near (2 ^ w * u) (suc i) ≡ (shifted u i w + 1) / 2
unfolding near shifted
near_shifted u i w = ap (λ (x : ℕ). (x + 1) / 2) (ap (λ (x : ℕ). 2 * (2 ^ w * u) / x) (pow-succ' 2 i) ∙ mul-div-mul_left (2 ^ w * u) (2 ^ i) (omega arith))

pub near_here : (u i : ℕ) → near u (suc i) ≡ (shifted u i 0 + 1) / 2
near_here u i = ap (λ (x : ℕ). near x (suc i)) (sym (one-mul u)) ∙ near_shifted u i 0

-- what a window is worth
pub worth_near : (u i v : ℕ) → up (worth u i (suc v)) + 2 ^ suc v * near u (suc i) ≡ down (worth u i (suc v)) + near (2 ^ suc v * u) (suc i)
unfolding worth
worth_near u i v =
    let a : ℕ = bits u i v + under u i (suc v) in
    let b : ℕ = 2 ^ v * under u i 0 in
    rw sub-one
    (omega (
      arith,
      difference (pos a) (pos b),
      bits_are u i v,
      under_is u i (suc v),
      shifted_half u i v,
      near_shifted u i (suc v),
      power_step v (near u (suc i)),
      ap (λ (x : ℕ). 2 ^ v * x) twice,
      mul-add (2 ^ v) (shifted u i 0) (under u i 0),
      mul_left_comm (2 ^ v) 2 (near u (suc i)),
    ))
  where
    twice : 2 * near u (suc i) ≡ shifted u i 0 + under u i 0
    twice = omega (arith, near_here u i, under_is u i 0)

-- below place n − w the window has no bit of u
pub near_down : (u n w : ℕ) → near (2 ^ w * u) n ≡ 2 ^ (w - n) * near u (n - w)
unfolding near shifted
near_down u n w = go (leb w n) (leb→le w n) (nleb→lt w n)
  where
    go : (t : Bool) → (T t → w ≤ n) → (T (not t) → n < w) → near (2 ^ w * u) n ≡ 2 ^ (w - n) * near u (n - w)
    go true p q =
        ap (λ (x : ℕ). (x + 1) / 2) (ap (λ (x : ℕ). x / 2 ^ n) (mul_left_comm 2 (2 ^ w) u) ∙ shifted_down (2 * u) n w (p tt))
        ∙ sym (ap (λ (x : ℕ). 2 ^ x * near u (n - w)) none ∙ one-mul (near u (n - w)))
      where
        none : w - n ≡ 0
        none = omega (arith, p tt)
    go false p q =
        ap (λ (x : ℕ). (x + 1) / 2) (ap (λ (x : ℕ). x / 2 ^ n) (mul_left_comm 2 (2 ^ w) u) ∙ shifted_up (2 * u) n w (omega (arith, q tt)))
        ∙ omega (arith, mul_left_comm (2 ^ (w - n)) 2 u)
        ∙ sym (ap (λ (x : ℕ). 2 ^ (w - n) * x) (ap (near u) none ∙ near_zero u))
      where
        none : n - w ≡ 0
        none = omega (arith, q tt)

-- The digit of an odd x below 64 for a window m, from x modulo 2^W: one computed test for all windows and all x.
use mathlib.Core.Path.{◌≡◌, refl, sym, subst, ◌∙◌}
use mathlib.Core.Bool.{Bool, true, false, cond}
use Prim.Native.Nat.{ℕ, zero, suc, ◌+◌, ◌-◌, ◌*◌, ◌/◌, ◌%◌, ◌^◌, ◌≤◌, ◌<◌}
use native.Mathlib.Omega.{arith}
use borrow.Author.Tests.{ltb-true, ltb-false}
use lib.Bits.{bit_and, and_mask}
use lib.Count.{count_leading_zeros, leading_length}
use lib.Dec.{ltb}
use lib.IntN.{ℤ, pos, ◌-ℤ◌}
use lib.Pow.{pow_mono, shl_exact}
use Rattle.digits.specs.Scalar.Length.{length_exact, length_least}
use Rattle.digits.specs.Scalar.{bit_length, bit_length_in}
use Rattle.forms.specs.Residue.{residue, width}
use Rattle.forms.specs.Row.{digit}
use Rattle.forms.specs.Test.{same, every_below}
use Rattle.forms.specs.Residue.Width.{width_least}

-- 2^(W−1) from the leading zeros of m
pub window_length : (m : ℕ) → m ≤ 31 → (16 - count_leading_zeros 16 m ≡ width m - 1) × (width m - 1 ≤ 5)
unfolding width
window_length m h = go (leading_length 16 m (omega arith))
  where
    go : (n : ℕ) × (count_leading_zeros 16 m + n ≡ 16) × (m < 2 ^ n) × (2 ^ n ≤ 2 * m + 1) → (16 - count_leading_zeros 16 m ≡ suc (bit_length m) - 1) × (suc (bit_length m) - 1 ≤ 5)
    go t = (omega (arith, length_exact m t.0 t.2 t.3), omega (arith, length_least m 5 (omega arith)))

pub half_shifted : (m : ℕ) → m ≤ 31 → (1 * 2 ^ (16 - count_leading_zeros 16 m)) % 65536 ≡ 2 ^ (width m - 1)
half_shifted m h =
    let t = window_length m h in
    rw t.0 (shl_exact {a = 1} 1 (width m - 1) 16 (omega arith) (omega arith) ∙ omega arith)

module _ (m half : ℕ) (one : 1 ≤ m) (most : m ≤ 31) (is : half ≡ 2 ^ (width m - 1)) where
  pub half_bounds : (m < half) × (half ≤ 32)
  half_bounds =
      (rw is (width_least m one).0, rw is (pow_mono {j = 5} (window_length m most).1))

  -- x modulo 2^W
  pub masked : (x : ℕ) → bit_and x (2 * half - 1) ≡ x % (2 * half)
  masked x =
      let whole : 2 * half ≡ 2 ^ suc (width m - 1) = rw is (omega arith) in
      rw whole (and_mask x (suc (width m - 1)))

-- a half for an x beyond the limit
abbrev pub half_beyond : ℕ → ℕ → ℕ → ℕ
half_beyond x limit half = cond (ltb limit x) half 0

pub half_beyond_lem : (x limit half r : ℕ) → (limit < x → r ≡ half) × (x ≤ limit → r ≡ 0) → r ≡ half_beyond x limit half
half_beyond_lem x limit half r e = go (ltb limit x) refl
  where
    go : (b : Bool) → ltb limit x ≡ b → r ≡ cond b half 0
    go true t = e.0 (ltb-true limit x t)
    go false t = e.1 (ltb-false limit x t)

pub half_most : (x limit half : ℕ) → half_beyond x limit half ≤ half
half_most x limit half = go (ltb limit x)
  where
    go : (b : Bool) → cond b half 0 ≤ half
    go true = omega arith
    go false = omega arith

-- x modulo 2^W, less a half beyond m, and less another beyond 2^W − 1 − m
abbrev pub chosen : ℕ → ℕ → ℕ → ℤ
chosen m half low = pos low -ℤ pos (half_beyond low m half + half_beyond low (2 * half - 1 - m) half)

table : (n : ℕ) → n < 31 → (i : ℕ) → i < 32
    → chosen (suc n) (2 ^ (width (suc n) - 1)) ((2 * i + 1) % (2 * 2 ^ (width (suc n) - 1))) ≡ digit (suc n) (pos (2 * i + 1))
unfolding digit residue width bit_length bit_length_in
table =
    (every_below 31 (λ n. every_below 32 (λ i.
    same (chosen (suc n) (2 ^ (width (suc n) - 1)) ((2 * i + 1) % (2 * 2 ^ (width (suc n) - 1)))) (digit (suc n) (pos (2 * i + 1)))))).tells tt

pub chosen_is : (m half x : ℕ) → 1 ≤ m → m ≤ 31 → half ≡ 2 ^ (width m - 1) → x < 64 → x % 2 ≡ 1 → chosen m half (x % (2 * half)) ≡ digit m (pos x)
chosen_is zero half x one most is few odd = absurd (omega arith)
chosen_is (suc n) half x one most is few odd =
    let e : x ≡ 2 * (x / 2) + 1 = omega arith in
    subst (λ (y : ℕ). chosen (suc n) half (y % (2 * half)) ≡ digit (suc n) (pos y)) (sym e)
    (rw is (table n (omega arith) (x / 2) (omega arith)))

-- `rest_of` meets its contract: x − digit is not negative, so the machine halves it as `half` does.
use mathlib.Core.Path.{◌≡◌, refl, sym, ap, ap₂, subst, ◌∙◌}
use Prim.Native.Nat.{ℕ, ◌+◌, ◌/◌, ◌^◌, ◌<◌, ◌≤◌}
use native.Mathlib.Omega.{arith}
use lib.IntN.{ℤ, pos, negsuc, ◌-ℤ◌, nat_abs, pos-ne-negsuc}
use lib.Signed.{shr_z}
use mir.Syntax.{w16, w64}
use mir.Val.{SFits, to_z, of_z}
use mir.Facts.{to_z-of_z, to_z_pos}
use Rattle.digits.specs.Integer.{up, down, half}
use Rattle.digits.specs.Integer.Parts.{difference, size, mag_size, one_side}
use Rattle.digits.specs.Integer.Machine.{cast_of}
use Rattle.recode.proofs.digit.rest_of.Goals as goal

-- a number whose half is not negative is not negative
natural : (z : ℤ) (k : ℕ) → half z ≡ pos k → z ≡ pos (nat_abs z)
unfolding half
natural (pos n) k e = refl
natural (negsuc n) k e = absurd (pos-ne-negsuc k (n / 2) (sym e))

fits-long : (z : ℤ) → up z + down z < 2 ^ 63 → SFits w64 z
fits-long z h = record { sfits = omega (arith, mag_size z) }

module _ (x : ℕ) (d : ℤ) (hx : x ≤ 2 ^ 48) (hd : nat_abs d ≤ 32) (half_is : (k : ℕ) × (half (pos x -ℤ d) ≡ pos k)) (f : SFits w16 d) where
  exact : pos x -ℤ d ≡ pos (nat_abs (pos x -ℤ d))
  exact = natural (pos x -ℤ d) half_is.0 half_is.1

  small : nat_abs (pos x -ℤ d) < 2 ^ 49
  small =
      omega (arith, difference (pos x) d, size (pos x -ℤ d), size d, one_side d, one_side (pos x -ℤ d))

  -- the digit in 64 bits
  long : SFits w64 (to_z w16 (of_z w16 d))
  long = subst (SFits w64) (sym (to_z-of_z f)) (fits-long d (omega (arith, size d)))

  -- what the machine subtracts is x − d, a natural number
  subtracted : to_z w64 x -ℤ to_z w64 (of_z w64 (to_z w16 (of_z w16 d))) ≡ pos (nat_abs (pos x -ℤ d))
  subtracted =
      ap₂ (λ (a b : ℤ). a -ℤ b) (to_z_pos w64 {n = x} (omega arith)) (to_z-of_z long ∙ to_z-of_z f) ∙ exact

  fits_whole : SFits w64 (to_z w64 x -ℤ to_z w64 (of_z w64 (to_z w16 (of_z w16 d))))
  fits_whole = subst (SFits w64) (sym subtracted) (fits-long (pos (nat_abs (pos x -ℤ d))) (omega (arith, small)))

  -- and what it shifts is the half
  shifted : shr_z (to_z w64 (of_z w64 (to_z w64 x -ℤ to_z w64 (of_z w64 (to_z w16 (of_z w16 d)))))) 2 ≡ pos (nat_abs (pos x -ℤ d) / 2)
  shifted = ap (λ (z : ℤ). shr_z z 2) (to_z-of_z fits_whole ∙ subtracted)

  fits-half : SFits w64 (shr_z (to_z w64 (of_z w64 (to_z w64 x -ℤ to_z w64 (of_z w64 (to_z w16 (of_z w16 d)))))) 2)
  fits-half = subst (SFits w64) (sym shifted) (fits-long (pos (nat_abs (pos x -ℤ d) / 2)) (omega (arith, small)))

  read : to_z w64 (of_z w64 (shr_z (to_z w64 (of_z w64 (to_z w64 x -ℤ to_z w64 (of_z w64 (to_z w16 (of_z w16 d)))))) 2)) ≡ pos (nat_abs (pos x -ℤ d) / 2)
  read = to_z-of_z fits-half ∙ shifted

  halved : pos (nat_abs (pos x -ℤ d) / 2) ≡ half (pos x -ℤ d)
  unfolding half
  halved = sym (ap half exact)

pub overflow_cast-result-3 : goal.overflow_cast-result-3
overflow_cast-result-3 c =
    cast_of _ _ (read c.args.x _ c.requires.0 c.requires.1.0 c.requires.1.1 c.ranges.digit) (omega (arith, small c.args.x _ c.requires.0 c.requires.1.0 c.requires.1.1 c.ranges.digit))

pub returns : goal.returns
returns c =
    ap (λ (z : ℤ). pos (nat_abs z)) (read c.args.x _ c.requires.0 c.requires.1.0 c.requires.1.1 c.ranges.digit)
    ∙ halved c.args.x _ c.requires.0 c.requires.1.0 c.requires.1.1 c.ranges.digit

-- How many digits of the row with window 1 are not 0, from the two lowest bits of the scalar: an even one has those of its half, and 4c + 1
-- and 4c + 3 one more than c and c + 1. From the row's rule.
use Rattle.std.specs.Prelude.{◌≡◌, refl, ◌∷◌, ℕ, zero, suc, ◌+◌, ◌*◌, ℤ, pos, negsuc, ◌+ℤ◌, ◌-ℤ◌, nat_abs}
use Rattle.std.proofs.Common.{sym, ap, arith}
use Rattle.digits.specs.Integer.{up}
use Rattle.digits.specs.Integer.Congruent.{Congruent}
use Rattle.digits.specs.Integer.Parts.{integers, size, sum, difference}
use Rattle.digits.specs.Row.{weight}
use Rattle.digits.specs.Scalar.{bit_length, bit_length_in}
use Rattle.forms.specs.Residue.{Residue, width}
use Rattle.forms.specs.Residue.Only.{divides}
use Rattle.forms.specs.Row.{wide, place, row}
use Rattle.forms.proofs.Laws.Row.Natural.{row_zeros}
use Rattle.forms.proofs.Laws.Row.Only.{row_zero, row_meets, row_only}
use Rattle.dearest.specs.Dearest.{naf_weight}

pub weight_zero : naf_weight 0 ≡ 0
unfolding weight
weight_zero = ap weight (row_zero 1)

-- a 0 in front
pub weight_even : (c : ℕ) → naf_weight (2 * c) ≡ naf_weight c
unfolding weight
weight_even zero = refl
weight_even (suc c) = omega (arith, ap weight (row_zeros 1 1 (suc c) (omega arith) (omega arith)))

-- the width of the window 1
narrowest : width 1 ≡ 2
unfolding width bit_length bit_length_in
narrowest = refl

-- the digit d of an odd scalar, which leaves 2c
module _ (x c : ℕ) (d : ℤ) (odd : nat_abs d ≡ 1) (same : Congruent 4 (pos x) d) (leaves : pos x -ℤ d ≡ pos (2 * c) +ℤ pos (2 * c)) where
  odd_residue : Residue (width 1) (pos x) d
  odd_residue = rw narrowest (record { odd = omega arith; between = omega arith; divisible = divides 4 (pos x) d same })

  -- the row has it in front of that of 2c
  odd_row : row 1 (pos x) ≡ d ∷ row 1 (pos (2 * c))
  odd_row =
      sym (row_only 1 (pos x) (d ∷ row 1 (pos (2 * c))) (omega arith)
      (place (λ q. omega (arith, ap up q, same.parts, size d)) (wide (omega (arith, same.parts, size d)) odd_residue (omega arith)) leaves (row_meets 1 (pos (2 * c)) (omega arith))))

-- 1 is in front
pub weight_one : (c : ℕ) → naf_weight (4 * c + 1) ≡ suc (naf_weight c)
unfolding weight
weight_one c =
    omega (
      arith,
      weight_even c,
      ap weight (odd_row (4 * c + 1) c (pos 1) refl (record { a = c; b = 0; parts = omega arith }) (omega (integers, difference (pos (4 * c + 1)) (pos 1), sum (pos (2 * c)) (pos (2 * c))))),
    )

-- −1 is in front
pub weight_three : (c : ℕ) → naf_weight (4 * c + 3) ≡ suc (naf_weight (suc c))
unfolding weight
weight_three c =
    omega (
      arith,
      weight_even (suc c),
      ap weight (odd_row (4 * c + 3) (suc c) (negsuc 0) refl (record { a = suc c; b = 0; parts = omega arith }) (omega (integers, difference (pos (4 * c + 3)) (negsuc 0), sum (pos (2 * suc c)) (pos (2 * suc c))))),
    )

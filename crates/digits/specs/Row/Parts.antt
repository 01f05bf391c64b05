-- The value of a row as a difference of two naturals. Assumes nothing.
use Rattle.std.specs.Prelude.{◌≡◌, List, [], ◌∷◌, ℕ, ◌+◌, ◌*◌, ℤ, ◌+ℤ◌}
use Rattle.std.proofs.Common.{arith}
use Rattle.digits.specs.Integer.{up, down}
use Rattle.digits.specs.Integer.Parts.{sum}
use Rattle.digits.specs.Row.{value}

-- the value's two parts as naturals: its positive digits, and its negative ones
unfoldable pub plus : List ℤ → ℕ
plus [] = 0
plus (d ∷ ds) = up d + 2 * plus ds

unfoldable pub minus : List ℤ → ℕ
minus [] = 0
minus (d ∷ ds) = down d + 2 * minus ds

pub value_parts : (ds : List ℤ) → up (value ds) + minus ds ≡ plus ds + down (value ds)
unfolding value plus minus
value_parts [] = omega arith
value_parts (d ∷ ds) =
    omega (arith, sum d (value ds +ℤ value ds), sum (value ds) (value ds), value_parts ds)

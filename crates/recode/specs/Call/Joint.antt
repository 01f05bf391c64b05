-- The rows of the joint form of two signed scalars.
use Rattle.std.specs.Prelude.{List, ℤ}
use Prim.Native.Nat.{ℕ}
use Rattle.digits.specs.Column as Columns
use Rattle.digits.specs.Scalar.{signed_scalar}
use Rattle.digits.specs.Two.{Two, two}
use Rattle.forms.specs.Joint.{joint}

-- one row of the joint form of two scalars
abbrev pub digits_of : Two → List ℕ → ℕ → List ℕ → ℕ → List ℤ
digits_of r s s_sign t t_sign = Columns.row two r (joint (signed_scalar s s_sign) (signed_scalar t t_sign))

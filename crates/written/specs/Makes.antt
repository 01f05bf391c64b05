-- Columns that make two scalars: all that a sheet asks of the columns from which it is written for them.
use Rattle.std.specs.Prelude.{◌≡◌, List, ◌+◌, ◌≤◌, max, ℤ, nat_abs, length}
use Rattle.digits.specs.Row.{value}
use Rattle.digits.specs.Scalar.{bit_length}
use Rattle.digits.specs.Two.{Column}
use Rattle.forms.specs.Joint.{Topped}
use Rattle.sheet.specs.declared.Plan.{Plan}
use Rattle.sheet.specs.Digits.{row_p, row_q, Fits}

pub record Makes (p : Plan) (k l : ℤ) (cs : List Column) : Type 0 where
  -- they are the plan's
  pub fit : Fits p cs
  -- they read k and l
  pub reads_k : value (row_p cs) ≡ k
  pub reads_l : value (row_q cs) ≡ l
  -- the top column is not zero
  pub top : Topped cs
  -- there are at most one more than the longer scalar has bits
  pub few : length cs ≤ max (bit_length (nat_abs k)) (bit_length (nat_abs l)) + 1

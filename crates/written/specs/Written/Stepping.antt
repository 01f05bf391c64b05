-- The steps of a place and of columns, in turn.
use Rattle.std.specs.Prelude.{◌≡◌, ℕ, ◌*◌, ◌-◌, ◌≤◌, ◌<◌, nat_abs}
use mathlib.Core.List.{List, [], ◌∷◌, ◌++◌}
use Rattle.std.proofs.Math.ListN.{length}
use Rattle.digits.specs.Row.{Digit}
use Rattle.digits.specs.Two.{Column, blank_column}
use Rattle.sheet.specs.declared.Plan.{Plan}
use Rattle.sheet.specs.declared.Plan.TheVariants.{J, I}
use Rattle.sheet.specs.Digits.{columns_from}
use Rattle.sheet.specs.Line.{end}
use Rattle.sheet.specs.Plan.{Point}
use Rattle.sheet.specs.Questions.{additions, doublings, plus}
use Rattle.sheet.specs.Sound.{Steps, step_lines, step_doubles, Turn, Allowed}

-- ── the steps of a place ────────────────────────────────────────────────────────────────────

-- the digits of one column are the plan's
abbrev pub Fit : Plan → Column → Type 0
Fit J c = (nat_abs c.p ≤ 1) × (nat_abs c.q ≤ 1)
Fit (I m1 m2) c = Digit m1 c.p × Digit m2 c.q

-- points added one after another to a column
unfoldable pub sum_from : Column → List Point → Column
sum_from c [] = c
sum_from c (t ∷ ts) = sum_from (plus c t) ts

-- points that may be added one after another at a place, where the last turn before them is n
pub data InTurn (p : Plan) : ℕ → List Point → Type 0 where
  done : {n : ℕ} → InTurn p n []
  step : {n j : ℕ} {t : Point} {ts : List Point} → n < j → Turn p j t → InTurn p j ts → InTurn p n (t ∷ ts)

-- the steps of a place, which make the column from a zero one
pub record Place (p : Plan) (c : Column) (ts : List Point) : Type 0 where
  pub sums : sum_from blank_column ts ≡ c
  pub turns : InTurn p 0 ts
  pub few : length ts ≤ 2

-- ── all steps ───────────────────────────────────────────────────────────────────────────────

-- the steps st are the plan's steps of the columns cs
pub record Stepped (p : Plan) (cs : List Column) (st : Steps) : Type 0 where
  pub allowed : Allowed p st
  pub made : columns_from [] (step_lines st ++ (end ∷ [])) ≡ cs
  pub doubles : step_doubles st ≡ length cs - 1
  pub doublings_are : doublings (step_lines st ++ (end ∷ [])) ≡ length cs - 1
  pub additions_few : additions (step_lines st ++ (end ∷ [])) ≤ 2 * length cs

-- The digits of a sheet: the columns that its steps make, place 0 first, and when they are a plan's.
use Rattle.std.specs.Prelude.{◌≡◌, List, [], ◌∷◌, ℕ, ◌+◌, ◌-◌, ℤ}
use Rattle.digits.specs.Row.{value, Over}
use Rattle.digits.specs.Row as Rows
use Rattle.digits.specs.Column.{row, Small}
use Rattle.digits.specs.Column as Columns
use Rattle.digits.specs.Two.{Column, P, Q, blank_column, two}
use Rattle.sheet.specs.declared.Plan.{Plan}
use Rattle.sheet.specs.declared.Plan.TheVariants.{J, I}
use Rattle.sheet.specs.Plan.{Point, table_additions}
use Rattle.sheet.specs.Line.{Line, header, table, load, double, add, end, misspelled}
use Rattle.sheet.specs.Questions.{plus}

-- t added at the first place
abbrev pub at_first : Point → List Column → List Column
at_first t [] = t ∷ []
at_first t (c ∷ cs) = plus c t ∷ cs

-- the columns after lines, from those before them: L begins them, D puts a zero one in front, A adds at the first place
unfoldable pub columns_from : List Column → List Line → List Column
columns_from cs (load t ∷ ls) = columns_from (t ∷ []) ls
columns_from cs (double ∷ ls) = columns_from (blank_column ∷ cs) ls
columns_from cs (add t ∷ ls) = columns_from (at_first t cs) ls
columns_from cs (header h ∷ ls) = columns_from cs ls
columns_from cs (table t ∷ ls) = columns_from cs ls
columns_from cs (end ∷ ls) = columns_from cs ls
columns_from cs (misspelled ∷ ls) = columns_from cs ls
columns_from cs [] = cs

-- the columns of a sheet
unfoldable pub columns : List Line → List Column
columns ls = columns_from [] ls

-- the digits that go with P
abbrev pub row_p : List Column → List ℤ
row_p cs = row two P cs

-- the digits that go with Q
abbrev pub row_q : List Column → List ℤ
row_q cs = row two Q cs

-- columns of a plan: for J digits −1, 0 and 1; for I two rows over the digits of m1 and m2
abbrev pub Fits : Plan → List Column → Type 0
Fits J cs = Small two cs
Fits (I m1 m2) cs = Over m1 (row_p cs) × Over m2 (row_q cs)

-- what a plan counts: for J the columns that are not zero; for I the digits of both rows that are not 0
abbrev pub weight : Plan → List Column → ℕ
weight J cs = Columns.weight two cs
weight (I m1 m2) cs = Rows.weight (row_p cs) + Rows.weight (row_q cs)

-- columns of the plan p that read k and l with a additions
pub record Reads (p : Plan) (cs : List Column) (k l : ℤ) (a : ℕ) : Type 0 where
  pub fits : Fits p cs
  pub reads_k : value (row_p cs) ≡ k
  pub reads_l : value (row_q cs) ≡ l
  -- one addition for each of them but the load, and the table's; where there is no step, the table's alone
  pub costs : a ≡ table_additions p + (weight p cs - 1)

-- The two kinds of rows that a plan I is written from, and the columns that two of a kind make.
pub mod Made
use Rattle.std.specs.Prelude.{List, ℕ, ℤ}
use Rattle.digits.specs.Two.{Column, paired}
use Rattle.forms.specs.Row.{row}
use Rattle.down.specs.Down.{down}

-- 01's rows, from the bottom up, and those from the top down
pub data Rows : Type 0 where
  Up : Rows
  Down : Rows

-- the row of c for the window m
abbrev pub row_by : Rows → ℕ → ℤ → List ℤ
row_by Up m c = row m c
row_by Down m c = down m c

-- the columns of k and l for the windows m1 and m2
abbrev pub columns_by : Rows → ℕ → ℕ → ℤ → ℤ → List Column
columns_by rows m1 m2 k l = paired (row_by rows m1 k) (row_by rows m2 l)

-- Rows of either kind keep what is promised of a row, so two of them make their scalars; and both kinds cost the same. From the promises of
-- forms and of down.
use Rattle.std.specs.Prelude.{◌≡◌, refl, true, ◌&&◌, ℕ, ℤ}
use Rattle.std.proofs.Common.{arith}
use Rattle.digits.specs.Row.{is_window, weight}
use Rattle.digits.specs.Row.Window.{window_parts}
use Rattle.digits.specs.Scalar.Sized.{both}
use Rattle.forms.specs.Row.{row}
use Rattle.down.proofs.Laws.Call.Row.{down_kept}
use Rattle.down.proofs.Laws.Promise.{down_weight}
use Rattle.recode.specs.Call.{RowBy}
use Rattle.recode.proofs.Laws.Call.Standing.{row_kept}
use Rattle.sheet.specs.declared.Plan.TheVariants.{I}
use Rattle.written.specs.Makes.{Makes}
use Rattle.written.proofs.Laws.Promise.{sheet_cost}
use Rattle.written.specs.Written.{additions_of}
use Rattle.written.specs.Written.Columns.{rows_make, paired_weight}
use Rattle.writer.specs.Rows.{Rows, Up, Down, row_by, columns_by}
use Rattle.writer.specs.Rows.Made.{RuleBy}

-- a row of either kind keeps what is promised
pub rows_kept : (rows : Rows) (m : ℕ) (c : ℤ) → is_window m ≡ true → RowBy (RuleBy rows m c) m c (weight (row_by rows m c)) (row_by rows m c)
rows_kept Up m c e = row_kept m c e
rows_kept Down m c e = down_kept m c e

module _ (m1 m2 : ℕ) (k l : ℤ) (windows : (is_window m1 && is_window m2) ≡ true) where
  -- two of them make k and l
  pub columns_make : (rows : Rows) → Makes (I m1 m2) k l (columns_by rows m1 m2 k l)
  columns_make rows =
      let (a, b) = both (is_window m1) (is_window m2) windows in
      let p = rows_kept rows m1 k a in
      let q = rows_kept rows m2 l b in
      rows_make (row_by rows m1 k) (row_by rows m2 l) p.digits q.digits p.reads q.reads p.top q.top p.short q.short

  -- from the top down they have as many digits that are not 0
  same_weight : (rows : Rows) (m : ℕ) (c : ℤ) → is_window m ≡ true → weight (row_by rows m c) ≡ weight (row m c)
  same_weight Up m c e = refl
  same_weight Down m c e = let (odd, within) = window_parts m e in down_weight m c (omega arith)

  -- so the sheet has as many additions as the written one
  pub columns_cost : (rows : Rows) → additions_of (I m1 m2) (columns_by rows m1 m2 k l) k l ≡ additions_of (I m1 m2) (columns_by Up m1 m2 k l) k l
  columns_cost rows =
      let (a, b) = both (is_window m1) (is_window m2) windows in
      omega (
        arith,
        sheet_cost (I m1 m2) (columns_by rows m1 m2 k l) k l (columns_make rows),
        sheet_cost (I m1 m2) (columns_by Up m1 m2 k l) k l (columns_make Up),
        paired_weight (row_by rows m1 k) (row_by rows m2 l),
        paired_weight (row m1 k) (row m2 l),
        same_weight rows m1 k a,
        same_weight rows m2 l b,
      )

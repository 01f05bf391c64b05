-- After the two row calls the digits stand in the rows (DigitRows).
use Rattle.std.specs.Prelude.{Ok, ◌+◌}
use Rattle.std.proofs.Common.{refl, ap, arith}
use mathlib.Core.Bool.{and-eq-true_iff}
use lib.IntN.{ℤ}
use lib.ListN.{length}
use Rattle.digits.specs.Scalar.{signed_scalar, sized}
use Rattle.digits.specs.Limits.{gateway}
use Rattle.recode.specs.Call.{weight_written}
use Rattle.recode.proofs.Laws.Call.Short.{answer_short}
use Rattle.sheet.specs.declared.Plan.TheVariants.{I}
use Rattle.written.specs.Makes.{Makes}
use Rattle.writer.specs.Call.Met.{windows_valid}
use Rattle.writer.specs.Rows.{columns_by}
use Rattle.writer.proofs.Laws.Rows.Made.{rows_kept, columns_make}
use Rattle.writer.proofs.DigitRows.{in_bounds, few_places, Standing, ready, standing_written, first_met, second_met, row_calls}
use Rattle.writer.proofs.plans.write_i.Given.{Over}
use Rattle.writer.proofs.plans.write_i.Goals.{In_ok-second, After-max}
use Rattle.writer.proofs.plans.write_i.Goals as goal

pub returns-in_err-first : goal.returns-in_err-first
returns-in_err-first g c =
    let a = c.args in
    first_met g.R.Rows.kind a.k.bytes.now a.k.sign a.l.bytes.now a.l.sign a.p.now a.q.now a.m1 a.m2 c.requires.scalars c.requires.windows c.requires.digits_room
    c.in_err-first.ensures.answer

pub returns-in_err-second : goal.returns-in_err-second
returns-in_err-second g c =
    let a = c.args in
    second_met g.R.Rows.kind a.k.bytes.now a.k.sign a.l.bytes.now a.l.sign a.p.now a.q.now a.m1 a.m2 c.requires.scalars c.requires.windows c.requires.digits_room
    c.in_err-second.ensures.answer

pub overflow_add-columns : goal.overflow_add-columns
overflow_add-columns g c =
    let p = answer_short gateway c.args.k.bytes.now c.args.k.sign (length c.args.p.now) (rows_kept g.R.Rows.kind c.args.m1 (signed_scalar c.args.k.bytes.now c.args.k.sign)) c.args.k.are_bytes in
    let q = answer_short gateway c.args.l.bytes.now c.args.l.sign (length c.args.q.now) (rows_kept g.R.Rows.kind c.args.m2 (signed_scalar c.args.l.bytes.now c.args.l.sign)) c.args.l.are_bytes in
    record { fits = omega (arith, ap weight_written c.in_ok-first.ensures.answer, ap weight_written c.in_ok-second.ensures.answer, p.length_most, p.weight_most, q.length_most, q.weight_most) }

-- the digits after the calls
module _ (g : Over) (c : After-max g) where
  abbrev x : ℤ
  x = signed_scalar c.args.k.bytes.now c.args.k.sign

  abbrev y : ℤ
  y = signed_scalar c.args.l.bytes.now c.args.l.sign

  makes : Makes (I c.args.m1 c.args.m2) x y (columns_by g.R.Rows.kind c.args.m1 c.args.m2 x y)
  makes = columns_make c.args.m1 c.args.m2 x y c.requires.windows g.R.Rows.kind

  standing : Standing (I c.args.m1 c.args.m2) c.write.new.digits c.write-2.new.digits (columns_by g.R.Rows.kind c.args.m1 c.args.m2 x y) c.max.result (c.in_ok-first.first.weight + c.in_ok-second.second.weight)
  standing =
      let a = c.args in
      row_calls g.R.Rows.kind a.k.bytes.now a.k.sign a.l.bytes.now a.l.sign a.p.now a.q.now a.m1 a.m2 c.requires.scalars c.requires.windows c.requires.digits_room
      (few_places a.k.bytes.now a.k.sign a.l.bytes.now a.l.sign c.args.k.are_bytes c.args.l.are_bytes makes)
      c.in_ok-first.ensures.answer c.in_ok-second.ensures.answer c.in_ok-first.ensures.buffer c.in_ok-second.ensures.buffer c.max.ensures refl

pub write_sheet-requires : goal.write_sheet-requires
write_sheet-requires g c =
    let a = c.args in
    let s = (goal.at.write_sheet-requires g c).After-max in
    let z = (and-eq-true_iff (sized gateway a.k.bytes.now) (sized gateway a.l.bytes.now)).0 c.requires.scalars in
    ready (x g s) (y g s) (standing g s) (windows_valid a.m1 a.m2 c.requires.windows) (in_bounds a.k.bytes.now a.k.sign c.args.k.are_bytes z.0) (in_bounds a.l.bytes.now a.l.sign c.args.l.are_bytes z.1)
    (makes g s) c.requires.sheet_room

pub returns : goal.returns
returns g c =
    let s = (goal.at.returns g c).After-max in
    let old = standing_written (x g s) (y g s) (standing g s) c.args.sheet.now (c.write_sheet.ensures.answer, c.write_sheet.ensures.buffer) in
    record { answer = ap Ok old.0; buffer = old.1 }

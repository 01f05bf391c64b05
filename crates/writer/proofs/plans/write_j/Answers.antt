-- After the joint call the digits stand in the rows (DigitRows).
use Rattle.std.specs.Prelude.{Ok}
use Rattle.std.proofs.Common.{refl, ap}
use mathlib.Core.Bool.{and-eq-true_iff}
use lib.IntN.{ℤ}
use Rattle.digits.specs.Scalar.{signed_scalar, sized}
use Rattle.digits.specs.Limits.{gateway}
use Rattle.sheet.specs.declared.Plan.TheVariants.{J}
use Rattle.written.specs.Valid.{for_j}
use Rattle.written.specs.Written.{digits}
use Rattle.written.specs.Written.Columns.{digits_make}
use Rattle.writer.proofs.DigitRows.{in_bounds, few_places, Standing, ready, standing_written, joint_call}
use Rattle.writer.proofs.plans.write_j.Goals.{In_ok-form}
use Rattle.writer.proofs.plans.write_j.Goals as goal

-- the digits after the call
module _ (c : In_ok-form) where
  abbrev x : ℤ
  x = signed_scalar c.args.k.bytes.now c.args.k.sign

  abbrev y : ℤ
  y = signed_scalar c.args.l.bytes.now c.args.l.sign

  standing : Standing J c.joint.new.k_digits c.joint.new.l_digits (digits J x y) c.in_ok-form.form.length c.in_ok-form.form.weight
  standing =
      let a = c.args in
      joint_call a.k.bytes.now a.k.sign a.l.bytes.now a.l.sign a.p.now a.q.now c.requires.scalars c.requires.digits_room
      (few_places a.k.bytes.now a.k.sign a.l.bytes.now a.l.sign c.args.k.are_bytes c.args.l.are_bytes (digits_make x y for_j))
      c.in_ok-form.ensures.answer c.in_ok-form.ensures.first c.in_ok-form.ensures.second refl refl

pub write_sheet-requires : goal.write_sheet-requires
write_sheet-requires c =
    let a = c.args in
    let s = (goal.at.write_sheet-requires c).In_ok-form in
    let z = (and-eq-true_iff (sized gateway a.k.bytes.now) (sized gateway a.l.bytes.now)).0 c.requires.scalars in
    ready (x s) (y s) (standing s) for_j (in_bounds a.k.bytes.now a.k.sign c.args.k.are_bytes z.0) (in_bounds a.l.bytes.now a.l.sign c.args.l.are_bytes z.1)
    (digits_make (x s) (y s) for_j) c.requires.sheet_room

pub returns : goal.returns
returns c =
    let s = (goal.at.returns c).In_ok-form in
    let old = standing_written (x s) (y s) (standing s) c.args.sheet.now (c.write_sheet.ensures.answer, c.write_sheet.ensures.buffer) in
    record { answer = ap Ok old.0; buffer = old.1 }

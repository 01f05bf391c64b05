-- Where all questions are met the sheet is written (PlanAnswers).
use Rattle.std.specs.Prelude.{◌≡◌, true, ◌&&◌, refl}
use Rattle.digits.specs.Row.{is_window}
use Rattle.digits.specs.Scalar.{signed_scalar}
use Rattle.writer.specs.Call.Met.{windows_valid}
use Rattle.writer.specs.Rows.{columns_by}
use Rattle.writer.proofs.Laws.Rows.Made.{columns_make}
use Rattle.writer.proofs.PlanAnswers.{fits, i_written}
use Rattle.writer.proofs.plans.plan_i_within.Goals as goal

pub write_i-requires-clause-sheet_room : goal.write_i-requires-clause-sheet_room
write_i-requires-clause-sheet_room g c =
    let a = c.args in
    let windows : (is_window a.m1 && is_window a.m2) ≡ true = rw (c.in_ok-try_from.ensures.1, c.in_ok-try_from-2.ensures.1) refl in
    fits c.requires a.k.bytes.now a.l.bytes.now c.in_ok-check_scalars.ensures a.k.sign a.l.sign (windows_valid a.m1 a.m2 windows)
    (columns_make a.m1 a.m2 (signed_scalar a.k.bytes.now a.k.sign) (signed_scalar a.l.bytes.now a.l.sign) windows g.R.Rows.kind)
    c.args.k.are_bytes c.args.l.are_bytes c.in_ok-check_room.ensures

pub returns-clause-promised : goal.returns-clause-promised
returns-clause-promised g c =
    let a = c.args in
    let x = signed_scalar a.k.bytes.now a.k.sign in
    let y = signed_scalar a.l.bytes.now a.l.sign in
    let windows : (is_window a.m1 && is_window a.m2) ≡ true = rw (c.in_ok-try_from.ensures.1, c.in_ok-try_from-2.ensures.1) refl in
    (i_written a.limits c.requires.enough a.k.bytes.now a.k.sign a.l.bytes.now a.l.sign a.sheet.now c.args.k.are_bytes c.args.l.are_bytes a.m1 a.m2 (columns_by g.R.Rows.kind a.m1 a.m2 x y)
    (λ e. columns_make a.m1 a.m2 x y e g.R.Rows.kind) c.in_ok-check_scalars.ensures windows c.in_ok-check_room.ensures c.write_i.ensures.answer c.write_i.ensures.buffer).1.1.0

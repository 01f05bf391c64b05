-- Where all questions are met the sheet is written (PlanAnswers).
use Rattle.digits.specs.Scalar.{signed_scalar}
use Rattle.written.specs.Valid.{for_j}
use Rattle.written.specs.Written.Columns.{digits_make}
use Rattle.writer.proofs.PlanAnswers.{fits, j_written}
use Rattle.writer.proofs.plans.plan_j_within.Goals as goal

pub write_j-requires-clause-sheet_room : goal.write_j-requires-clause-sheet_room
write_j-requires-clause-sheet_room c =
    let k = c.args.k in
    let l = c.args.l in
    fits c.requires k.bytes.now l.bytes.now c.in_ok-check_scalars.ensures k.sign l.sign for_j (digits_make (signed_scalar k.bytes.now k.sign) (signed_scalar l.bytes.now l.sign) for_j)
    c.args.k.are_bytes c.args.l.are_bytes c.in_ok-check_room.ensures

pub returns : goal.returns
returns c =
    let k = c.args.k in
    let l = c.args.l in
    let old = j_written c.args.limits c.requires.enough k.bytes.now k.sign l.bytes.now l.sign c.args.sheet.now c.args.k.are_bytes c.args.l.are_bytes c.in_ok-check_scalars.ensures c.in_ok-check_room.ensures
    c.write_j.ensures.answer c.write_j.ensures.buffer in
    record { answer = old.0; buffer = old.1.0; promised = old.1.1.0; question = old.1.1.1 }

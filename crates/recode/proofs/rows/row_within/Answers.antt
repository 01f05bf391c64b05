-- `row_within` meets its contract: the questions in order, and then the row of the bytes is given the sign.
use Rattle.std.specs.Prelude.{◌≡◌, true, Ok, ◌≤◌}
use Rattle.std.proofs.Common.{ap, ◌∙◌, arith, leb-true}
use Rattle.digits.specs.Row.{is_window}
use Rattle.digits.specs.Row.Window.{window_parts}
use Rattle.digits.specs.Scalar.{signed_scalar}
use Rattle.recode.specs.declared.answer.Written.{Written}
use Rattle.recode.specs.Body.Sign.{signed_below}
use Rattle.recode.proofs.Laws.Call.Row.{written}
use Rattle.recode.proofs.Laws.Call.Standing.{row_kept}
use Rattle.recode.proofs.Signed.{signed_row, wrote_signed_row}
use Rattle.recode.proofs.rows.row_within.Goals as goal

pub returns : goal.returns
returns c =
    let s = c.args.scalar.bytes.now in
    let sign = c.args.scalar.sign in
    let buffer = c.args.digits.now in
    let m = c.in_ok-window.window in
    let (same, window) = c.in_ok-window.ensures in
    let is : is_window m ≡ true = rw same window in
    let one : 1 ≤ m = omega (arith, (window_parts m is).0) in
    let row = c.write_row-written in
    let old = written (row_kept m (signed_scalar s sign)) c.args.limits s buffer c.in_ok-check.ensures is (Ok row.result) c.give_sign.new.row (omega (arith, leb-true _ _ c.in_ok-check_room.ensures))
    (ap Ok row.ensures.answer ∙ wrote_signed_row s sign m one)
    (c.give_sign.ensures ∙ ap (signed_below sign row.result.length) row.ensures.buffer ∙ signed_row s sign m one row.result.length buffer (ap (λ (w : Written). w.length) row.ensures.answer))
    in
    rw (← same) record { answer = old.0; buffer = old.1.0; promised = old.1.1.0; question = old.1.1.1 }

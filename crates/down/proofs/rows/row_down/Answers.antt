-- `row_down` meets its contract: the questions in order, and then the row is written.
use Rattle.std.specs.Prelude.{◌≡◌, true, Ok}
use Rattle.std.proofs.Common.{ap, arith, leb-true}
use Rattle.digits.specs.Row.{is_window}
use Rattle.digits.specs.Scalar.{signed_scalar}
use Rattle.recode.proofs.Laws.Call.Row.{written}
use Rattle.down.proofs.Laws.Call.Row.{down_kept}
use Rattle.down.proofs.rows.row_down.Goals as goal

pub returns : goal.returns
returns g c =
    let s = c.args.scalar.bytes.now in
    let z = signed_scalar s c.args.scalar.sign in
    let m = c.in_ok-window.window in
    let (same, window) = c.in_ok-window.ensures in
    let is : is_window m ≡ true = rw same window in
    let row = c.write_row in
    let old = written (down_kept m z) c.LIMITS.result s c.args.digits.now c.in_ok-check.ensures is (Ok row.result) row.new.out (omega (arith, leb-true _ _ c.in_ok-check_room.ensures)) (ap Ok row.ensures.answer) row.ensures.buffer in
    rw (← same, ← c.LIMITS.ensures) record { answer = old.0; buffer = old.1.0; promised = old.1.1.0; question = old.1.1.1 }

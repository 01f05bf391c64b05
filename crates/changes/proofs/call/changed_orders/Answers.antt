-- `changed_orders` meets its contract. The loop's invariant: the lines of the first n orders stand at the front (Turns).
use native.Mathlib.Omega.{arith}
use Rattle.changes.proofs.Turns.{standing_none, standing_next, too_short, all_told}
use Rattle.changes.proofs.call.changed_orders.Goals as goal

pub returns-then-out-lt-ROOM : goal.returns-then-out-lt-ROOM
returns-then-out-lt-ROOM c = let old = too_short c.args.out.now c.if-out-lt-ROOM.true in record { answer = old.0; buffer = old.1 }

pub loop-n-init : goal.loop-n-init
loop-n-init c = standing_none c.args.out.now

pub loop-n-preserved : goal.loop-n-preserved
loop-n-preserved c =
    standing_next c.args.out.now c.loop-n.invariant (omega arith) (c.put_order-at.ensures.answer, (c.put_order-at.ensures.line_fits, c.put_order-at.ensures.buffer))

pub returns : goal.returns
returns c =
    let old = all_told c.args.out.now c.loop-n.invariant (omega (arith, c.loop-n.invariant.counted)) c.if-out-lt-ROOM.false in record { answer = old.0; buffer = old.1 }

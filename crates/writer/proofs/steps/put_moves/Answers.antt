-- `put_moves` meets its contract. The loop's invariant: the places from i up have been put, and those below i are left
-- (MovesLoop). The measure is i.
use native.Mathlib.Omega.{arith}
use Rattle.writer.proofs.MovesLoop.{move_stop, double_room, steps_room, move_turn}
use Rattle.writer.proofs.steps.put_moves.Goals as goal

pub put_letter-begun-requires : goal.put_letter-begun-requires
put_letter-begun-requires c =
    double_room c.args.plan c.args.p.now c.args.q.now c.args.top c.args.out.now c.args.at c.loop-i.invariant c.requires.1 (omega (arith, c.loop-i-test.true))

pub put_steps-next-requires : goal.put_steps-next-requires
put_steps-next-requires c =
    steps_room c.args.plan c.args.p.now c.args.q.now c.args.top c.args.out.now c.args.at c.loop-i.invariant c.requires.1 (omega (arith, c.loop-i-test.true)) c.put_letter-begun.ensures

pub loop-i-preserved : goal.loop-i-preserved
loop-i-preserved c =
    move_turn c.args.plan c.args.p.now c.args.q.now c.args.top c.args.out.now c.args.at c.loop-i.invariant c.requires.1 (omega (arith, c.loop-i-test.true)) c.put_letter-begun.ensures c.put_steps-next.ensures

pub returns : goal.returns
returns c =
    move_stop c.args.plan c.args.p.now c.args.q.now c.args.top c.args.out.now c.args.at c.loop-i.invariant c.loop-i-test.false

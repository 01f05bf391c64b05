-- `put_moves` meets its contract. The loop's invariant: the places from i up have been put, and those below i are left
-- (MovesLoop). The measure is i.
use Rattle.writer.proofs.MovesLoop.{Moving}
use Rattle.writer.proofs.steps.put_moves.Given as goal

abbrev pub invariant-loop-i : goal.invariant-loop-i
invariant-loop-i l = Moving l.plan l.p l.q l.top l.initial.out l.out l.at l.next l.i

-- `write_digits` meets its contract. The loop's invariant: what stands in the buffer, followed by the row of the remainder,
-- is the whole row (RowTurns). The measure is the number of places left.
use Prim.Native.Nat.{◌-◌}
use lib.ListN.{length}
use Rattle.recode.proofs.RowLoop.{State}
use Rattle.recode.proofs.rows.write_digits.Given as goal

abbrev pub invariant-loop-rule : goal.invariant-loop-rule
invariant-loop-rule l = State l.bytes l.rule.m l.initial.out l.out l.low l.place l.weight

abbrev pub decreases-loop-rule : goal.decreases-loop-rule
decreases-loop-rule l = length l.out - l.place

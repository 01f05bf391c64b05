-- `write_columns` meets its contract. The loop's invariant: the columns that stand in the buffers, followed by those of the
-- remainders, are all columns (JointLoop). The measure is the number of places left.
use Prim.Native.Nat.{◌-◌}
use lib.ListN.{length}
use Rattle.recode.proofs.JointLoop.{State}
use Rattle.recode.proofs.columns.write_columns.Given as goal

abbrev pub invariant-loop-table : goal.invariant-loop-table
invariant-loop-table l = State l.k l.l l.initial.k_out l.k_out l.l_out l.k_low l.l_low l.place l.weight

abbrev pub decreases-loop-table : goal.decreases-loop-table
decreases-loop-table l = length l.k_out - l.place

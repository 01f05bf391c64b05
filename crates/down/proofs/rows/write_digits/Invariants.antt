-- `write_digits` meets its contract. The loop's invariant: the digits of the places left, followed by what stands in the buffer, are those
-- of all places (Turns), and the bits held are those from the highest place left down (Reading). That place gets lower at each turn, or
-- more bits are held.
use Prim.Native.Nat.{suc, ◌+◌, ◌-◌, ◌*◌}
use lib.ListN.{length}
use Rattle.digits.specs.Scalar.{scalar}
use Rattle.down.proofs.Reading.{Reading}
use Rattle.down.proofs.Turns.{Turn}
use Rattle.down.proofs.rows.write_digits.Given as goal

abbrev pub invariant-loop-bits : goal.invariant-loop-bits
invariant-loop-bits l = Turn l.m (scalar l.bytes) l.sign (length l.initial.out) l.out (suc l.place) l.weight × Reading (scalar l.bytes) (length l.bytes) l.sign l.place l.bits.at l.bits.held l.bits.bits

abbrev pub decreases-loop-bits : goal.decreases-loop-bits
decreases-loop-bits l = 65 * l.place + (64 - l.bits.held)

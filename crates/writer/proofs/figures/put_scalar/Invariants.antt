-- The figures of the bytes so far have been put (Hexadecimal).
use Rattle.writer.proofs.Hexadecimal.{Scanned}
use Rattle.writer.proofs.figures.put_scalar.Given as goal

abbrev pub invariant-loop-byte : goal.invariant-loop-byte
invariant-loop-byte l = Scanned l.bytes l.initial.out l.at l.out l.next l.byte-index

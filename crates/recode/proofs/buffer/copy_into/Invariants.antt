-- `copy_into` meets its contract. The loop's invariant: the last i bytes stand reversed at the front, and zeros above.
use Rattle.std.specs.Prelude.{◌≡◌, length}
use Rattle.recode.proofs.Turned.{turned}
use Rattle.recode.proofs.buffer.copy_into.Given as goal

abbrev pub invariant-loop-i : goal.invariant-loop-i
invariant-loop-i l = l.bytes ≡ turned l.scalar (length l.initial.bytes) l.i

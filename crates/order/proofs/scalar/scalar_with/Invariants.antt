-- `scalar_with` meets its contract. The loop's invariant: the bytes so far are the number of two figures for each of them.
use Rattle.std.proofs.Common.{◌++◌, replicate}
use Rattle.order.proofs.Hexadecimal.{Made}
use Rattle.order.proofs.scalar.scalar_with.Given as goal

abbrev pub invariant-loop-i : goal.invariant-loop-i
invariant-loop-i l = Made (replicate l.pad 48 ++ l.field) l.bytes l.i

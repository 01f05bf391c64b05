-- `negate` meets its contract. The loop's invariant: the digits so far are turned.
use Rattle.std.specs.Prelude.{◌≡◌, map, ◌++◌, take, drop}
use Rattle.digits.specs.Byte.{turned}
use Rattle.recode.proofs.sign.negate.Given as goal

abbrev pub invariant-loop-byte : goal.invariant-loop-byte
invariant-loop-byte l = l.row ≡ map turned (take l.byte-index l.fn.row) ++ drop l.byte-index l.fn.row

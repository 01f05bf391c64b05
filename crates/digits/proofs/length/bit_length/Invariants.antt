-- The bytes that are left have the scalar's value.
use Rattle.std.proofs.Common.{◌≡◌, drop}
use Rattle.digits.specs.Scalar.{scalar}
use Rattle.digits.proofs.length.bit_length.Given as goal

abbrev pub invariant-loop-i : goal.invariant-loop-i
invariant-loop-i l = scalar (drop l.i l.bytes) ≡ scalar l.bytes

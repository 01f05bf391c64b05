-- `bits_of` meets its contract: 32 less the leading zeros.
use native.Mathlib.Omega.{arith}
use Rattle.down.proofs.BitLength.{length_is}
use Rattle.down.proofs.bits.bits_of.Goals as goal

pub returns : goal.returns
returns c = omega (arith, length_is 32 c.args.n c.ranges.n.fits)

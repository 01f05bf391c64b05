-- `zeros_above` meets its contract, by the bit length.
use Rattle.down.proofs.BitLength.{length_is}
use Rattle.down.proofs.bits.zeros_above.Goals as goal

pub returns : goal.returns
returns c = length_is 64 c.args.n c.ranges.n.fits

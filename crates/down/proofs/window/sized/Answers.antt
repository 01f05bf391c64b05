-- `sized` meets its contract, by the trailing zeros.
use mathlib.Core.Path.{refl}
use Rattle.down.proofs.WindowSize.{trailing}
use Rattle.down.proofs.window.sized.Goals as goal

pub returns : goal.returns
returns c = (refl, (trailing c.args.size c.requires c.ranges.size.fits).1)

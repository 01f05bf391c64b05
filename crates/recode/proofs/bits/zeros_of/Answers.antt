-- `zeros_of` meets its contract, by the laws of LowBits on trailing zeros.
use Prim.Native.Nat.{◌+◌}
use native.Mathlib.Omega.{arith}
use lib.Pow.{pow_mono}
use Rattle.recode.proofs.LowBits.{trailing}
use Rattle.recode.proofs.bits.zeros_of.Goals as goal

pub returns-else-n-eq0 : goal.returns-else-n-eq0
returns-else-n-eq0 c =
    trailing c.args.bits c.args.n c.requires.1 c.if-n-eq0.false
    (omega (arith, c.requires.1, pow_mono {i = c.args.bits + 1} {j = 48} (omega arith)))

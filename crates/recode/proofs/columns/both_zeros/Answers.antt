-- `both_zeros` meets its contract, by that of `zeros_of`: zeros of the bits together are zeros of each number,
-- and where a one stands above them, one of the numbers has it.
use Prim.Native.Nat.{◌+◌}
use native.Mathlib.Omega.{arith}
use lib.Bits.{or_lt}
use Rattle.recode.proofs.LowBits.{one_bit_more, shared_zeros, shared_one}
use Rattle.recode.proofs.columns.both_zeros.Goals as goal

pub zeros_of-requires : goal.zeros_of-requires
zeros_of-requires c =
    let a = c.args in (
      a.k.few,
      or_lt (a.k.bits + 1) _ _ (one_bit_more a.k.bits a.k.low (omega arith) a.k.carried)
          (rw c.requires.0 (one_bit_more a.l.bits a.l.low (omega arith) a.l.carried)),
    )

pub returns : goal.returns
returns c = record { zeros = (c.zeros_of.ensures.0, shared_zeros _ _ _ c.zeros_of.ensures.1.0); ended = λ h. shared_one _ _ _ (c.zeros_of.ensures.1.1 h) }

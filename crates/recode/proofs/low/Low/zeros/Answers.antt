-- `zeros` meets its contract, by that of `zeros_of`.
use Rattle.recode.proofs.LowBits.{one_bit_more}
use Rattle.recode.proofs.low.Low.zeros.Goals as goal
use Rattle.std.proofs.Common.{arith}

pub zeros_of-requires : goal.zeros_of-requires
zeros_of-requires c = let s = c.args.self in (s.few, one_bit_more s.bits s.low (omega arith) s.carried)

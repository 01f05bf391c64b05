-- `four_at` meets its contract: each byte by the law `four_bytes`.
use Rattle.std.proofs.Common.{arith}
use Rattle.recode.proofs.LowBits.{four_bytes}
use Rattle.recode.proofs.bits.four_at.Goals as goal

pub returns : goal.returns
returns c = (omega arith, four_bytes c.args.bytes.now c.args.at _ (omega arith))

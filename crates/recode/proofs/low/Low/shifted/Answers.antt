-- `shifted` meets its contract: a shift divides by the power of two.
use Rattle.std.proofs.Common.{arith}
use Rattle.recode.proofs.LowBits.{shifted_bound}
use Rattle.recode.proofs.low.Low.shifted.Goals as goal

pub invariant_of-result : goal.invariant_of-result
invariant_of-result c =
    let s = c.args.self in
    record { few = omega (arith, s.few); carried = shifted_bound s.bits s.low c.args.zeros c.requires.0 s.carried c.requires.1 }

-- `plans_to_try` meets its contract: for a small limit only the plans with small first windows are enough.
use Rattle.std.proofs.Common.{arith}
use Rattle.chooser.proofs.Limit.{enough_wide}
use Rattle.chooser.proofs.choice.plans_to_try.Goals as goal

pub returns : goal.returns
returns c = enough_wide c.args.limit _ (omega (arith, c.clamp.ensures)) (omega (arith, c.clamp.ensures)) (omega (arith, c.clamp.ensures))

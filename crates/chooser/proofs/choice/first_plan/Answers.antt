-- `first_plan` meets its contract: the sizes are those of the scalars.
use Rattle.std.proofs.Common.{◌∙◌}
use Rattle.digits.specs.Scalar.{scalar}
use Rattle.chooser.proofs.Turns.{plan_by_sizes}
use Rattle.chooser.proofs.choice.first_plan.Goals as goal

pub returns : goal.returns
returns c = c.least_plan.ensures ∙ rw c.within.ensures (plan_by_sizes c.args.limit (scalar c.args.k.scalar.bytes.now) (scalar c.args.l.scalar.bytes.now))

-- `plan_at` meets its contract, by the numbers of the plans.
use Rattle.chooser.proofs.Numbers.{first_plan, other_plan}
use Rattle.chooser.proofs.choice.plan_at.Goals as goal

pub returns-then-n-eq0 : goal.returns-then-n-eq0
returns-then-n-eq0 c = first_plan c.args.n c.if-n-eq0.true

pub returns : goal.returns
returns c = other_plan c.args.n c.requires c.if-n-eq0.false

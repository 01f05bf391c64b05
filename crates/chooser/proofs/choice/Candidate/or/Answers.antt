-- `or` meets its contract: the derived order of costs is that of their keys.
use Rattle.std.proofs.Common.{refl}
use Rattle.chooser.proofs.Costs.{less_before}
use Rattle.chooser.proofs.choice.Candidate.or.Goals as goal

pub returns-then-lt : goal.returns-then-lt
returns-then-lt c = rw (← less_before c.args.other.cost c.args.self.cost, ← c.lt.ensures, c.if-lt.true) refl

pub returns-else-lt : goal.returns-else-lt
returns-else-lt c = rw (← less_before c.args.other.cost c.args.self.cost, ← c.lt.ensures, c.if-lt.false) refl

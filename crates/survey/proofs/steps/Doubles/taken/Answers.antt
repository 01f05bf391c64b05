-- `Doubles::taken` meets its contract: a D line is one line of Taken.
use Rattle.survey.specs.Survey.State.{found}
use Rattle.survey.proofs.Taken.{double_last, double_more}
use Rattle.survey.proofs.steps.Doubles.taken.Goals as goal

pub returns-then-self-eq0 : goal.returns-then-self-eq0
returns-then-self-eq0 c = record { rest = λ ls. rw c.fault_or.ensures (double_last (found c.args.self.fault) c.args.line c.args.self.left ls c.if-self-eq0.true) }

pub returns-else-self-eq0 : goal.returns-else-self-eq0
returns-else-self-eq0 c = record { rest = λ ls. double_more (found c.args.self.fault) c.args.line c.args.self.left ls c.if-self-eq0.false }

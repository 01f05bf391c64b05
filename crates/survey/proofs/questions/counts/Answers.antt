-- `counts` meets its contract: each return is one line of Judged.
use Rattle.survey.proofs.Judged.{answer_counts, answer_met}
use Rattle.survey.proofs.questions.counts.Goals as goal

pub returns-then-doublings-state : goal.returns-then-doublings-state
returns-then-doublings-state c = λ limits ls a f. answer_met a f c.if-additions-state.true c.if-doublings-state.true

pub returns-else-additions-state : goal.returns-else-additions-state
returns-else-additions-state c = λ limits ls a f. answer_counts a f _ c.at.ensures c.else-additions-state.either

-- `finished` meets its contract, by the phase.
use mathlib.Core.Path.{sym, ap, ◌∙◌}
use mathlib.Core.Option.{some}
use Rattle.survey.proofs.ScanTurns.{missing, reached_end}
use Rattle.survey.proofs.scan.finished.Goals as goal

pub returns-in-Tables : goal.returns-in-Tables
returns-in-Tables c = λ plan. (c.at.ensures.0, missing c.args.state c.in-Tables.is ∙ ap some (sym c.at.ensures.1))

pub returns-in-Ended : goal.returns-in-Ended
returns-in-Ended c = λ plan. reached_end plan c.args.state c.in-Ended.is

-- `verdict` meets its contract, by what `read` answers.
use mathlib.Core.Path.{ap, subst}
use Rattle.reader.specs.Text.{Holds, answer_line}
use Rattle.reader.specs.Text.Held.{held_before}
use Rattle.reader.proofs.answer.verdict.Goals as goal

pub returns-in-Ok : goal.returns-in-Ok
returns-in-Ok c = subst (Holds c.with-in-Ok.result) (ap answer_line c.in-Ok.ensures) (held_before (held_before c.empty.ensures.1 c.with.ensures) c.with-in-Ok.ensures)

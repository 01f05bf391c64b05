-- `Tables::closed` meets its contract: the line after the T lines is one line of Taken.
use mathlib.Core.Path.{refl, ap, ◌∙◌}
use Prim.Native.Nat.{ℕ}
use lib.Dec.{leb}
use Rattle.sheet.specs.Plan.{tables}
use Rattle.sheet.specs.Questions.{unless}
use Rattle.survey.specs.Survey.State.{earlier, found}
use Rattle.survey.proofs.Taken.{tables_closed}
use Rattle.survey.proofs.table.Tables.closed.Goals as goal

pub returns : goal.returns
returns c =
    let a = c.args in
    record {
      count = refl;
      rest =
          c.fault_or.ensures
          ∙ ap (λ (n : ℕ). earlier (found a.self.fault) (unless (leb n a.self.count) a.line)) c.table_lines.ensures
          ∙ tables_closed (tables a.plan) (found a.self.fault) a.line a.self.count;
    }

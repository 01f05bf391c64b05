-- `Tables::taken` meets its contract: a T line is one line of Taken.
use mathlib.Core.Path.{refl, ap, ◌∙◌}
use mathlib.Core.Option.{Option}
use Prim.Native.Nat.{ℕ, ◌+◌}
use lib.ListN.{drop}
use Rattle.sheet.specs.Plan.{tables}
use Rattle.sheet.specs.Questions.{differs}
use Rattle.survey.specs.Survey.State.{earlier, found}
use Rattle.survey.proofs.Taken.{table_taken}
use Rattle.survey.proofs.table.Tables.taken.Goals as goal

pub returns : goal.returns
returns c =
    let a = c.args in
    record {
      count = refl;
      rest = λ x e ts.
          ap (λ (o : Option ℕ). earlier o (differs (a.line + 1) (drop (a.self.count + 1) (tables a.plan)) ts)) c.fault_or.ensures
          ∙ table_taken (tables a.plan) x (found a.self.fault) a.line a.self.count ts c.is_table-met.result (c.is_table-met.ensures x e);
    }

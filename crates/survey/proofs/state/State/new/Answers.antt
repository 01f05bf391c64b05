-- `State::new` meets its contract: each question is one line of StateTurns.
use native.Mathlib.Omega.{arith}
use mathlib.Core.Path.{refl, ap, ◌∙◌}
use mathlib.Core.List.{[]}
use mathlib.Core.Option.{Option}
use Prim.Native.Nat.{ℕ}
use Rattle.sheet.specs.Plan.{tables}
use Rattle.sheet.specs.Line.{plan}
use Rattle.sheet.specs.Questions.{table_lines, differs}
use Rattle.survey.specs.Survey.State.{earlier, is_on_plan, claimed}
use Rattle.survey.proofs.HeaderTurns.{begin_placed, begin_tables, begin_disallowed, begin_excess, begin_additions, begin_doublings, begin_claimed}
use Rattle.survey.proofs.state.State.new.Goals as goal

pub returns : goal.returns
returns c =
    λ h e.
    record {
      line = refl;
      counted = record { few = omega arith; tables = omega arith; additions = omega arith; doublings = omega arith };
      misplaced = λ ls. begin_placed h ls;
      off_plan = λ ls.
          ap (λ (o : Option ℕ). earlier o (differs 2 (tables (plan h)) (table_lines ls))) c.fault_or.ensures
          ∙ begin_tables h ls c.is_on_plan-met.result (c.is_on_plan-met.ensures ∙ ap is_on_plan e);
      disallowed = λ ls. begin_disallowed h ls (plan h);
      excess = λ ls. begin_excess h ls _;
      additions = λ ls. begin_additions h ls;
      doublings = λ ls. begin_doublings h ls;
      places = c.claimed.ensures ∙ ap (claimed c.args.limits) e ∙ begin_claimed h [] c.args.limits;
    }

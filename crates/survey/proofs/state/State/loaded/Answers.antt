-- `State::loaded` meets its contract: each question is one line of StateTurns.
use native.Mathlib.Omega.{arith}
use mathlib.Core.Path.{refl, sym, ap, ◌∙◌}
use mathlib.Core.List.{List}
use lib.ListN.{drop}
use Rattle.sheet.specs.Plan.{Point, tables}
use Rattle.sheet.specs.Questions.{differs}
use Rattle.survey.specs.Survey.State.{earlier, found}
use Rattle.survey.proofs.Taken.{earlier_none}
use Rattle.survey.proofs.StateTurns.{header_load, lines_load, excess_load, adds_load, doubles_load}
use Rattle.survey.proofs.state.State.loaded.Goals as goal

pub returns : goal.returns
returns c =
    λ x e.
    let s = c.args.self in
    let plan = c.args.plan in
    record {
      line = refl;
      tables = omega (arith, c.closed.ensures.count);
      adds = omega arith;
      doubles = omega arith;
      misplaced = λ ls. rw c.requires.1 (header_load s.line ls x);
      off_plan = λ ls. rw c.requires.1
          (earlier_none (found c.closed.result.fault)
          ∙ c.closed.ensures.rest
          ∙ ap (λ (ts : List Point). earlier (found s.tables.fault) (differs s.line (drop s.tables.count (tables plan)) ts)) (sym (lines_load s.line ls x)));
      disallowed = λ ls. c.taken.ensures.loaded x e ls;
      excess = λ ls. ap (earlier (found s.doubles.fault)) (excess_load s.line ls x s.doubles.left);
      additions = λ ls. adds_load s.line ls x s.additions;
      doublings = λ ls. doubles_load s.line ls x s.doublings;
      places = refl;
    }

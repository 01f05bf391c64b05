-- `State::added` meets its contract: each question is one line of StateTurns.
use native.Mathlib.Omega.{arith}
use mathlib.Core.Path.{refl, ap}
use Rattle.survey.specs.Survey.State.{earlier, found}
use Rattle.survey.proofs.StateTurns.{load_add, excess_add, adds_add, doubles_add}
use Rattle.survey.proofs.state.State.added.Goals as goal

pub returns : goal.returns
returns c =
    λ x e.
    let s = c.args.self in
    record {
      line = refl;
      tables = omega arith;
      adds = omega arith;
      doubles = omega arith;
      misplaced = λ ls. rw c.requires.1 (load_add s.line ls x);
      off_plan = λ ls. rw c.requires.1;
      disallowed = λ ls. c.taken.ensures.added x e ls;
      excess = λ ls. ap (earlier (found s.doubles.fault)) (excess_add s.line ls x s.doubles.left);
      additions = λ ls. adds_add s.line ls x s.additions;
      doublings = λ ls. doubles_add s.line ls x s.doublings;
      places = refl;
    }

-- `State::doubled` meets its contract: each question is one line of StateTurns.
use native.Mathlib.Omega.{arith}
use mathlib.Core.Path.{refl, ap, ap₂, ◌∙◌}
use Prim.Native.Nat.{ℕ, ◌+◌}
use lib.IntN.{pos}
use Rattle.sheet.specs.Plan.{point}
use Rattle.sheet.specs.Questions.{disallowed_from}
use Rattle.std.specs.declared.option.Option.{Option}
use Rattle.survey.specs.Survey.State.{earlier, found, rank}
use Rattle.survey.proofs.StateTurns.{load_double, disallowed_double, adds_d, doubles_d}
use Rattle.survey.proofs.state.State.doubled.Goals as goal

pub returns : goal.returns
returns c =
    λ plan.
    let s = c.args.self in
    let x = point (pos 0) (pos 0) in
    record {
      line = refl;
      tables = omega arith;
      adds = omega arith;
      doubles = omega arith;
      misplaced = λ ls. rw c.requires.1 (load_double s.line ls x);
      off_plan = λ ls. rw c.requires.1;
      disallowed = λ ls.
          ap₂ (λ (f : Option ℕ) (t : ℕ). earlier (found f) (disallowed_from plan t (s.line + 1) ls)) c.lowered.ensures.1 c.lowered.ensures.0
          ∙ ap (earlier (found s.steps.fault)) (disallowed_double s.line ls x plan (rank s.steps.turn));
      excess = λ ls. c.taken.ensures.rest ls;
      additions = λ ls. adds_d s.line ls x s.additions;
      doublings = λ ls. doubles_d s.line ls x s.doublings;
      places = c.saturating_sub.ensures;
    }

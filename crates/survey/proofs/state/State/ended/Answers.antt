-- `State::ended` meets its contract: each question is one line of StateTurns.
use native.Mathlib.Omega.{arith}
use mathlib.Core.Path.{refl, ap}
use lib.IntN.{pos}
use Rattle.sheet.specs.Plan.{point}
use Rattle.survey.specs.Survey.State.{earlier, found, rank}
use Rattle.survey.proofs.PhaseTurns.{end_placed, end_tables, end_few}
use Rattle.survey.proofs.StateTurns.{disallowed_end, excess_end, adds_end, doubles_end}
use Rattle.survey.proofs.state.State.ended.Goals as goal

pub returns : goal.returns
returns c =
    let s = c.args.self in
    let plan = c.args.plan in
    let x = point (pos 0) (pos 0) in
    record {
      line = refl;
      tables = end_few plan s.tables s.line _ s.phase c.requires.1 c.tables_at_end.ensures.0 c.tables_at_end.ensures.1;
      adds = omega arith;
      doubles = omega arith;
      misplaced = λ ls. end_placed s.phase s.line ls c.requires.1;
      off_plan = λ ls. end_tables plan s.tables s.line _ s.phase c.requires.1 c.tables_at_end.ensures.0 c.tables_at_end.ensures.1 ls;
      disallowed = λ ls. ap (earlier (found s.steps.fault)) (disallowed_end s.line ls x plan (rank s.steps.turn));
      excess = λ ls. ap (earlier (found s.doubles.fault)) (excess_end s.line ls x s.doubles.left);
      additions = λ ls. adds_end s.line ls x s.additions;
      doublings = λ ls. doubles_end s.line ls x s.doublings;
      places = refl;
    }

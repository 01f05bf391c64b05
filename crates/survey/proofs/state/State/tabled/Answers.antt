-- `State::tabled` meets its contract: each question is one line of StateTurns.
use native.Mathlib.Omega.{arith}
use mathlib.Core.Path.{refl, sym, ap, ◌∙◌}
use mathlib.Core.List.{List}
use lib.ListN.{drop}
use Rattle.sheet.specs.Plan.{Point, tables}
use Rattle.sheet.specs.Questions.{table_lines, differs}
use Rattle.survey.specs.Survey.State.{earlier, found, rank}
use Rattle.survey.proofs.StateTurns.{header_table, lines_table, disallowed_table, excess_table}
use Rattle.survey.proofs.state.State.tabled.Goals as goal

pub returns : goal.returns
returns c =
    λ x e.
    let s = c.args.self in
    let plan = c.args.plan in
    let k = c.counts_of-counts.ensures.1 x e in
    record {
      line = refl;
      tables = omega (arith, c.taken.ensures.count);
      adds = omega (arith, c.counts_of-counts.ensures.0);
      doubles = omega (arith, c.counts_of-counts.ensures.0);
      misplaced = λ ls. rw c.requires.1 (header_table s.line ls x);
      off_plan = λ ls. rw c.requires.1
          (c.taken.ensures.rest x e (table_lines ls)
          ∙ ap (λ (ts : List Point). earlier (found s.tables.fault) (differs s.line (drop s.tables.count (tables plan)) ts)) (sym (lines_table s.line ls x)));
      disallowed = λ ls. ap (earlier (found s.steps.fault)) (disallowed_table s.line ls x plan (rank s.steps.turn));
      excess = λ ls. ap (earlier (found s.doubles.fault)) (excess_table s.line ls x s.doubles.left);
      additions = λ ls. omega (arith, k.additions ls);
      doublings = λ ls. omega (arith, k.doublings ls);
      places = refl;
    }

-- `is_window_table` meets its contract, by the number of T lines before.
use native.Mathlib.Omega.{arith}
use mathlib.Core.Path.{ap, ◌∙◌}
use Prim.Native.Nat.{ℕ, ◌-◌}
use lib.IntN.{pos}
use Rattle.sheet.specs.Plan.{point}
use Rattle.sheet.specs.Questions.{same_point}
use Rattle.survey.specs.Survey.State.{multiple_at}
use Rattle.survey.proofs.TableRead.{table_first, table_second}
use Rattle.survey.proofs.table.is_window_table.Goals as goal

pub returns-then-n-first : goal.returns-then-n-first
returns-then-n-first c =
    λ x e.
    c.is_point.ensures x e
    ∙ ap (λ (n : ℕ). same_point x (point (pos n) (pos 0))) c.multiple.ensures
    ∙ table_first c.args.m1 c.args.m2 c.args.n x (omega (arith, c.multiples_of-first.ensures.0))

pub returns-then-left-multiples_of : goal.returns-then-left-multiples_of
returns-then-left-multiples_of c =
    λ x e.
    c.is_point-then-left-multiples_of.ensures x e
    ∙ ap (λ (n : ℕ). same_point x (point (pos 0) (pos n))) (c.multiple-then-left-multiples_of.ensures ∙ ap (λ (k : ℕ). multiple_at (c.args.n - k)) c.multiples_of-first.ensures.0)
    ∙ table_second c.args.m1 c.args.m2 c.args.n x (omega (arith, c.multiples_of-first.ensures.0)) (omega (arith, c.multiples_of-first.ensures.0, c.multiples_of.ensures.0))

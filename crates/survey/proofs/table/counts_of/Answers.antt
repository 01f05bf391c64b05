-- `counts_of` meets its contract, by whether the line doubles.
use native.Mathlib.Omega.{arith}
use mathlib.Core.Path.{sym, ◌∙◌}
use Rattle.survey.proofs.StateTurns.{table_adds, table_adds_none, table_doubles, table_doubles_none}
use Rattle.survey.proofs.table.counts_of.Goals as goal

pub returns-then-is_double : goal.returns-then-is_double
returns-then-is_double c = (
  omega arith,
  λ x e.
      let b = sym (c.is_double.ensures x e) ∙ c.if-is_double.true in
      record { additions = λ ls. table_adds_none x ls b; doublings = λ ls. table_doubles x ls b },
)

pub returns-else-is_double : goal.returns-else-is_double
returns-else-is_double c = (
  omega arith,
  λ x e.
      let b = sym (c.is_double.ensures x e) ∙ c.if-is_double.false in
      record { additions = λ ls. table_adds x ls b; doublings = λ ls. table_doubles_none x ls b },
)

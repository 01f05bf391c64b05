-- The rule of a row of either kind.
use Rattle.std.specs.Prelude.{◌≡◌, List, ℕ, ℤ}
use Rattle.forms.specs.Row.{RowRule}
use Rattle.down.specs.Down.{down}
use Rattle.writer.specs.Rows.{Rows, Up, Down}

-- what makes a row one of a kind
abbrev pub RuleBy : Rows → ℕ → ℤ → List ℤ → Type 0
RuleBy Up m c ds = RowRule m c ds
RuleBy Down m c ds = ds ≡ down m c

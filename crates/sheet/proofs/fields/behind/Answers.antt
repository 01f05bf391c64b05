-- `behind` meets its contract: the part that starts at `at` ends at its first comma.
use native.Mathlib.Omega.{arith}
use mathlib.Core.Path.{subst}
use mathlib.Core.List.{List}
use Prim.Native.Nat.{ℕ}
use lib.ListN.{drop, length-drop}
use Rattle.sheet.specs.Spelling.{comma}
use Rattle.sheet.specs.Spelling.Field.{First}
use Rattle.sheet.proofs.CutTurns.{behind_found, behind_none, to_end}
use Rattle.sheet.proofs.fields.behind.Goals.{After-find-n}
use Rattle.sheet.proofs.fields.behind.Goals as goal

module _ (c : After-find-n) where
  first : First comma (drop c.args.at c.args.s.now) c.find-n.result
  first = subst (λ (l : List ℕ). First comma l c.find-n.result) (to_end c.args.s.now c.args.at) c.find-n.ensures

pub returns-then-n-rest : goal.returns-then-n-rest
returns-then-n-rest c = behind_found c.args.s.now c.args.at (first (goal.at.returns-then-n-rest c).After-find-n) (omega (arith, length-drop c.args.at c.args.s.now)) c.requires

pub returns-else-n-rest : goal.returns-else-n-rest
returns-else-n-rest c = behind_none c.args.s.now c.args.at (first (goal.at.returns-else-n-rest c).After-find-n) (omega (arith, length-drop c.args.at c.args.s.now))

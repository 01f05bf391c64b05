-- `head_field` meets its contract: the header line ends at the first line feed.
use mathlib.Core.Path.{ap, ◌∙◌}
use mathlib.Core.List.{List, []}
use Prim.Native.Nat.{ℕ}
use lib.ListN.{get_or}
use Rattle.sheet.specs.Spelling.{comma, cut}
use Rattle.sheet.proofs.CutTurns.{first_zero}
use Rattle.lines.proofs.header.head_field.Goals as goal

pub returns : goal.returns
returns c = c.field.ensures ∙ ap (λ (s : List ℕ). get_or (cut comma s) c.args.k []) (first_zero c.find-end.ensures)

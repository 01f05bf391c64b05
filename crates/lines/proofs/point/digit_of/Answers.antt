-- `digit_of` meets its contract, by its sign and the decimal behind it.
use mathlib.Core.Path.{ap, ◌∙◌}
use mathlib.Core.List.{List}
use Prim.Native.Nat.{ℕ}
use Rattle.sheet.specs.Numeral.{number}
use Rattle.sheet.specs.Spelling.Field.{decimal_of}
use Rattle.lines.proofs.PointRead.{digit_some}
use Rattle.lines.proofs.point.digit_of.Goals as goal

pub returns : goal.returns
returns c =
    let size = c.in_ok-size.ensures ∙ ap (λ (f : List ℕ). decimal_of (number 10 2 f)) c.unsigned.ensures in
    rw c.sign_of-negative.ensures (digit_some c.args.field.now size (rw c.sign_of-negative.ensures at c.else-negative.either))

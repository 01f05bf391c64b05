-- `refusal` meets its contract: the line's parts, from the last to the first.
use mathlib.Core.List.{append_assoc}
use Rattle.reader.specs.Text.Held.{held_before}
use Rattle.reader.proofs.answer.refusal.Goals as goal

pub returns : goal.returns
returns c =
    let h1 = held_before c.empty.ensures.1 c.with-end.ensures in
    let h2 = held_before h1 c.with_decimal.ensures.0 in
    let h3 = held_before h2 c.with-place.ensures in
    let h4 = held_before h3 c.with_decimal-2.ensures.0 in
    let h5 = held_before h4 c.with.ensures in
    rw (append_assoc, ← c.number-number.ensures) (held_before h5 c.with-2.ensures)

-- `figure_at` meets its contract: a zero in front, a figure of the field, or 0 past its end.
use Rattle.std.proofs.Common.{◌≡◌, sym, ap, ◌∙◌, arith, ℕ, ◌-◌, ◌<◌, length, get_or}
use Rattle.sheet.specs.Numeral.{worth}
use Rattle.order.proofs.Hexadecimal.{own_figure, figure_below}
use Rattle.order.proofs.scalar.figure_at.Goals as goal

pub returns-in-Some : goal.returns-in-Some
returns-in-Some c =
    let a = c.args in
    let found : (a.at - a.pad < length a.field.now) × ((d : ℕ) → c.in-Some.byte.now ≡ get_or a.field.now (a.at - a.pad) d) = c.in-Some.ensures.lookup.3 in (
      c.worth_of.ensures ∙ ap worth (found.1 48 ∙ sym (own_figure a.pad a.at a.field.now c.if-at-pad.false)),
      omega (arith, c.worth_of.ensures, ap worth (found.1 0), figure_below a.field.now _ c.requires found.0),
    )

-- `order` meets its contract: a short buffer, a line that is no order, and an order.
use mathlib.Core.Path.{sym, ap, ◌∙◌}
use Prim.Native.Nat.{◌≤◌}
use lib.ListN.{length}
use Rattle.digits.specs.Limits.{card}
use Rattle.sheet.specs.Spelling.Field.{is_whole}
use Rattle.sheet.specs.Spelling.{comma, cut}
use Rattle.order.specs.Order.{read_fields}
use Rattle.order.proofs.Orders.{Ordered, some_order, no_order}
use Rattle.order.proofs.Printed.{short_buffer, order_printed, misspelled_printed}
use borrow.Author.Rules.{rules}
use Rattle.order.proofs.call.order.Goals.{After-slots_of, Else-out, In-Some}
use Rattle.order.proofs.call.order.Goals as goal

pub returns-then-out : goal.returns-then-out
returns-then-out c =
    let a = c.args in
    let old = short_buffer a.line.now a.out.now c.if-out.true in record { answer = old.0; buffer = old.1.0; promised = old.1.1 }

-- what was asked, in a buffer with room
module _ (c : Else-out) where
  room : card.sheet ≤ length c.args.out.now
  room = c.if-out.false

module _ (c : In-Some) where
  ordered : Ordered (cut comma c.line_of-fields.result.now) c.in-Some.slots
  ordered = some_order (cut comma c.line_of-fields.result.now) c.in-Some.slots (sym c.slots_of.ensures ∙ c.in-Some.is)

pub field-requires : goal.field-requires
field-requires c = search rules

pub serve-requires : goal.serve-requires
serve-requires c =
    let o = ordered (goal.at.serve-requires c).In-Some in (
      ap (is_whole 16 132) c.field.ensures ∙ o.first,
      (ap (is_whole 16 132) c.field-in-Some.ensures ∙ o.second, room (goal.at.serve-requires c).Else-out),
    )

pub returns-in-Some : goal.returns-in-Some
returns-in-Some c =
    let a = c.args in
    let old = order_printed a.line.now a.out.now (room (goal.at.returns-in-Some c).Else-out) c.line_of-fields.result.now c.line_of-fields.ensures
    c.field.result.now c.field-in-Some.result.now c.in-Some.slots c.field.ensures c.field-in-Some.ensures (ordered (goal.at.returns-in-Some c).In-Some) c.serve.ensures in record { answer = old.0; buffer = old.1.0; promised = old.1.1 }

pub returns-in-None : goal.returns-in-None
returns-in-None c =
    let a = c.args in
    let old = misspelled_printed a.line.now a.out.now (room (goal.at.returns-in-None c).Else-out) c.line_of-fields.result.now c.line_of-fields.ensures
    (no_order (read_fields card (cut comma c.line_of-fields.result.now)) (sym c.slots_of.ensures ∙ c.in-None.is)) c.refuse.ensures in record { answer = old.0; buffer = old.1.0; promised = old.1.1 }

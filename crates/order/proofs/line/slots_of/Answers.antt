-- `slots_of` meets its contract: each return is one line of Orders.
use Rattle.std.proofs.Common.{sym, ◌∙◌}
use Rattle.sheet.specs.Spelling.{comma, cut}
use Rattle.order.proofs.Orders.{first_bad, second_bad, not_three, three}
use Rattle.order.proofs.line.slots_of.Goals.{else-is_scalar_at-via-then-is_scalar_at+then-is_scalar_at-2+else-count-eq3, else-is_scalar_at-via-then-is_scalar_at+else-is_scalar_at-2, else-is_scalar_at-via-else-is_scalar_at}
use Rattle.order.proofs.line.slots_of.Goals as goal

pub returns-then-count-eq3 : goal.returns-then-count-eq3
returns-then-count-eq3 c =
    c.decimal_at.ensures
    ∙ three c.args.limits (cut comma c.args.line.now) (sym c.is_scalar_at.ensures ∙ c.if-is_scalar_at.true) (sym c.is_scalar_at-then-is_scalar_at.ensures ∙ c.if-is_scalar_at-2.true) (sym c.count.ensures ∙ c.if-count-eq3.true)

pub returns : goal.returns
returns c =
    let limits = c.args.limits in
    let fields = cut comma c.args.line.now in
    elim c.else-is_scalar_at.branch [
      | else-is_scalar_at-via-then-is_scalar_at+then-is_scalar_at-2+else-count-eq3 w ↦
          not_three limits fields (sym c.is_scalar_at.ensures ∙ w.if-is_scalar_at.true) (sym w.is_scalar_at-then-is_scalar_at.ensures ∙ w.if-is_scalar_at-2.true) (λ e. w.if-count-eq3.false (w.count.ensures ∙ e))
      | else-is_scalar_at-via-then-is_scalar_at+else-is_scalar_at-2 w ↦
          second_bad limits fields (sym c.is_scalar_at.ensures ∙ w.if-is_scalar_at.true) (sym w.is_scalar_at-then-is_scalar_at.ensures ∙ w.if-is_scalar_at-2.false)
      | else-is_scalar_at-via-else-is_scalar_at w ↦ first_bad limits fields (sym c.is_scalar_at.ensures ∙ w.if-is_scalar_at.false)
    ]

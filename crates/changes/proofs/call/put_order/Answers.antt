-- `put_order` meets its contract: the plan of the order changed or not (Turns).
use mathlib.Core.Path.{sym, subst, ◌∙◌}
use Prim.Native.Nat.{◌≤◌}
use native.Mathlib.Omega.{arith}
use Rattle.sheet.specs.declared.Plan.{Plan}
use Rattle.sheet.specs.Plan.{slots}
use Rattle.chooser.proofs.Laws.Cheapest.Least.{plan_within}
use Rattle.changes.specs.Body.{order_at}
use Rattle.changes.specs.Changed.Old.{old_within}
use Rattle.changes.proofs.Lines.{one_figure}
use Rattle.changes.proofs.Turns.{eq_same, old_is, new_is, nothing_put, line_put}
use Rattle.changes.proofs.call.put_order.Goals as goal

pub returns-then-eq : goal.returns-then-eq
returns-then-eq c =
    let a = c.args in
    let old = nothing_put a.n a.at a.out.now (old_is a.n c.old_plan-old.ensures) (new_is a.n c.new_plan-new.ensures) (sym (eq_same c.old_plan-old.result c.new_plan-new.result) ∙ sym c.eq.ensures ∙ c.if-eq.true) in record { answer = old.0; line_fits = old.1.0; buffer = old.1.1 }

pub line_of-requires : goal.line_of-requires
line_of-requires c =
    let n = c.args.n in
    let o = order_at n in
    let h = c.requires.0 in
    let old-few : slots c.old_plan-old.result ≤ 3 = subst (λ (p : Plan). slots p ≤ 3) (sym (old_is n c.old_plan-old.ensures)) (omega (arith, old_within o.k o.l o.slots)) in
    let new-few : slots c.new_plan-new.result ≤ 3 = subst (λ (p : Plan). slots p ≤ 3) (sym (new_is n c.new_plan-new.ensures)) (omega (arith, (plan_within o.k o.l o.slots).1)) in
    (omega arith, (omega arith, (omega arith, (one_figure c.old_plan-old.result old-few, one_figure c.new_plan-new.result new-few))))

pub returns : goal.returns
returns c =
    let a = c.args in
    let old = line_put a.n a.at a.out.now (old_is a.n c.old_plan-old.ensures) (new_is a.n c.new_plan-new.ensures) (sym (eq_same c.old_plan-old.result c.new_plan-new.result) ∙ sym c.eq.ensures ∙ c.if-eq.false)
    c.line_of.result c.put_line.new.out c.line_of.ensures.answer c.line_of.ensures.line_length c.put_line.ensures in record { answer = old.0; line_fits = old.1.0; buffer = old.1.1 }

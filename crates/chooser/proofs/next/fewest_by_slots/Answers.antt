-- `fewest_by_slots` meets its contract. The loop's invariant: the numbers so far, lowered by the plans left, are those of all plans.
use Rattle.std.specs.Prelude.{set}
use Rattle.std.proofs.Common.{ℕ, sym, ap, ◌∙◌, arith}
use Rattle.sheet.specs.Plan.{slots}
use Rattle.chooser.specs.Body.Choice.{plan_additions}
use Rattle.chooser.proofs.BySlots.{by_none, by_turn, by_all}
use Rattle.chooser.proofs.Numbers.{plan_slots}
use Rattle.chooser.proofs.next.fewest_by_slots.Goals as goal

pub loop-n-init : goal.loop-n-init
loop-n-init c = by_none (plan_additions c.args.sizes.now) c.additions-fewest.result c.additions-fewest.ensures

pub bounds-fewest-slots : goal.bounds-fewest-slots
bounds-fewest-slots c = omega (arith, c.slots-slots.ensures, ap slots c.plan_at-plan.ensures, plan_slots c.loop-n.n (omega arith))

pub bounds-fewest-slots-in-loop-n : goal.bounds-fewest-slots-in-loop-n
bounds-fewest-slots-in-loop-n c = omega (arith, c.slots-slots.ensures, ap slots c.plan_at-plan.ensures, plan_slots c.loop-n.n (omega arith))

pub loop-n-preserved : goal.loop-n-preserved
loop-n-preserved c =
    by_turn (plan_additions c.args.sizes.now) c.loop-n.fewest c.loop-n.n (omega arith) c.plan_at-plan.ensures c.slots-slots.ensures c.additions.ensures
    (ap (λ (x : ℕ). set c.loop-n.fewest c.slots-slots.result x) c.min.ensures)
    ∙ c.loop-n.invariant

pub returns : goal.returns
returns c = sym (by_all (plan_additions c.args.sizes.now) c.loop-n.fewest c.loop-n.n (omega arith)) ∙ c.loop-n.invariant

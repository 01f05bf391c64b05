-- `least_plan` meets its contract. The loop's invariant: the least of the best so far and of the plans left is the least of all.
use Rattle.std.proofs.Common.{◌≡◌, cond, ◌+◌, sym, ap, ◌∙◌, arith, drop}
use Rattle.sheet.specs.declared.Plan.{Plan}
use Rattle.sheet.specs.Plan.{is_within}
use Rattle.chooser.specs.Candidate.Turns.{Stands}
use Rattle.chooser.specs.Cheapest.{plans, within}
use Rattle.chooser.specs.Body.Choice.{cost_key}
use Rattle.chooser.specs.Lexicographic.{better, least}
use Rattle.chooser.proofs.Turns.{next_plan, last_plan, plan_taken, plan_passed}
use Rattle.chooser.proofs.choice.least_plan.Goals.{then-is_within, else-is_within}
use Rattle.chooser.proofs.choice.least_plan.Goals as goal

pub loop-n-init : goal.loop-n-init
loop-n-init c = (c.candidate_of-best.ensures.stands, ap (λ (p : Plan). least (cost_key c.args.sizes.now) p (within c.args.limit plans)) c.candidate_of-best.ensures.plan)

pub loop-n-preserved : goal.loop-n-preserved
loop-n-preserved c =
    let f = cost_key c.args.sizes.now in
    let limit = c.args.limit in
    let best = c.loop-n.best in
    let p = c.plan_at-plan.result in
    let next : (c.if-is_within.best.plan ≡ cond (is_within p limit) (better f best.plan p) best.plan) × Stands f c.if-is_within.best =
    elim c.if-is_within.branch [
      | then-is_within w ↦ plan_taken f best c.if-is_within.best p (is_within p limit) c.loop-n.invariant.0 w.candidate_of.result w.candidate_of.ensures.stands w.candidate_of.ensures.plan (w.best-is ∙ w.or-best.ensures) (sym c.is_within.ensures ∙ w.if-is_within.true)
      | else-is_within w ↦ plan_passed f best c.if-is_within.best p (is_within p limit) c.loop-n.invariant.0 w.best-is (sym c.is_within.ensures ∙ w.if-is_within.false)
    ] in (
      next.1,
      ap (λ (q : Plan). least f q (within limit (drop (c.loop-n.n + 1) plans))) next.0
          ∙ next_plan f limit best.plan p c.loop-n.n (omega (arith, c.plans_to_try-n-end.ensures.counted)) c.plan_at-plan.ensures
          ∙ c.loop-n.invariant.1,
    )

pub returns : goal.returns
returns c =
    let all : c.loop-n.n ≡ c.plans_to_try-n-end.result = omega arith in
    sym (last_plan (cost_key c.args.sizes.now) c.args.limit c.loop-n.best.plan c.loop-n.n (rw all c.plans_to_try-n-end.ensures.none_left)) ∙ c.loop-n.invariant.1

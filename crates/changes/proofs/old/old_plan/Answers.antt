-- `old_plan` meets its contract. The loop's invariant: looking at the plans left comes to the same as looking at all (Additions).
use Rattle.std.proofs.Common.{◌≡◌, get_or, rules, refl, sym, ap, ◌∙◌}
use Rattle.digits.specs.Scalar.{signed_scalar}
use Rattle.sheet.specs.declared.Plan.TheVariants.{J}
use Rattle.writer.specs.Call.Met.{windows_valid}
use Rattle.chooser.specs.declared.choice.Candidate.{Candidate}
use Rattle.chooser.specs.Candidate.{either_within}
use Rattle.changes.specs.Body.{old_candidate}
use Rattle.changes.specs.Changed.Old.{few}
use Rattle.changes.proofs.Additions.{looked, few_valid, look_next, look_end, looked_old}
use Rattle.changes.proofs.old.old_plan.Goals.{then-is_within, else-is_within}
use Rattle.changes.proofs.old.old_plan.Goals as goal

pub old_candidate-best-requires : goal.old_candidate-best-requires
old_candidate-best-requires c = (windows_valid 1 1 refl, c.requires.0)

pub loop-plan-init : goal.loop-plan-init
loop-plan-init c = ap (λ (x : Candidate). looked (signed_scalar c.args.k.bytes.now c.args.k.sign) (signed_scalar c.args.l.bytes.now c.args.l.sign) c.args.limit x few) c.old_candidate-best.ensures

pub old_candidate-requires : goal.old_candidate-requires
old_candidate-requires c = (few_valid c.loop-plan.plan-index, c.requires.0)

pub loop-plan-preserved : goal.loop-plan-preserved
loop-plan-preserved c =
    let k = signed_scalar c.args.k.bytes.now c.args.k.sign in
    let l = signed_scalar c.args.l.bytes.now c.args.l.sign in
    let next : c.if-is_within.best ≡ either_within c.args.limit c.loop-plan.best (old_candidate k l (get_or few c.loop-plan.plan-index J)) =
    elim c.if-is_within.branch [
      | then-is_within w ↦ search rules
      | else-is_within w ↦ search rules
    ] in
    look_next k l c.args.limit c.loop-plan.best c.loop-plan.plan-index c.loop-plan-test.true next ∙ c.loop-plan.invariant

pub returns : goal.returns
returns c =
    let k = signed_scalar c.args.k.bytes.now c.args.k.sign in
    let l = signed_scalar c.args.l.bytes.now c.args.l.sign in
    ap (λ (x : Candidate). x.plan) (sym (look_end k l c.args.limit c.loop-plan.best c.loop-plan.plan-index c.loop-plan-test.false) ∙ c.loop-plan.invariant)
    ∙ looked_old k l c.args.limit c.requires.1

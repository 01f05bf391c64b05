-- `old_plan` meets its contract. The loop's invariant: looking at the plans left comes to the same as looking at all (Additions).
use Rattle.std.proofs.Common.{◌≡◌, drop}
use Rattle.digits.specs.Scalar.{signed_scalar}
use Rattle.sheet.specs.declared.Plan.TheVariants.{I}
use Rattle.changes.specs.Body.{old_candidate}
use Rattle.changes.specs.Changed.Old.{few}
use Rattle.changes.proofs.Additions.{looked}
use Rattle.changes.proofs.old.old_plan.Given as goal

abbrev pub invariant-loop-plan : goal.invariant-loop-plan
invariant-loop-plan l =
    looked (signed_scalar l.k.bytes.now l.k.sign) (signed_scalar l.l.bytes.now l.l.sign) l.limit l.best (drop l.plan-index few)
    ≡ looked (signed_scalar l.k.bytes.now l.k.sign) (signed_scalar l.l.bytes.now l.l.sign) l.limit (old_candidate (signed_scalar l.k.bytes.now l.k.sign) (signed_scalar l.l.bytes.now l.l.sign) (I 1 1)) few

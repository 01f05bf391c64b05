-- `cheapest_plan` meets its contract: the questions in order, and then the plan of the bytes.
use Rattle.std.proofs.Common.{rules, ℕ, sym, subst}
use Rattle.digits.specs.Scalar.{signed_scalar}
use Rattle.chooser.specs.Call.{Choice, choice_answer, ChoicePromised}
use Rattle.chooser.proofs.Laws.Call.Demand.{choice_promised, chosen}
use Rattle.chooser.proofs.call.cheapest_plan.Goals as goal

pub returns-in_err-check_scalars-clause-answer : goal.returns-in_err-check_scalars-clause-answer
unfolding choice_answer
returns-in_err-check_scalars-clause-answer g c = search rules

pub returns-in_err-check_limit-clause-answer : goal.returns-in_err-check_limit-clause-answer
unfolding choice_answer
returns-in_err-check_limit-clause-answer g c = search rules

pub returns-clause-answer : goal.returns-clause-answer
returns-clause-answer g c = chosen g.M.Machine.LIMITS c.args.k.bytes.now c.args.l.bytes.now c.args.limit (rw c.LIMITS.ensures at c.in_ok-check_scalars.ensures) c.in_ok-check_limit.ensures c.first_plan.ensures

pub returns-clause-promised : goal.returns-clause-promised
returns-clause-promised g c =
    let a = c.args in
    subst (λ (x : Choice). (k_sign l_sign : ℕ) → ChoicePromised x (signed_scalar a.k.bytes.now k_sign) (signed_scalar a.l.bytes.now l_sign) a.limit)
    (sym (chosen g.M.Machine.LIMITS a.k.bytes.now a.l.bytes.now a.limit (rw c.LIMITS.ensures at c.in_ok-check_scalars.ensures) c.in_ok-check_limit.ensures c.first_plan.ensures))
    (choice_promised g.M.Machine.LIMITS a.k.bytes.now a.l.bytes.now a.limit)

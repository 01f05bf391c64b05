-- `new_plan` meets its contract: where all questions are met the call answers the plan.
use Rattle.std.proofs.Common.{refl, sym, ap, ◌∙◌}
use Rattle.std.specs.Result.{result_unwrap_or}
use Rattle.digits.specs.Limits.{card}
use Rattle.sheet.specs.declared.Plan.TheVariants.{J}
use Rattle.chooser.specs.Call.{Choice}
use Rattle.chooser.proofs.Laws.Call.Demand.{chosen}
use Rattle.changes.proofs.call.new_plan.Goals as goal

pub returns : goal.returns
returns c =
    let a = c.args in
    c.unwrap_or.ensures
    ∙ ap (λ (r : Choice). result_unwrap_or r J) (c.cheapest_plan.ensures.answer ∙ sym (chosen card a.k.bytes.now a.l.bytes.now a.limit c.requires.0 c.requires.1 refl))

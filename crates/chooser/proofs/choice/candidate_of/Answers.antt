-- `candidate_of` meets its contract: the key of the cost is the plan's.
use Rattle.std.proofs.Common.{ℕ, ap, ap₂, ◌∙◌}
use Rattle.chooser.specs.Body.Choice.{cost_key}
use Rattle.chooser.specs.Candidate.{key_of}
use Rattle.chooser.proofs.Laws.Costs.{key_of_cost}
use Rattle.chooser.specs.Cheapest.{key_with}
use Rattle.chooser.proofs.choice.candidate_of.Goals as goal

pub returns-clause-stands : goal.returns-clause-stands
unfolding cost_key
returns-clause-stands c =
    let p = c.args.plan in
    record {
      stands = ap key_of c.of-cost.ensures ∙ key_of_cost c.additions.result c.doublings.result p
          ∙ ap₂ (λ (x y : ℕ). key_with x y p) c.additions.ensures c.doublings.ensures;
    }

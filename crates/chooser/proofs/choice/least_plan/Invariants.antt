-- `least_plan` meets its contract. The loop's invariant: the least of the best so far and of the plans left is the least of all.
use Rattle.std.proofs.Common.{◌≡◌, drop}
use Rattle.sheet.specs.declared.Plan.TheVariants.{I}
use Rattle.chooser.specs.Cheapest.{plans, within}
use Rattle.chooser.specs.Body.Choice.{cost_key}
use Rattle.chooser.specs.Candidate.Turns.{Stands}
use Rattle.chooser.specs.Lexicographic.{least}
use Rattle.chooser.proofs.choice.least_plan.Given as goal

abbrev pub invariant-loop-n : goal.invariant-loop-n
invariant-loop-n l = Stands (cost_key l.sizes) l.best
    × (least (cost_key l.sizes) l.best.plan (within l.limit (drop l.n plans)) ≡ least (cost_key l.sizes) (I 1 1) (within l.limit plans))

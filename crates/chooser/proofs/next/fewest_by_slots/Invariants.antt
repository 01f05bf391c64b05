-- `fewest_by_slots` meets its contract. The loop's invariant: the numbers so far, lowered by the plans left, are those of all plans.
use Rattle.std.proofs.Common.{◌≡◌, drop}
use Rattle.chooser.specs.Body.BySlots.{lowered_by, by_slots}
use Rattle.chooser.specs.Body.Choice.{plan_additions}
use Rattle.chooser.specs.Cheapest.{plans}
use Rattle.chooser.proofs.next.fewest_by_slots.Given as goal

abbrev pub invariant-loop-n : goal.invariant-loop-n
invariant-loop-n l = lowered_by (plan_additions l.sizes) l.fewest (drop l.n plans) ≡ by_slots (plan_additions l.sizes)

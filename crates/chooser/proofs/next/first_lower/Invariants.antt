-- `first_lower` meets its contract. The loop's invariant: the lowest of the numbers before n is known (Lowest).
use Rattle.chooser.proofs.Lowest.{Seen}
use Rattle.chooser.proofs.next.first_lower.Given as goal

abbrev pub invariant-loop-n : goal.invariant-loop-n
invariant-loop-n l = Seen l.numbers l.limit l.n l.least

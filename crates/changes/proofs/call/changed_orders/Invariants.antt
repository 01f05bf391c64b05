-- `changed_orders` meets its contract. The loop's invariant: the lines of the first n orders stand at the front (Turns).
use Rattle.changes.proofs.Turns.{Standing}
use Rattle.changes.proofs.call.changed_orders.Given as goal

abbrev pub invariant-loop-n : goal.invariant-loop-n
invariant-loop-n l = Standing l.initial.out l.n l.at l.out

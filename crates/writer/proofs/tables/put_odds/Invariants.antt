-- `put_odds` meets its contract. The loop's invariant: what is left of the lines are those of the odd multiples from n on
-- (TableBytes). The measure is what n is short of m + 1.
use Rattle.writer.proofs.TableBytes.{Filling}
use Rattle.writer.proofs.tables.put_odds.Given as goal

abbrev pub invariant-loop-n : goal.invariant-loop-n
invariant-loop-n l = Filling l.base l.m l.initial.out l.out l.at l.next l.n

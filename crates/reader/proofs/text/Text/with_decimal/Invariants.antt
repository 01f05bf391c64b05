-- `Text::with_decimal` meets its contract. The loop's invariant: the figures of what is left, and those done, are all (TextTurns).
use Prim.Native.Nat.{◌≤◌}
use Rattle.reader.proofs.TextTurns.{Turn}
use Rattle.reader.proofs.text.Text.with_decimal.Given as goal

abbrev pub invariant-loop-rest : goal.invariant-loop-rest
invariant-loop-rest l = (20 ≤ l.initial.self.at) × Turn l.n l.initial.self l.self l.rest

abbrev pub decreases-loop-rest : goal.decreases-loop-rest
decreases-loop-rest l = l.rest

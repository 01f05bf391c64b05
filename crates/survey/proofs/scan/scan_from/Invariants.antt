-- `scan_from` meets its contract. The loop's invariant, for any limits: the state says of the lines from `at` on what the first one says of
-- all (ScanTurns), and the sums with those lines come to what all lines come to (TotalTurns).
use Prim.Native.Nat.{◌+◌, ◌-◌, ◌*◌, ◌≤◌, ◌<◌}
use lib.ListN.{length, drop}
use Rattle.digits.specs.declared.limits.Limits.{Limits}
use Rattle.sheet.specs.Spelling.{lines}
use Rattle.survey.specs.Survey.State.{Counted}
use Rattle.survey.proofs.ScanTurns.{Going}
use Rattle.digits.specs.Two.{P, Q}
use Rattle.survey.proofs.TotalTurns.{Running}
use Rattle.survey.proofs.scan.scan_from.Given as goal

abbrev pub invariant-loop-at : goal.invariant-loop-at
invariant-loop-at l = (l.at ≤ length l.sheet) × Counted l.state × (l.state.line ≤ l.at + 1) × (l.state.places < 16 * length l.initial.p)
    × ((limits : Limits) → 1 ≤ limits.figures
    → Going l.plan l.initial.state (lines limits (drop l.from l.sheet)) l.state (lines limits (drop l.at l.sheet))
    × Running (length l.initial.p) P l.initial.state.places (lines limits (drop l.from l.sheet)) l.at l.state.places (lines limits (drop l.at l.sheet)) l.p
    × Running (length l.initial.p) Q l.initial.state.places (lines limits (drop l.from l.sheet)) l.at l.state.places (lines limits (drop l.at l.sheet)) l.q)

abbrev pub decreases-loop-at : goal.decreases-loop-at
decreases-loop-at l = length l.sheet - l.at

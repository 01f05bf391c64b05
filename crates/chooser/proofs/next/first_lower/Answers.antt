-- `first_lower` meets its contract. The loop's invariant: the lowest of the numbers before n is known (Lowest).
use Rattle.std.proofs.Common.{◌+◌, ◌≤◌, ◌<◌, sym, subst, arith, get_or}
use Rattle.chooser.proofs.Lowest.{Seen, seen_first, seen_lower, seen_more, seen_all}
use Rattle.chooser.proofs.next.first_lower.Goals.{else-number-least-via-then-number-least+else-limit-n, else-number-least-via-else-number-least}
use Rattle.chooser.proofs.next.first_lower.Goals as goal

pub loop-n-init : goal.loop-n-init
loop-n-init c = seen_first c.args.numbers.now c.args.limit

pub returns-then-limit-n : goal.returns-then-limit-n
returns-then-limit-n c =
    seen_lower c.args.numbers.now c.args.limit c.loop-n.n c.loop-n.least c.loop-n.invariant (omega arith) c.if-number-least.true c.if-limit-n.true

pub loop-n-preserved : goal.loop-n-preserved
loop-n-preserved c =
    let a = c.args in
    let kept : a.limit < c.loop-n.n → c.loop-n.least ≤ get_or a.numbers.now c.loop-n.n 0 =
    elim c.else-number-least.branch [
      | else-number-least-via-then-number-least+else-limit-n w ↦ λ h. absurd (omega (arith, w.if-limit-n.false))
      | else-number-least-via-else-number-least w ↦ λ h. w.if-number-least.false
    ] in
    subst (Seen a.numbers.now a.limit (c.loop-n.n + 1)) (sym c.min-least.ensures) (seen_more a.numbers.now a.limit c.loop-n.n c.loop-n.least c.loop-n.invariant (omega arith) kept)

pub returns : goal.returns
returns c = seen_all c.args.numbers.now c.args.limit c.loop-n.n c.loop-n.least c.loop-n.invariant (omega arith)

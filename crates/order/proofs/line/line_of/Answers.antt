-- `line_of` meets its contract, by the place of the first line feed.
use Rattle.order.proofs.Lines.{line_only, line_none}
use Rattle.order.proofs.line.line_of.Goals as goal

pub returns-then-end-order : goal.returns-then-end-order
returns-then-end-order c =
    line_only c.args.order.now c.find-end.result c.find-end.ensures c.if-end-order.true

pub returns : goal.returns
returns c =
    line_none c.args.order.now c.find-end.result c.find-end.ensures c.if-end-order.false

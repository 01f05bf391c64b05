-- `opening_of` meets its contract: the first line ends at the first line feed.
use mathlib.Core.Path.{subst, sym}
use Rattle.lines.specs.Coded.{Opens}
use Rattle.lines.proofs.FirstLine.{opened, unheaded, unended}
use Rattle.lines.proofs.header.opening_of.Goals as goal

pub returns-in_err-header : goal.returns-in_err-header
returns-in_err-header c =
    subst (Opens c.args.limits c.args.sheet.now) (sym c.from_residual.ensures) (unheaded _ c.args.sheet.now _ c.find-end.ensures c.if-end-sheet.true c.in_err-header.ensures)

pub returns-then-end-sheet : goal.returns-then-end-sheet
returns-then-end-sheet c = opened _ c.args.sheet.now _ c.find-end.ensures c.if-end-sheet.true _ c.in_ok-header.ensures

pub returns : goal.returns
returns c = unended _ c.args.sheet.now _ c.find-end.ensures c.if-end-sheet.false

-- `are_figures` meets its contract: `all` tells whether a byte is none.
use Rattle.std.proofs.Common.{rules, ◌≤◌, ◌<◌}
use Rattle.std.proofs.lemmas.Iterator.{cases_from_all, YieldsList-from_slice}
use borrow.Author.Tests.{tests}
use Rattle.sheet.specs.Numeral.{worth}
use Rattle.sheet.proofs.FieldTurns.{figures_all}
use Rattle.sheet.proofs.figures.are_figures.Goals as goal

pub returns : goal.returns
returns c =
    let base = c.args.base in
    figures_all base c.args.field.now c.all.result
    (cases_from_all _ _ _ (λ x. worth x < base) (λ x. base ≤ worth x) c.all.ensures.ran (YieldsList-from_slice c.args.field.now cc) (λ x q k. search (rules, tests)) (λ x q k. search (rules, tests)))

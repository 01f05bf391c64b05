-- `Text::with_decimal` meets its contract. The loop's invariant: the figures of what is left, and those done, are all (TextTurns).
use Rattle.reader.proofs.TextTurns.{turn_start, turn_more, turn_last}
use Rattle.reader.proofs.text.Text.with_decimal.Goals as goal

pub loop-rest-init : goal.loop-rest-init
loop-rest-init c = (c.requires, turn_start c.args.n c.args.self c.ranges.n.fits)

pub loop-rest-preserved : goal.loop-rest-preserved
loop-rest-preserved c = (c.loop-rest.invariant.0, turn_more c.loop-rest.invariant.1 c.with-self.result c.loop-rest-test.true c.with-self.ensures)

pub returns : goal.returns
returns c = turn_last c.loop-rest.invariant.1 c.with.result c.loop-rest-test.false c.with.ensures

-- `fill` meets its contract: the number that is one more has another last byte alone.
use lib.ListN.{length}
use Rattle.dearest.proofs.PairBytes.{raised_fits, raised}
use Rattle.dearest.proofs.fill.fill.Goals as goal

pub overflow_add-bytes : goal.overflow_add-bytes
overflow_add-bytes c =
    record { fits = raised_fits c.args.n (length c.args.bytes.now) c.fill_pairs.new.bytes c.requires.0 c.fill_pairs.ensures }

pub returns : goal.returns
returns c =
    raised c.args.n (length c.args.bytes.now) c.fill_pairs.new.bytes c.requires.0 c.fill_pairs.ensures

-- `next_of` meets its contract: the sizes are those of the scalars.
use Rattle.digits.specs.Scalar.{scalar}
use Rattle.chooser.proofs.BySlots.{next_by_slots}
use Rattle.chooser.proofs.next.next_of.Goals as goal

pub returns : goal.returns
returns c =
    next_by_slots (scalar c.args.k.scalar.bytes.now) (scalar c.args.l.scalar.bytes.now) c.args.limit c.requires
    (rw (c.fewest_by_slots.ensures, c.within-sizes.ensures) at c.first_lower.ensures)

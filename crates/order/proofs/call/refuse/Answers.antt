-- `refuse` meets its contract: the four bytes of the line.
use Rattle.order.proofs.Printed.{refused}
use Rattle.order.proofs.call.refuse.Goals as goal

pub returns : goal.returns
returns c = rw c.copy_from_slice.ensures.after (refused c.args.number c.args.out.now c.requires.0)

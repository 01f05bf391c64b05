-- `copy_into` meets its contract. The loop's invariant: the last i bytes stand reversed at the front, and zeros above.
use Rattle.std.proofs.Common.{arith}
use Rattle.std.specs.Prelude.{length}
use Rattle.recode.proofs.Turned.{turned_more}
use Rattle.recode.proofs.buffer.copy_into.Goals as goal

pub loop-i-preserved : goal.loop-i-preserved
loop-i-preserved c =
    let a = c.args in
    let i = c.loop-i.i in
    rw c.loop-i.invariant (turned_more a.scalar.now (length a.bytes.now) i (omega arith) c.requires.0)

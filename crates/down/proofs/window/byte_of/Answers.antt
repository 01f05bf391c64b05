-- `byte_of` meets its contract, by the sign.
use Rattle.std.proofs.Common.{◌∙◌, arith}
use Rattle.down.proofs.WindowSize.{plus_byte, minus_byte}
use Rattle.down.proofs.window.byte_of.Goals as goal

pub returns-then-sign-eq0 : goal.returns-then-sign-eq0
returns-then-sign-eq0 c = plus_byte c.args.sign c.args.size c.if-sign-eq0.true c.requires.1

pub returns-else-sign-eq0 : goal.returns-else-sign-eq0
returns-else-sign-eq0 c =
    omega (arith, c.wrapping_neg.ensures, c.requires) ∙ minus_byte c.args.sign c.args.size c.if-sign-eq0.false c.requires.0 c.requires.1

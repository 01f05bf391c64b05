-- A scalar is negative by its sign and its bit length.
use Rattle.std.proofs.Common.{◌∙◌, ap, not, nat_eq}
use Rattle.digits.proofs.Negative.{plus_never, minus_test}
use Rattle.digits.proofs.scalar.Scalar.is_negative.Goals as goal

pub returns-then-sign-ne0 : goal.returns-then-sign-ne0
returns-then-sign-ne0 c = minus_test _ _ c.bit_length.result.below _ c.if-sign-ne0.true c.bit_length.ensures

pub returns-else-sign-ne0 : goal.returns-else-sign-ne0
returns-else-sign-ne0 c = ap (λ n. not (nat_eq n 0)) c.if-sign-ne0.false ∙ plus_never _ _ c.if-sign-ne0.false

-- `places_for` meets its contract: a joint form is no longer than the longer bit length plus one.
use Rattle.std.proofs.Common.{arith, ap}
use Rattle.digits.specs.Scalar.{signed_scalar, bit_length}
use Rattle.digits.specs.Scalar.Value.{length_bytes}
use Rattle.digits.proofs.Laws.Scalar.Signed.{scalar_size}
use Rattle.forms.proofs.Laws.Joint.Length.{joint_length}
use Rattle.codes.proofs.call.places_for.Goals as goal

pub returns-clause-enough : goal.returns-clause-enough
returns-clause-enough c =
    λ k_sign l_sign.
    let k = c.args.k.now in
    let l = c.args.l.now in
    omega (
      arith,
      joint_length (signed_scalar k k_sign) (signed_scalar l l_sign),
      ap bit_length (scalar_size k k_sign),
      ap bit_length (scalar_size l l_sign),
      length_bytes k (λ i. (c.type_inv.k i).fits),
      length_bytes l (λ i. (c.type_inv.l i).fits),
    )

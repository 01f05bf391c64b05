-- `bits_of` meets its contract: a scalar of at most 128 bytes has at most 1,024 bits.
use Prim.Native.Nat.{◌+◌, ◌*◌, ◌≤◌}
use native.Mathlib.Omega.{arith}
use Rattle.digits.specs.Scalar.Value.{length_bytes}
use Rattle.recode.proofs.rows.bits_of.Goals.{After-bit_length-length}
use Rattle.recode.proofs.rows.bits_of.Goals as goal

module _ (c : After-bit_length-length) where
  few : 8 * c.bit_length-length.result.below + c.bit_length-length.result.top ≤ 1024
  few =
      omega (arith, c.bit_length-length.ensures, c.requires, length_bytes c.args.bytes.now (λ i. (c.type_inv.bytes i).fits))

pub overflow_mul-result : goal.overflow_mul-result
overflow_mul-result c = omega (arith, few (goal.at.overflow_mul-result c).After-bit_length-length)

pub overflow_add-result : goal.overflow_add-result
overflow_add-result c = omega (arith, few (goal.at.overflow_add-result c).After-bit_length-length)

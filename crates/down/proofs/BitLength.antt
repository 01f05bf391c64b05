-- The bit length of a machine number, from its leading zeros. From the laws of the bit length.
use mathlib.Core.Path.{◌≡◌}
use Prim.Native.Nat.{ℕ, ◌+◌, ◌*◌, ◌^◌, ◌≤◌, ◌<◌}
use native.Mathlib.Omega.{arith}
use lib.Count.{count_leading_zeros, leading_length}
use Rattle.digits.specs.Scalar.{bit_length}
use Rattle.digits.specs.Scalar.Length.{length_exact}

pub length_is : (w n : ℕ) → n < 2 ^ w → count_leading_zeros w n + bit_length n ≡ w
length_is w n h = go (leading_length w n h)
  where
    go : (k : ℕ) × (count_leading_zeros w n + k ≡ w) × (n < 2 ^ k) × (2 ^ k ≤ 2 * n + 1) → count_leading_zeros w n + bit_length n ≡ w
    go t = omega (arith, length_exact n t.0 t.2 t.3, t.1)

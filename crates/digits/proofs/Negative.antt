-- Whether a signed scalar is negative, by its sign and its bit length. From what a bit length in two parts is.
use mathlib.Core.Path.{◌≡◌, refl, sym, ap}
use mathlib.Core.Logic.{◌≢◌}
use mathlib.Core.Bool.{false, not}
use mathlib.Core.List.{List}
use Prim.Native.Nat.{ℕ, zero, suc}
use native.Mathlib.Omega.{arith}
use lib.Dec.{eqb}
use lib.IntN.{pos}
use borrow.Author.Tests.{eq-eqb, ne_eqb}
use Rattle.digits.specs.Integer.{signed_by, is_negative}
use Rattle.digits.specs.Scalar.{scalar, signed_scalar, bit_length, bit_length_in, BitsOf}

pub plus_never : (s : List ℕ) (sign : ℕ) → sign ≡ 0 → false ≡ is_negative (signed_scalar s sign)
unfolding signed_scalar
plus_never s sign e = ap (λ (g : ℕ). is_negative (signed_by g (pos (scalar s)))) (sym e)

-- a number is 0 exactly if its top byte has no bits
zero_bits : (n below top : ℕ) → BitsOf n below top → not (eqb top 0) ≡ is_negative (signed_by 1 (pos n))
unfolding bit_length bit_length_in
zero_bits zero below top b = rw (eq-eqb top 0 (omega (arith, b.all)))
zero_bits (suc n) below top b = rw (ne_eqb top 0 (λ e. omega (arith, b.all, b.none e)))

pub minus_test : (s : List ℕ) (sign below top : ℕ) → sign ≢ 0 → BitsOf (scalar s) below top → not (eqb top 0) ≡ is_negative (signed_scalar s sign)
unfolding signed_scalar
minus_test s zero below top h b = absurd (h refl)
minus_test s (suc n) below top h b = zero_bits (scalar s) below top b

-- The whole number of a scalar has the size that its bytes say, so it has no more bits than the limits allow where question 1 is met. Assumes nothing.
use Rattle.std.specs.Prelude.{◌≡◌, true, List, ℕ, ◌^◌, ◌<◌, pos, nat_abs}
use Rattle.std.proofs.Common.{sym, subst}
use Rattle.digits.specs.Integer.Sign.{signed_size}
use Rattle.digits.specs.declared.limits.Limits.{Limits}
use Rattle.digits.specs.Limits.{bits}
use Rattle.digits.specs.Scalar.{Bytes, scalar, signed_scalar, sized}
use Rattle.digits.specs.Scalar.Sized.{bounded}

pub scalar_size : (s : List ℕ) (sign : ℕ) → nat_abs (signed_scalar s sign) ≡ scalar s
unfolding signed_scalar
scalar_size s sign = signed_size sign (pos (scalar s))

pub signed_bounded : (limits : Limits) (s : List ℕ) (sign : ℕ) → Bytes s → sized limits s ≡ true → nat_abs (signed_scalar s sign) < 2 ^ bits limits
signed_bounded limits s sign h e = subst (λ (n : ℕ). n < 2 ^ bits limits) (sym (scalar_size s sign)) (bounded limits s h e)

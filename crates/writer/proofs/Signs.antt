-- The figures of a signed scalar, by whether it is negative.
use mathlib.Core.Path.{◌≡◌, ap}
use mathlib.Core.Bool.{cond}
use mathlib.Core.List.{List, [], ◌∷◌, ◌++◌}
use Prim.Native.Nat.{ℕ}
use lib.IntN.{ℤ, pos, negsuc, nat_abs}
use Rattle.digits.specs.Integer.{is_negative}
use Rattle.digits.specs.Scalar.{scalar, signed_scalar}
use Rattle.digits.proofs.Laws.Scalar.Signed.{scalar_size}
use Rattle.sheet.specs.Numeral.{numeral}
use Rattle.sheet.specs.Spelling as Spelling
use Rattle.sheet.specs.Spelling.{minus}

-- the figures of its size, behind a minus where it is negative
pub spelled_signed : (s : List ℕ) (sign : ℕ)
    → Spelling.scalar (signed_scalar s sign) ≡ cond (is_negative (signed_scalar s sign)) (minus ∷ []) [] ++ numeral 16 (scalar s)
spelled_signed s sign = go (signed_scalar s sign) (scalar_size s sign)
  where
    go : (z : ℤ) → nat_abs z ≡ scalar s → Spelling.scalar z ≡ cond (is_negative z) (minus ∷ []) [] ++ numeral 16 (scalar s)
    go (pos n) e = ap (numeral 16) e
    go (negsuc n) e = ap (λ (n : ℕ). minus ∷ numeral 16 n) e

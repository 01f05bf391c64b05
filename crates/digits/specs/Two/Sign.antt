-- Columns with a sign for each row: each row has its own, and the weight stays. Assumes nothing.
use Rattle.std.specs.Prelude.{◌≡◌, ℤ, pos, negsuc}
use Rattle.std.proofs.Math.Path.{refl, ap, ap₂}
use mathlib.Core.List.{List, [], ◌∷◌, map}
use Prim.Native.Nat.{ℕ, zero, suc, ◌+◌}
use Rattle.digits.specs.Column.{row, weight}
use Rattle.digits.specs.Integer.{signed_by}
use Rattle.digits.specs.Two.{Column, Two, P, Q, of, is_zero, two}

-- the column with a sign for its digit of k and one for that of l
abbrev pub signed_column : ℕ → ℕ → Column → Column
signed_column k_sign l_sign c = record { p = signed_by k_sign c.p; q = signed_by l_sign c.q }

pub zero_signed : (sign : ℕ) (d : ℤ) → is_zero (signed_by sign d) ≡ is_zero d
zero_signed zero d = refl
zero_signed (suc n) (pos zero) = refl
zero_signed (suc n) (pos (suc m)) = refl
zero_signed (suc n) (negsuc m) = refl

module _ (k_sign l_sign : ℕ) where
  pub row_signed : (r : Two) (cs : List Column) → row two r (map (signed_column k_sign l_sign) cs) ≡ map (signed_by (of k_sign l_sign r)) (row two r cs)
  unfolding row
  row_signed r [] = refl
  row_signed P (c ∷ cs) = ap (λ (ds : List ℤ). signed_by k_sign c.p ∷ ds) (row_signed P cs)
  row_signed Q (c ∷ cs) = ap (λ (ds : List ℤ). signed_by l_sign c.q ∷ ds) (row_signed Q cs)

  pub weight_signed : (cs : List Column) → weight two (map (signed_column k_sign l_sign) cs) ≡ weight two cs
  unfolding weight
  weight_signed [] = refl
  weight_signed (c ∷ cs) = ap₂ ◌+◌ (rw (zero_signed k_sign c.p, zero_signed l_sign c.q)) (weight_signed cs)

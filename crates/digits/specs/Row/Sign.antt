-- A row with a sign, in every digit: a plus leaves it, and its weight stays. Assumes nothing.
use Rattle.std.specs.Prelude.{◌≡◌, refl, List, [], ◌∷◌, map, ℕ, zero, suc, ℤ, pos, negsuc}
use Rattle.std.proofs.Common.{map-id, arith}
use Rattle.digits.specs.Integer.{signed_by}
use Rattle.digits.specs.Row.{count, weight}

pub plus_row : (ds : List ℤ) → map (signed_by 0) ds ≡ ds
plus_row = map-id

count_signed : (sign : ℕ) (d : ℤ) → count (signed_by sign d) ≡ count d
count_signed zero d = refl
count_signed (suc n) (pos zero) = refl
count_signed (suc n) (pos (suc m)) = refl
count_signed (suc n) (negsuc m) = refl

pub weight_signed : (sign : ℕ) (ds : List ℤ) → weight (map (signed_by sign) ds) ≡ weight ds
unfolding weight
weight_signed sign [] = refl
weight_signed sign (d ∷ ds) = omega (arith, count_signed sign d, weight_signed sign ds)

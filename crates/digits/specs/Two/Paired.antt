-- Two rows as columns: how many there are, the column at a place, and the rows again where both are of the same length. Assumes nothing.
use Rattle.std.specs.Prelude.{◌≡◌, refl, List, [], ◌∷◌, ℕ, zero, suc, max, ℤ, pos, length, get_or}
use Rattle.std.proofs.Common.{ap, arith}
use Rattle.digits.specs.Column.{row}
use Rattle.digits.specs.Two.{Two, P, Q, of, two, blank_column, paired}

pub paired_length : (xs ys : List ℤ) → length (paired xs ys) ≡ max (length xs) (length ys)
unfolding paired
paired_length [] [] = omega arith
paired_length (a ∷ xs) [] = omega (arith, paired_length xs [])
paired_length [] (b ∷ ys) = omega (arith, paired_length [] ys)
paired_length (a ∷ xs) (b ∷ ys) = omega (arith, paired_length xs ys)

pub paired_at : (xs ys : List ℤ) (i : ℕ) → get_or (paired xs ys) i blank_column ≡ record { p = get_or xs i (pos 0); q = get_or ys i (pos 0) }
unfolding paired
paired_at [] [] i = refl
paired_at (a ∷ xs) [] zero = refl
paired_at (a ∷ xs) [] (suc i) = paired_at xs [] i
paired_at [] (b ∷ ys) zero = refl
paired_at [] (b ∷ ys) (suc i) = paired_at [] ys i
paired_at (a ∷ xs) (b ∷ ys) zero = refl
paired_at (a ∷ xs) (b ∷ ys) (suc i) = paired_at xs ys i

pub rows_paired : (xs ys : List ℤ) → length xs ≡ length ys → (r : Two) → row two r (paired xs ys) ≡ of xs ys r
unfolding paired row
rows_paired [] [] e P = refl
rows_paired [] [] e Q = refl
rows_paired [] (b ∷ ys) e r = absurd (omega arith)
rows_paired (a ∷ xs) [] e r = absurd (omega arith)
rows_paired (a ∷ xs) (b ∷ ys) e P = ap (λ (s : List ℤ). a ∷ s) (rows_paired xs ys (omega arith) P)
rows_paired (a ∷ xs) (b ∷ ys) e Q = ap (λ (s : List ℤ). b ∷ s) (rows_paired xs ys (omega arith) Q)

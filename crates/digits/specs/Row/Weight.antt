-- The weight of a row: of rows one behind the other, of zeros, and that it is at most the length. Assumes nothing.
use Rattle.std.specs.Prelude.{◌≡◌, refl, List, [], ◌∷◌, ◌++◌, ℕ, zero, suc, ◌+◌, ◌≤◌, ℤ, pos, length, replicate}
use Rattle.std.proofs.Common.{arith}
use Rattle.digits.specs.Row.{weight}
use Rattle.digits.specs.Row.Adding.{count_most}

pub weight_append : (xs ys : List ℤ) → weight (xs ++ ys) ≡ weight xs + weight ys
unfolding weight
weight_append [] ys = omega arith
weight_append (d ∷ xs) ys = omega (arith, weight_append xs ys)

pub weight_zeros : (n : ℕ) → weight (replicate n (pos 0)) ≡ 0
unfolding weight
weight_zeros zero = refl
weight_zeros (suc n) = omega (arith, weight_zeros n)

pub weight_most : (ds : List ℤ) → weight ds ≤ length ds
unfolding weight
weight_most [] = omega arith
weight_most (d ∷ ds) = omega (arith, count_most d, weight_most ds)

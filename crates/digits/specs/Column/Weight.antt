-- The weight of columns of any kind: of columns one behind the other, of zero columns, and that it is at most the length. Assumes nothing.
use Rattle.std.specs.Prelude.{◌≡◌, T, length, replicate}
use Rattle.std.proofs.Math.Path.{refl}
use mathlib.Core.List.{List, [], ◌∷◌, ◌++◌}
use Prim.Native.Nat.{ℕ, zero, suc, ◌+◌, ◌≤◌}
use native.Mathlib.Omega.{arith}
use Rattle.digits.specs.Column.{Kind, weight}
use Rattle.digits.specs.Column.Adding.{zero_counted, counted_le}

module _ (K : Kind) where
  pub weight_append : (cs ds : List K.Column) → weight K (cs ++ ds) ≡ weight K cs + weight K ds
  unfolding weight
  weight_append [] ds = omega arith
  weight_append (c ∷ cs) ds = omega (arith, weight_append cs ds)

  pub weight_blank : (n : ℕ) (c : K.Column) → T (K.blank c) → weight K (replicate n c) ≡ 0
  unfolding weight
  weight_blank zero c t = refl
  weight_blank (suc n) c t = omega (arith, zero_counted (K.blank c) t, weight_blank n c t)

  pub weight_most : (cs : List K.Column) → weight K cs ≤ length cs
  unfolding weight
  weight_most [] = omega arith
  weight_most (c ∷ cs) = omega (arith, counted_le (K.blank c), weight_most cs)

-- The signs of the scalars change no plan's key, so the cheapest plan is the same for all four pairs of signs. From the law of written
-- sheets.
use Rattle.std.specs.Prelude.{◌≡◌, List, ℕ, ℤ, pos, nat_abs}
use Rattle.std.proofs.Math.Path.{ap₂}
use Rattle.std.proofs.Common.{◌∙◌}
use Rattle.digits.specs.Scalar.{scalar, signed_scalar}
use Rattle.digits.proofs.Laws.Scalar.Signed.{scalar_size}
use Rattle.sheet.specs.declared.Plan.{Plan}
use Rattle.sheet.specs.declared.Plan.TheVariants.{I}
use Rattle.written.proofs.Laws.Promise.{written_signs}
use Rattle.written.specs.Valid.{Valid}
use Rattle.chooser.specs.Cheapest.{key_with, key, plans, within, cheapest_plan}
use Rattle.chooser.proofs.Laws.Cheapest.Least.{smallest, within_valid}
use Rattle.chooser.specs.Lexicographic.Order.{least_agrees}

module _ (k l : ℤ) where
  key_signs : (p : Plan) → Valid p → key k l p ≡ key (pos (nat_abs k)) (pos (nat_abs l)) p
  unfolding key
  key_signs p v = let same = written_signs p k l v in ap₂ (λ (a d : ℕ). key_with a d p) same.0 same.1

  pub plan_signs : (limit : ℕ) → cheapest_plan k l limit ≡ cheapest_plan (pos (nat_abs k)) (pos (nat_abs l)) limit
  unfolding cheapest_plan
  plan_signs limit =
      least_agrees (key k l) (key (pos (nat_abs k)) (pos (nat_abs l))) (I 1 1) (within limit plans) (key_signs (I 1 1) smallest)
      (λ p o. key_signs p (within_valid limit o))

-- the plan of two signed scalars is that of their bytes
pub plan_unsigned : (k : List ℕ) (k_sign : ℕ) (l : List ℕ) (l_sign : ℕ) (limit : ℕ) → cheapest_plan (signed_scalar k k_sign) (signed_scalar l l_sign) limit ≡ cheapest_plan (pos (scalar k)) (pos (scalar l)) limit
plan_unsigned k k_sign l l_sign limit =
    plan_signs (signed_scalar k k_sign) (signed_scalar l l_sign) limit ∙ ap₂ (λ (a b : ℕ). cheapest_plan (pos a) (pos b) limit) (scalar_size k k_sign) (scalar_size l l_sign)

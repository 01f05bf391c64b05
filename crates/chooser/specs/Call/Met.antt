-- What an answer of the call for the plan tells of the questions: which was missed, or that all are met.
use Rattle.std.specs.Prelude.{◌≡◌, Bool, ◌&&◌, List, ℕ, pos, Result, Ok, Err}
use Rattle.std.proofs.Math.Path.{refl, sym}
use Rattle.std.proofs.Math.Bool.{true, false, cond}
use Rattle.std.proofs.Common.{arith, ap}
use Rattle.digits.specs.declared.limits.Limits.{Limits}
use Rattle.digits.specs.declared.missed.Missed.{Missed}
use Rattle.digits.specs.declared.missed.Missed.TheVariants.{BadScalar, BadLimit}
use Rattle.digits.specs.Scalar.{scalar, sized}
use Rattle.sheet.specs.declared.Plan.{Plan}
use Rattle.sheet.specs.declared.Plan.TheVariants.{J}
use Rattle.sheet.specs.Plan.{is_limit}
use Rattle.chooser.specs.Call.{Choice, choice_number, choice_answer}
use Rattle.chooser.specs.Cheapest.{cheapest_plan}

-- the plan of an answer, and the question that it misses
plan_in : Choice → Plan
plan_in (Ok p) = p
plan_in (Err e) = J

missed_in : Choice → Missed
missed_in (Ok p) = BadLimit
missed_in (Err e) = e

module _ (limits : Limits) (k l : List ℕ) (limit : ℕ) where
  pub scalars_missed : choice_answer limits k l limit ≡ Err BadScalar → (sized limits k && sized limits l) ≡ false
  unfolding choice_answer
  scalars_missed e = go (sized limits k && sized limits l) (is_limit limit) e
    where
      go : (a b : Bool) → cond a (cond b (Ok (cheapest_plan (pos (scalar k)) (pos (scalar l)) limit)) (Err BadLimit)) (Err BadScalar) ≡ Err BadScalar → a ≡ false
      go false b e = refl
      go true true e = absurd (omega (arith, ap choice_number e))
      go true false e = absurd (omega (arith, ap choice_number e))

  pub limit_missed : choice_answer limits k l limit ≡ Err BadLimit → ((sized limits k && sized limits l) ≡ true) × (is_limit limit ≡ false)
  unfolding choice_answer
  limit_missed e = go (sized limits k && sized limits l) (is_limit limit) e
    where
      go : (a b : Bool) → cond a (cond b (Ok (cheapest_plan (pos (scalar k)) (pos (scalar l)) limit)) (Err BadLimit)) (Err BadScalar) ≡ Err BadLimit
          → (a ≡ true) × (b ≡ false)
      go false b e = absurd (omega (arith, ap choice_number e))
      go true true e = absurd (omega (arith, ap choice_number e))
      go true false e = (refl, refl)

  -- a question missed there is missed by every answer that asks both questions first
  pub missed_first : {A : Type 0} {x : Missed} (a : Result A Missed) → choice_answer limits k l limit ≡ Err x
      → cond (sized limits k && sized limits l) (cond (is_limit limit) a (Err BadLimit)) (Err BadScalar) ≡ Err x
  unfolding choice_answer missed_in
  missed_first {x = x} a e = go (sized limits k && sized limits l) (is_limit limit) e
    where
      go : (s t : Bool) → cond s (cond t (Ok (cheapest_plan (pos (scalar k)) (pos (scalar l)) limit)) (Err BadLimit)) (Err BadScalar) ≡ Err x
          → cond s (cond t a (Err BadLimit)) (Err BadScalar) ≡ Err x
      go true true h = let z : ◌≡◌ {A = ℕ} 0 1 = cc in absurd (omega arith)
      go true false h = ap (λ (y : Missed). Err y) (ap missed_in h)
      go false t h = ap (λ (y : Missed). Err y) (ap missed_in h)

  pub all_met : {p : Plan} → choice_answer limits k l limit ≡ Ok p
      → ((sized limits k && sized limits l) ≡ true) × ((is_limit limit ≡ true) × (p ≡ cheapest_plan (pos (scalar k)) (pos (scalar l)) limit))
  unfolding choice_answer plan_in
  all_met {p} e = go (sized limits k && sized limits l) (is_limit limit) e
    where
      go : (a b : Bool) → cond a (cond b (Ok (cheapest_plan (pos (scalar k)) (pos (scalar l)) limit)) (Err BadLimit)) (Err BadScalar) ≡ Ok p
          → (a ≡ true) × ((b ≡ true) × (p ≡ cheapest_plan (pos (scalar k)) (pos (scalar l)) limit))
      go false b e = absurd (omega (arith, ap choice_number e))
      go true false e = absurd (omega (arith, ap choice_number e))
      go true true e = (refl, (refl, sym (ap plan_in e)))

-- One more plan is looked at: the better of the best so far and this one, if it is within the limit. For any keys that costs stand for.
use Rattle.std.specs.Prelude.{◌≡◌, Bool, cond, List, ◌∷◌, ℕ}
use Rattle.std.proofs.Math.Path.{refl}
use Rattle.std.proofs.Common.{ap, ap₂, ◌∙◌}
use Rattle.std.proofs.Math.Bool.{true, false}
use Rattle.sheet.specs.declared.Plan.{Plan}
use Rattle.sheet.specs.Plan.{is_within}
use Rattle.chooser.specs.declared.choice.Candidate.{Candidate}
use Rattle.chooser.specs.Candidate.{key_of, either, either_within}
use Rattle.chooser.specs.Cheapest.{within}
use Rattle.chooser.specs.Lexicographic.{before, better, least}

module _ (f : Plan → List ℕ) where
  -- a plan with the cost that stands for its key
  pub record Stands (c : Candidate) : Type 0 where
    pub stands : key_of c.cost ≡ f c.plan

  pub either_better : (best c : Candidate) → Stands best → Stands c → ((either best c).plan ≡ better f best.plan c.plan) × Stands (either best c)
  either_better best c s t =
      let r = go (before (key_of c.cost) (key_of best.cost)) in
      (r.0 ∙ ap (λ (b : Bool). cond b c.plan best.plan) (ap₂ before t.stands s.stands), r.1)
    where
      go : (b : Bool) → ((cond b c best).plan ≡ cond b c.plan best.plan) × Stands (cond b c best)
      go true = (refl, t)
      go false = (refl, s)

  -- a plan that may need more slots than the limit
  pub next_better : (limit : ℕ) (best c : Candidate) → Stands best → Stands c
      → ((either_within limit best c).plan ≡ cond (is_within c.plan limit) (better f best.plan c.plan) best.plan) × Stands (either_within limit best c)
  next_better limit best c s t = go (is_within c.plan limit)
    where
      go : (b : Bool) → ((cond b (either best c) best).plan ≡ cond b (better f best.plan c.plan) best.plan) × Stands (cond b (either best c) best)
      go true = either_better best c s t
      go false = (refl, s)

  -- the least of the plans left is that with one plan more looked at
  pub take_one : (limit : ℕ) (best p : Plan) (ps : List Plan) → least f (cond (is_within p limit) (better f best p) best) (within limit ps) ≡ least f best (within limit (p ∷ ps))
  unfolding within least
  take_one limit best p ps = go (is_within p limit)
    where
      go : (t : Bool) → least f (cond t (better f best p) best) (within limit ps) ≡ least f best (cond t (p ∷ within limit ps) (within limit ps))
      go true = refl
      go false = refl

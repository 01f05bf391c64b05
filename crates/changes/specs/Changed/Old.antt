-- The cheapest plan by the old order is within the limit, and for a limit of at most 3 one of seven.
use Rattle.std.specs.Prelude.{◌≡◌, refl, List, [], ◌∷◌, ℕ, zero, suc, ◌≤◌, ℤ}
use Rattle.std.proofs.Common.{sym, ap, ◌∙◌, arith}
use Rattle.sheet.specs.declared.Plan.{Plan}
use Rattle.sheet.specs.declared.Plan.TheVariants.{J, I}
use Rattle.sheet.specs.Plan.{odds, slots}
use Rattle.written.specs.Written.{written_additions}
use Rattle.chooser.specs.Cheapest.{interleaved, key_with, plans, within}
use Rattle.chooser.proofs.Laws.Cheapest.Lists.{within_in}
use Rattle.chooser.specs.Lexicographic.{before, least}
use Rattle.chooser.specs.Lexicographic.Order.{least_one, least_ordered}
use Rattle.changes.specs.Changed.{old_key, old_plan}

-- no more slots than the limit
pub old_within : (k l : ℤ) (limit : ℕ) → slots (old_plan k l limit) ≤ limit
unfolding old_plan
old_within k l limit = least_one (old_key k l) (λ (p : Plan). slots p ≤ limit) (I 1 1) (within limit plans) (omega arith) (λ p o. (within_in limit plans o).1)

-- the plans that need no more than three slots
abbrev pub few : List Plan
few = J ∷ I 1 1 ∷ I 1 3 ∷ I 1 5 ∷ I 3 1 ∷ I 3 3 ∷ I 5 1 ∷ []

within_few : (limit : ℕ) → limit ≤ 3 → within limit plans ≡ within limit few
unfolding within plans interleaved odds
within_few zero h = refl
within_few (suc zero) h = refl
within_few (suc (suc zero)) h = refl
within_few (suc (suc (suc zero))) h = refl
within_few (suc (suc (suc (suc n)))) h = absurd (omega arith)

-- the key of the cost where no doublings are counted
abbrev pub old_cost_key : ℤ → ℤ → Plan → List ℕ
old_cost_key k l p = key_with (written_additions p k l) 0 p

-- it orders the plans as the old key does
pub old_few : (k l : ℤ) (limit : ℕ) → limit ≤ 3 → least (old_cost_key k l) (I 1 1) (within limit few) ≡ old_plan k l limit
unfolding old_plan old_key before
old_few k l limit h =
    least_ordered (old_cost_key k l) (old_key k l) (λ p q. refl) (I 1 1) (within limit few)
    ∙ ap (least (old_key k l) (I 1 1)) (sym (within_few limit h))

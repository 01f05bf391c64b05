-- The fewest additions for each number of slots as the code finds them, plan by plan.
use Rattle.std.specs.Prelude.{List, [], ◌∷◌, ℕ, zero, suc, min, get_or, set, replicate}
use Rattle.sheet.specs.declared.Plan.{Plan}
use Rattle.sheet.specs.declared.Plan.TheVariants.{I}
use Rattle.sheet.specs.Plan.{slots}
use Rattle.chooser.specs.Cheapest.{plans}

-- numbers of which the one at a place is no more than a
abbrev pub lowered : List ℕ → ℕ → ℕ → List ℕ
lowered t at a = set t at (min (get_or t at 0) a)

-- the lowest of the numbers up to a place
unfoldable pub lowest : List ℕ → ℕ → ℕ
lowest t zero = get_or t 0 0
lowest t (suc n) = min (lowest t n) (get_or t (suc n) 0)

-- additions by plan
module _ (f : Plan → ℕ) where
  -- numbers by slots, lowered by the plans of a list
  unfoldable pub lowered_by : List ℕ → List Plan → List ℕ
  lowered_by t [] = t
  lowered_by t (p ∷ ps) = lowered_by (lowered t (slots p) (f p)) ps

  -- for 0 to 31 slots the fewest additions of the plans that need so many, and of I 1, 1, which needs none
  unfoldable pub by_slots : List ℕ
  by_slots = lowered_by (replicate 32 (f (I 1 1))) plans

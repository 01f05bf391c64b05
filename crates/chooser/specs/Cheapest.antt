-- The cheapest sheet for two signed scalars under a slot limit: the order of plans, and the first in it.
pub mod Lists
use Rattle.std.specs.Prelude.{◌≡◌, ◌≢◌, ◌⊎◌, cond, List, [], ◌∷◌, ◌++◌, map, ℕ, ◌≤◌, ◌<◌, ℤ}
use Rattle.sheet.specs.declared.Plan.{Plan}
use Rattle.sheet.specs.declared.Plan.TheVariants.{J, I}
use Rattle.sheet.specs.Plan.{odds, slots, is_within}
use Rattle.written.specs.Valid.{Valid}
use Rattle.written.specs.Written.{first, written, written_additions, written_doublings}
use Rattle.chooser.specs.Lexicographic.{least}

-- the sixteen windows
abbrev pub windows : List ℕ
windows = odds 1 16

-- the plans I with windows from two lists
unfoldable pub interleaved : List ℕ → List ℕ → List Plan
interleaved [] ns = []
interleaved (m ∷ ms) ns = map (λ n. I m n) ns ++ interleaved ms ns

-- J and all 256 plans I
unfoldable pub plans : List Plan
plans = J ∷ interleaved windows windows

-- those that need no more slots than the limit
unfoldable pub within : ℕ → List Plan → List Plan
within limit [] = []
within limit (p ∷ ps) = cond (is_within p limit) (p ∷ within limit ps) (within limit ps)

-- J before I
abbrev pub rank : Plan → ℕ
rank J = 0
rank (I m1 m2) = 1

-- what decides between plans with a additions and d doublings: fewest additions; then fewest doublings; then fewest slots; then J before
-- I; then smaller m1
abbrev pub key_with : ℕ → ℕ → Plan → List ℕ
key_with a d p = a ∷ d ∷ slots p ∷ rank p ∷ first p ∷ []

-- the additions and doublings are those of the written sheet
unfoldable pub key : ℤ → ℤ → Plan → List ℕ
key k l p = key_with (written_additions p k l) (written_doublings p k l) p

-- the cheapest plan within the limit; I 1, 1 needs no slot, so it is always one of them
unfoldable pub cheapest_plan : ℤ → ℤ → ℕ → Plan
cheapest_plan k l limit = least (key k l) (I 1 1) (within limit plans)

-- the order in words: p comes before q
pub data Sooner (k l : ℤ) (p q : Plan) : Type 0 where
  -- it has fewer additions
  fewer_additions : written_additions p k l < written_additions q k l → Sooner k l p q
  -- or as many, and fewer doublings
  fewer_doublings : written_additions p k l ≡ written_additions q k l → written_doublings p k l < written_doublings q k l → Sooner k l p q
  -- or as many of both, and fewer slots
  fewer_slots : written_additions p k l ≡ written_additions q k l → written_doublings p k l ≡ written_doublings q k l → slots p < slots q → Sooner k l p q
  -- or as many of all three, and it is J and the other is not
  joint_first : written_additions p k l ≡ written_additions q k l → written_doublings p k l ≡ written_doublings q k l → slots p ≡ slots q
      → p ≡ J → q ≢ J → Sooner k l p q
  -- or both are I, and its m1 is smaller
  smaller_first : written_additions p k l ≡ written_additions q k l → written_doublings p k l ≡ written_doublings q k l → slots p ≡ slots q
      → p ≢ J → q ≢ J → first p < first q → Sooner k l p q

-- this is a total order on the plans of 01
pub record Total (k l : ℤ) : Type 0 where
  -- no plan comes before itself
  pub never_itself : (p : Plan) → Sooner k l p p → ⊥
  -- what comes before a plan comes before all that this one comes before
  pub onward : (p q r : Plan) → Sooner k l p q → Sooner k l q r → Sooner k l p r
  -- of two plans one comes first
  pub one_first : (p q : Plan) → Valid p → Valid q → p ≢ q → Sooner k l p q ⊎ Sooner k l q p

-- p is the first in this order: a plan of 01 within the limit that comes before every other
pub record First (k l : ℤ) (limit : ℕ) (p : Plan) : Type 0 where
  pub valid : Valid p
  pub within : slots p ≤ limit
  pub before_all : (q : Plan) → Valid q → slots q ≤ limit → q ≢ p → Sooner k l p q

-- the cheapest sheet
unfoldable pub cheapest : ℤ → ℤ → ℕ → List ℕ
cheapest k l limit = written (cheapest_plan k l limit) k l

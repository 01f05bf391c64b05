-- The orders whose plan is another since doublings come before slots: those with scalars from 0 to 15 and a limit of at most 3, a line
-- for each.
pub mod Old
use Rattle.std.specs.Prelude.{◌≡◌, ◌≢◌, Bool, true, false, ◌&&◌, cond, ℕ, ◌≤◌, ◌<◌, eqb, leb, ℤ, pos, nat_abs, length, drop}
use mathlib.Core.List.{List, [], ◌∷◌, ◌++◌, map, flat_map}
use Rattle.sheet.specs.declared.Plan.{Plan}
use Rattle.sheet.specs.declared.Plan.TheVariants.{J, I}
use Rattle.sheet.specs.Plan.{slots}
use Rattle.sheet.specs.Spelling.{comma, line_feed, decimal, scalar, kind, join}
use Rattle.written.specs.Written.{kind_of, first, second, written_additions}
use Rattle.chooser.specs.Lexicographic.{before, least}
use Rattle.chooser.specs.Lexicographic.Order.{In}
use Rattle.chooser.specs.Cheapest.{plans, within, rank, cheapest_plan}
use Rattle.chooser.specs.Numbers.{from}
use Rattle.order.specs.Order.{Order}

-- ── the old order ───────────────────────────────────────────────────────────────────────────

-- what decided between plans by 01: fewest additions; then fewest slots; then J before I; then smaller m1
unfoldable pub old_key : ℤ → ℤ → Plan → List ℕ
old_key k l p = written_additions p k l ∷ slots p ∷ rank p ∷ first p ∷ []

-- the cheapest plan by it
unfoldable pub old_plan : ℤ → ℤ → ℕ → Plan
old_plan k l limit = least (old_key k l) (I 1 1) (within limit plans)

-- ── the orders ──────────────────────────────────────────────────────────────────────────────

-- all with k and l from 0 to 15 and a limit of at most 3: by k, then by l, then by the limit
unfoldable pub orders : List Order
unfolding flat_map
orders = flat_map (λ k. flat_map (λ l. map (λ s. record { k = pos k; l = pos l; slots = s }) (from 0 4)) (from 0 16)) (from 0 16)

-- the plans of an order
abbrev pub old_of : Order → Plan
old_of o = old_plan o.k o.l o.slots

abbrev pub new_of : Order → Plan
new_of o = cheapest_plan o.k o.l o.slots

-- two plans are the same
abbrev pub same_plan : Plan → Plan → Bool
same_plan J J = true
same_plan J (I n1 n2) = false
same_plan (I m1 m2) J = false
same_plan (I m1 m2) (I n1 n2) = eqb m1 n1 && eqb m2 n2

-- a scalar from 0 to 15
abbrev pub Small : ℤ → Type 0
Small z = (n : ℕ) × (n < 16) × (z ≡ pos n)

-- an order of the list: small enough, and its plan is another
pub record Affected (o : Order) : Type 0 where
  pub k_small : Small o.k
  pub l_small : Small o.l
  pub slots_few : o.slots ≤ 3
  pub differs : old_of o ≢ new_of o

-- by k, then by l, then by the limit, none of which is negative in the list
abbrev pub sort_key : Order → List ℕ
sort_key o = nat_abs o.k ∷ nat_abs o.l ∷ o.slots ∷ []

-- each order before all that follow it
abbrev pub Sorted : List Order → Type 0
Sorted [] = Unit {0}
Sorted (o ∷ os) = ((p : Order) → In p os → before (sort_key o) (sort_key p) ≡ true) × Sorted os

-- the orders whose plan changed
unfoldable pub changed : List Order → List Order
changed [] = []
changed (o ∷ os) = cond (same_plan (old_of o) (new_of o)) (changed os) (o ∷ changed os)

-- ── their lines ─────────────────────────────────────────────────────────────────────────────

-- an order's fields
abbrev pub order_fields : Order → List (List ℕ)
order_fields o = scalar o.k ∷ scalar o.l ∷ decimal o.slots ∷ []

-- the kind and the windows of a plan
abbrev pub plan_fields : Plan → List (List ℕ)
plan_fields p = kind (kind_of p) ∷ decimal (first p) ∷ decimal (second p) ∷ []

-- an order with an old and a new plan, and the line of an order
unfoldable pub line_with : Order → Plan → Plan → List ℕ
line_with o p q = join comma (order_fields o ++ (plan_fields p ++ plan_fields q)) ++ line_feed ∷ []

abbrev pub line_of : Order → List ℕ
line_of o = line_with o (old_of o) (new_of o)

-- the lines of those that changed
unfoldable pub lines_of : List Order → List ℕ
unfolding flat_map
lines_of os = flat_map line_of (changed os)

-- the list
unfoldable pub changed_orders : List ℕ
changed_orders = lines_of orders

-- ── the call ────────────────────────────────────────────────────────────────────────────────

-- it asks for 18,432 bytes, room for a line of each order; in a shorter buffer it writes nothing and answers 0
abbrev pub is_roomy : ℕ → Bool
is_roomy room = leb 18432 room

unfoldable pub changes_length : ℕ → ℕ
changes_length room = cond (is_roomy room) (length changed_orders) 0

unfoldable pub changes_buffer : List ℕ → List ℕ
changes_buffer buffer = cond (is_roomy (length buffer)) (changed_orders ++ drop (length changed_orders) buffer) buffer

-- The plan with a number: the list of all plans, counted from 0.
use mathlib.Core.Path.{◌≡◌, refl, sym, ap, ◌∙◌}
use mathlib.Core.Bool.{Bool, true, false, cond}
use mathlib.Core.List.{List, map}
use Prim.Native.Nat.{ℕ, ◌+◌, ◌-◌, ◌*◌, ◌/◌, ◌%◌, ◌<◌}
use native.Mathlib.Omega.{arith}
use borrow.Author.Tests.{ne_eqb}
use lib.Dec.{eqb}
use lib.ListN.{length, get_or}
use Rattle.sheet.specs.declared.Plan.{Plan}
use Rattle.sheet.specs.declared.Plan.TheVariants.{J, I}
use Rattle.sheet.proofs.Laws.Plan.Slots.{slots_most}
use Rattle.sheet.specs.Plan.{odds, slots}
use Rattle.chooser.specs.Cheapest.{plans, interleaved}
use Rattle.chooser.specs.Numbers.{from, from_at}

abbrev pub numbered : ℕ → Plan
numbered n = cond (eqb n 0) J (I (2 * ((n - 1) / 16) + 1) (2 * ((n - 1) % 16) + 1))

-- one computed test
all : map numbered (from 0 257) ≡ plans
unfolding from plans interleaved odds
all = refl

pub plan_number : (n : ℕ) → n < 257 → get_or plans n J ≡ numbered n
plan_number n h = let e : 0 + n ≡ n = omega arith in ap (λ (l : List Plan). get_or l n J) (sym all) ∙ from_at numbered J 0 257 n h ∙ ap numbered e

pub first_plan : (n : ℕ) → n ≡ 0 → J ≡ get_or plans n J
unfolding plans
first_plan n e = ap (λ (m : ℕ). get_or plans m J) (sym e)

pub other_plan : (n : ℕ) → n < 257 → (n ≡ 0 → ⊥) → I (2 * ((n - 1) / 16) + 1) (2 * ((n - 1) % 16) + 1) ≡ get_or plans n J
other_plan n h z = sym (plan_number n h ∙ rw (ne_eqb n 0 z))

pub plans_length : length plans ≡ 257
unfolding plans interleaved odds
plans_length = refl

-- none needs more than 31 slots
pub plan_slots : (n : ℕ) → n < 257 → slots (get_or plans n J) < 32
plan_slots n h = rw (plan_number n h) (go (eqb n 0))
  where
    go : (b : Bool) → slots (cond b J (I (2 * ((n - 1) / 16) + 1) (2 * ((n - 1) % 16) + 1))) < 32
    go true = omega arith
    go false = omega (arith, slots_most (2 * ((n - 1) / 16) + 1) (2 * ((n - 1) % 16) + 1) (omega arith) (omega arith))

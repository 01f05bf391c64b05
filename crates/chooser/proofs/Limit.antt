-- What a limit of slots lets in: no first window above 2 limit − 1, below two slots none but 1, and so none of the plans from a
-- number on.
use mathlib.Core.Path.{◌≡◌}
use mathlib.Core.Bool.{false}
use Prim.Native.Nat.{ℕ, zero, suc, ◌+◌, ◌-◌, ◌*◌, ◌/◌, ◌%◌, ◌≤◌, ◌<◌, min}
use native.Mathlib.Omega.{arith}
use borrow.Author.Tests.{lt-leb}
use lib.ListN.{length, get_or, drop_of_length-le}
use lib.Seq.{drop-cons}
use Rattle.sheet.specs.declared.Plan.TheVariants.{J, I}
use Rattle.sheet.proofs.Laws.Plan.Slots.{wide_slots}
use Rattle.sheet.specs.Plan.{slots, is_within}
use Rattle.chooser.specs.Body.Choice.{Enough}
use Rattle.chooser.specs.Cheapest.{plans, within}
use Rattle.chooser.proofs.Numbers.{other_plan, plans_length}

-- behind those with 1 for the first window, the plans from the number 16 limit + 1 on have one above 2 limit − 1
too_wide : (limit n : ℕ) → n < 257 → 17 ≤ n → 16 * min limit 16 + 1 ≤ n → is_within (get_or plans n J) limit ≡ false
too_wide limit n h w g =
    let m1 = 2 * ((n - 1) / 16) + 1 in
    let m2 = 2 * ((n - 1) % 16) + 1 in
    rw (← other_plan n h (omega arith)) (lt-leb (slots (I m1 m2)) limit (omega (arith, wide_slots m1 m2 (omega arith) (omega arith) (omega arith))))

-- so that the plans before it are enough to try, and all plans are
pub enough_all : (limit n : ℕ) → n ≡ 257 → Enough limit n
unfolding within
enough_all limit n e = let all : length plans ≤ n = omega (arith, plans_length) in record { counted = omega arith; none_left = rw (drop_of_length-le plans all) }

enough_from : (limit d n : ℕ) → n + d ≡ 257 → 17 ≤ n → 16 * min limit 16 + 1 ≤ n → Enough limit n
unfolding within
enough_from limit zero n e w h = enough_all limit n (omega arith)
enough_from limit (suc d) n e w h =
    record {
      counted = omega arith;
      none_left = rw (drop-cons plans n J (omega (arith, plans_length)), too_wide limit n (omega arith) w h) (enough_from limit d (suc n) (omega arith) (omega arith) (omega arith)).none_left;
    }

pub enough_wide : (limit n : ℕ) → n ≤ 257 → 17 ≤ n → 16 * min limit 16 + 1 ≤ n → Enough limit n
enough_wide limit n e w h = enough_from limit (257 - n) n (omega arith) w h

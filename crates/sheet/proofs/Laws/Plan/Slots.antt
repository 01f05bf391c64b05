-- The slots of a plan: that they are the places that its T lines take, what a window needs at least, that the first window and the slots
-- tell the second, and that no plan needs more than the widest windows do. Assumes nothing.
use Rattle.std.specs.Prelude.{◌≡◌, refl, Bool, true, false, ◌||◌, cond, map, ℕ, ◌+◌, ◌-◌, ◌*◌, ◌%◌, ◌≤◌, ◌<◌, min, leb}
use Rattle.std.proofs.Common.{sym, ap₂, ◌∙◌, arith, leb-true, leb-false}
use Rattle.digits.specs.Row.{widest}
use Rattle.sheet.specs.declared.Plan.{Plan}
use Rattle.sheet.specs.declared.Plan.TheVariants.{J, I}
use Rattle.sheet.specs.Line.{table}
use Rattle.sheet.specs.Plan.{slots, working, tables, table_additions, table_doublings, largest, most_slots}
use Rattle.sheet.proofs.Laws.Plan.Cost.{tables_additions, tables_doublings}
use Rattle.sheet.specs.Questions.{additions, doublings}

-- the place of the working double, by the doublings that fill the table
pub working_doubled : (m1 m2 : ℕ) → working m1 m2 ≡ min 1 (table_doublings (I m1 m2))
working_doubled m1 m2 = go (leb 3 m1) (leb 3 m2)
  where
    go : (a b : Bool) → cond (a || b) 1 0 ≡ min 1 (cond a 1 0 + cond b 1 0)
    go true b = omega arith
    go false true = refl
    go false false = refl

-- with odd windows, the slots are one for each T line that is an addition, and one for all that are doublings
pub slots_places : (p : Plan) → (largest p).p % 2 ≡ 1 → (largest p).q % 2 ≡ 1
    → slots p ≡ additions (map table (tables p)) + min 1 (doublings (map table (tables p)))
slots_places p o q = counted p o q ∙ sym (ap₂ (λ (a d : ℕ). a + min 1 d) (tables_additions p) (tables_doublings p))
  where
    counted : (p : Plan) → (largest p).p % 2 ≡ 1 → (largest p).q % 2 ≡ 1 → slots p ≡ table_additions p + min 1 (table_doublings p)
    counted J o q = refl
    counted (I m1 m2) o q = omega (arith, working_doubled m1 m2)

-- the place of the working double, in numbers
pub working_is : (m1 m2 : ℕ) → working m1 m2 ≡ min 1 ((m1 - 2) + (m2 - 2))
working_is m1 m2 = go (leb 3 m1) (leb 3 m2) refl refl
  where
    go : (a b : Bool) → leb 3 m1 ≡ a → leb 3 m2 ≡ b → cond (a || b) 1 0 ≡ min 1 ((m1 - 2) + (m2 - 2))
    go true b e f = omega (arith, leb-true 3 m1 e)
    go false true e f = omega (arith, leb-true 3 m2 f)
    go false false e f = omega (arith, leb-false 3 m1 e, leb-false 3 m2 f)

-- a wider second window keeps it
working_more : (m a b : ℕ) → a ≤ b → working m a ≤ working m b
working_more m a b h = omega (arith, working_is m a, working_is m b)

-- the windows exchanged have it too
working_swap : (m n : ℕ) → working m n ≡ working n m
working_swap m n = omega (arith, working_is m n, working_is n m)

-- a first window, odd and 3 or more, is below twice the slots
pub wide_slots : (m1 m2 : ℕ) → m1 % 2 ≡ 1 → 3 ≤ m1 → 1 ≤ m2 → m1 < 2 * slots (I m1 m2)
wide_slots m1 m2 o h g = omega (arith, working_is m1 m2)

-- a plan needs no fewer slots than with 1 in place of either window
pub window_slots : (m1 m2 : ℕ) → 1 ≤ m1 → 1 ≤ m2 → (slots (I m1 1) ≤ slots (I m1 m2)) × (slots (I m2 1) ≤ slots (I m1 m2))
window_slots m1 m2 h g = (
  omega (arith, working_more m1 1 m2 g),
  omega (arith, working_more m2 1 m1 h, working_swap m1 m2),
)

-- the first window and the slots tell the second
pub second_told : (m a b : ℕ) → 1 ≤ m → a % 2 ≡ 1 → b % 2 ≡ 1 → slots (I m a) ≡ slots (I m b) → a ≡ b
second_told m a b h o p e = go (leb a b) refl
  where
    go : (t : Bool) → leb a b ≡ t → a ≡ b
    go true t = omega (arith, working_more m a b (leb-true a b t), leb-true a b t)
    go false t = omega (arith, working_more m b a (omega (arith, leb-false a b t)), leb-false a b t)

-- no plan needs more slots than the widest windows do
pub slots_most : (m1 m2 : ℕ) → m1 ≤ widest → m2 ≤ widest → slots (I m1 m2) ≤ most_slots
slots_most m1 m2 h g = omega (arith, working_is m1 m2)

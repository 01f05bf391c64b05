-- The joint sparse rules at three neighbouring columns (`Triple`), with a test that computes (`triple`): a list keeps the
-- rules just where all its places do.
use Rattle.std.specs.Prelude.{◌≡◌, ◌≢◌, ◌⊎◌, List, ℕ, suc, ◌≤◌, T, ℤ, pos, negsuc, ◌*ℤ◌, nat_abs}
use Rattle.digits.specs.Two.{Column, Two, other, digit, blank}
use Rattle.forms.specs.Joint.{Keeps, at}
use Rattle.forms.specs.Test.{Test, passes, fails, both, either, implies, within, same, every_row}

-- the size of the digit of the lower column c in the row r, and (b) and (c) for c and the higher column h
abbrev pub RowRules : Column → Column → Two → Type 0
RowRules c h r =
    (nat_abs (digit c r) ≤ 1)
    × ((digit c r *ℤ digit h r ≢ negsuc 0)
    × (digit c r ≢ pos 0 → digit h r ≢ pos 0 → (digit h (other r) ≢ pos 0) × (digit c (other r) ≡ pos 0)))

abbrev nonzero : (z : ℤ) → Test (z ≢ pos 0)
nonzero z = fails (same z (pos 0))

abbrev pub row_rules : (c h : Column) (r : Two) → Test (RowRules c h r)
row_rules c h r =
    both (within (nat_abs (digit c r)) 1)
    (both (fails (same (digit c r *ℤ digit h r) (negsuc 0)))
    (implies (nonzero (digit c r)) (implies (nonzero (digit h r)) (both (nonzero (digit h (other r))) (same (digit c (other r)) (pos 0))))))

-- (a) for three columns, and the rules of both rows for the lower two
abbrev pub Triple : Column → Column → Column → Type 0
Triple c h g = (T (blank c) ⊎ (T (blank h) ⊎ T (blank g))) × ((r : Two) → RowRules c h r)

abbrev pub triple : (c h g : Column) → Test (Triple c h g)
triple c h g = both (either (passes (blank c)) (either (passes (blank h)) (passes (blank g)))) (every_row (row_rules c h))

-- the rules at a place of a list
pub keeps_triple : {cs : List Column} → Keeps cs → (i : ℕ) → Triple (at cs i) (at cs (suc i)) (at cs (suc (suc i)))
keeps_triple k i = (k.a i, λ r. (k.small i r, (k.b i r, k.c i r)))

-- a list that keeps them at every place keeps the rules
pub triple_keeps : (cs : List Column) → ((i : ℕ) → Triple (at cs i) (at cs (suc i)) (at cs (suc (suc i)))) → Keeps cs
triple_keeps cs t =
    record { small = λ i r. ((t i).1 r).0; a = λ i. (t i).0; b = λ i r. ((t i).1 r).1.0; c = λ i r. ((t i).1 r).1.1 }

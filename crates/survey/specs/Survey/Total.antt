-- What the steps of a sheet come to, each added at its place, which is the number of D lines to come.
pub mod Claim
use Rattle.std.specs.Prelude.{List, [], ◌∷◌, ℕ, suc, ◌-◌, ◌^◌, ℤ, pos, ◌+ℤ◌, ◌*ℤ◌}
use Rattle.digits.specs.Two.{Two, digit}
use Rattle.sheet.specs.Line.{Line, header, table, load, double, add, end, misspelled}
use Rattle.survey.specs.Sum.{Holds}

-- a D line takes one of the places to come, if there is any
abbrev pub places_after : ℕ → Line → ℕ
places_after n (header h) = n
places_after n (table t) = n
places_after n (load t) = n
places_after n double = n - 1
places_after n (add t) = n
places_after n end = n
places_after n misspelled = n

-- an L or A line adds its digit of a row to z, 2^n times
abbrev pub sum_after : Two → ℕ → ℤ → Line → ℤ
sum_after r n z (header h) = z
sum_after r n z (table t) = z
sum_after r n z (load t) = z +ℤ pos (2 ^ n) *ℤ digit t r
sum_after r n z double = z
sum_after r n z (add t) = z +ℤ pos (2 ^ n) *ℤ digit t r
sum_after r n z end = z
sum_after r n z misspelled = z

-- all lines, with n places to come
unfoldable pub total : Two → ℕ → ℤ → List Line → ℤ
total r n z [] = z
total r n z (l ∷ ls) = total r (places_after n l) (sum_after r n z l) ls

-- the limbs ys hold what xs hold and the line adds
abbrev pub Adds : Two → ℕ → Line → List ℕ → List ℕ → Type 0
Adds r n l xs ys = (c m : ℕ) (z : ℤ) → Holds c m xs z → Holds c (suc m) ys (sum_after r n z l)

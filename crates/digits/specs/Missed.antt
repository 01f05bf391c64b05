-- The number of the question that a call's input misses.
use Rattle.std.specs.Prelude.{◌≡◌, refl, Bool, true, false, cond, List, [], ◌∷◌, ℕ, Result, Ok, Err}
use Rattle.digits.specs.declared.missed.Missed.{Missed}
use Rattle.digits.specs.declared.missed.Missed.TheVariants.{BadScalar, BadWindow, NoRoom, BadLimit, BadColumn, BadSize}

-- of questions in order, each with its number and whether it is met, the number of the first one missed; 0 where none is
abbrev pub missed : List (ℕ × Bool) → ℕ
missed [] = 0
missed ((number, met) ∷ rest) = cond met (missed rest) number

-- what holds of the answer where a question is met, and of the answer where it is missed, holds of the answer
pub either_way : {A : Type 0} (P : A → Type 0) (met : Bool) (x y : A) → (met ≡ true → P x) → P y → P (cond met x y)
either_way P true x y h g = h refl
either_way P false x y h g = g

-- the number of a question missed
abbrev pub number : Missed → ℕ
number BadScalar = 1
number BadWindow = 2
number NoRoom = 3
number BadLimit = 4
number BadColumn = 12
number BadSize = 15

-- the number of a call's answer: that of the question missed, 0 where none is
abbrev pub number_of : {A : Type 0} → Result A Missed → ℕ
number_of (Ok x) = 0
number_of (Err e) = number e

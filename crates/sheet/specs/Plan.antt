-- Plans: the slots that each needs, the points of its T lines, and what these cost.
use Rattle.std.specs.Prelude.{Bool, ◌||◌, cond, List, [], ◌∷◌, ◌++◌, map, ℕ, zero, suc, ◌+◌, ◌-◌, ◌/◌, leb, ℤ, pos, negsuc}
use Rattle.digits.specs.Row.{widest}
use Rattle.digits.specs.Two.{Column}
use Rattle.sheet.specs.declared.Plan.{Plan}
use Rattle.sheet.specs.declared.Plan.TheVariants.{J, I}
use Rattle.sheet.specs.declared.Largest.{Largest}

-- a point aP + bQ: the pair of its numbers, as a column has them
abbrev pub Point : Type 0
Point = Column

-- aP + bQ
abbrev pub point : ℤ → ℤ → Point
point a b = record { p = a; q = b }

-- the place of the working double, 2P and later 2Q: one for both, if m1 or m2 is 3 or more
abbrev pub working : ℕ → ℕ → ℕ
working m1 m2 = cond (leb 3 m1 || leb 3 m2) 1 0

-- the slots that a plan needs
abbrev pub slots : Plan → ℕ
slots J = 2
slots (I m1 m2) = (m1 + m2 - 2) / 2 + working m1 m2

-- the highest limit of slots, 31: what the widest windows need
abbrev pub most_slots : ℕ
most_slots = slots (I widest widest)

-- a limit of slots is at most 31
abbrev pub is_limit : ℕ → Bool
is_limit limit = leb limit most_slots

-- a plan needs no more slots than the limit
abbrev pub is_within : Plan → ℕ → Bool
is_within p limit = leb (slots p) limit

-- how many odd multiples there are from 3 to m
abbrev pub stored : ℕ → ℕ
stored m = (m - 1) / 2

-- n odd numbers from d on
unfoldable pub odds : ℕ → ℕ → List ℕ
odds d zero = []
odds d (suc n) = d ∷ odds (2 + d) n

-- what fills the table for n odd multiples from 3 on: if there are any, 2 and then these
abbrev pub multiples : ℕ → List ℕ
multiples zero = []
multiples (suc n) = 2 ∷ odds 3 (suc n)

-- the points of the plan's own T lines, in order
abbrev pub tables : Plan → List Point
tables J = point (pos 1) (pos 1) ∷ point (pos 1) (negsuc 0) ∷ []
tables (I m1 m2) =
    map (λ n. point (pos n) (pos 0)) (multiples (stored m1)) ++ map (λ n. point (pos 0) (pos n)) (multiples (stored m2))

-- the additions that fill the table
abbrev pub table_additions : Plan → ℕ
table_additions J = 2
table_additions (I m1 m2) = stored m1 + stored m2

-- twice the point is there for a window of 3 or more
abbrev pub doubled : ℕ → ℕ
doubled m = cond (leb 3 m) 1 0

-- the doublings that fill the table
abbrev pub table_doublings : Plan → ℕ
table_doublings J = 0
table_doublings (I m1 m2) = doubled m1 + doubled m2

-- the largest digits that a plan has for P and for Q
abbrev pub largest : Plan → Largest
largest J = record { p = 1; q = 1 }
largest (I m1 m2) = record { p = m1; q = m2 }

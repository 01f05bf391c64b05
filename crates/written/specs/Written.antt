-- The sheet that is written for two signed scalars and a plan, from columns, from the highest place down to place 0; and the one
-- whose columns are those of the row or joint form.
pub mod Columns
pub mod Stepping
pub mod Lengths
use Rattle.std.specs.Prelude.{cond, List, [], ◌∷◌, ◌++◌, reverse, ℕ, ℤ, pos}
use Rattle.digits.specs.Two.{Column, blank, paired}
use Rattle.forms.specs.Joint.{joint}
use Rattle.forms.specs.Row.{row}
use Rattle.sheet.specs.declared.Plan.{Plan}
use Rattle.sheet.specs.declared.Plan.TheVariants.{J, I}
use Rattle.sheet.specs.Line.{Kind, Header, Line, interleaved}
use Rattle.sheet.specs.Line as Line
use Rattle.sheet.specs.Plan.{Point, point, slots, tables}
use Rattle.sheet.specs.Questions.{additions, doublings}
use Rattle.sheet.specs.Sound.{Moves, stop, doubled, added, Steps, nothing, loaded, sheet_lines}
use Rattle.sheet.specs.Spelling.{spell}

-- the digits that a plan takes for k and l
unfoldable pub digits : Plan → ℤ → ℤ → List Column
digits J k l = joint k l
digits (I m1 m2) k l = paired (row m1 k) (row m2 l)

-- t, unless it is 0P + 0Q
abbrev pub unless_zero : Point → List Point
unless_zero t = cond (blank t) [] (t ∷ [])

-- the steps of a place: in J one for both, in I one for P and then one for Q
abbrev pub place_steps : Plan → Column → List Point
place_steps J c = unless_zero c
place_steps (I m1 m2) c = unless_zero (point c.p (pos 0)) ++ unless_zero (point (pos 0) c.q)

-- points added one after another
unfoldable pub add_all : List Point → Moves → Moves
add_all [] ms = ms
add_all (t ∷ ts) ms = added t (add_all ts ms)

-- the moves of the places below, from the highest down: a D, and the place's steps
unfoldable pub moves_of : Plan → List Column → Moves
moves_of p [] = stop
moves_of p (c ∷ cs) = doubled (add_all (place_steps p c) (moves_of p cs))

-- the first step is the load
abbrev pub load : List Point → Moves → Steps
load [] ms = nothing
load (t ∷ ts) ms = loaded t (add_all ts ms)

-- the steps of columns from the highest place down: nothing where there is no digit
abbrev pub steps_down : Plan → List Column → Steps
steps_down p [] = nothing
steps_down p (c ∷ cs) = load (place_steps p c) (moves_of p cs)

-- the steps of columns, place 0 first
unfoldable pub steps_of : Plan → List Column → Steps
steps_of p cs = steps_down p (reverse cs)

-- the kind and the windows of a plan, as a header has them
abbrev pub kind_of : Plan → Kind
kind_of J = Line.joint
kind_of (I m1 m2) = interleaved

abbrev pub first : Plan → ℕ
first J = 1
first (I m1 m2) = m1

abbrev pub second : Plan → ℕ
second J = 1
second (I m1 m2) = m2

-- the header, with the counts of additions and doublings a and d
abbrev pub heading : Plan → ℕ → ℕ → ℤ → ℤ → Header
heading p a d k l =
    record {
      kind = kind_of p;
      m1 = first p;
      m2 = second p;
      slots = slots p;
      additions = a;
      doublings = d;
      k = k;
      l = l;
    }

-- all lines, with the counts a and d in the header
abbrev pub lines_with : Plan → List Column → ℕ → ℕ → ℤ → ℤ → List Line
lines_with p cs a d k l = sheet_lines (heading p a d k l) (tables p) (steps_of p cs)

-- the lines of columns: the counts are those of the lines, of which the header is none
unfoldable pub lines_of : Plan → List Column → ℤ → ℤ → List Line
lines_of p cs k l = lines_with p cs (additions (lines_with p cs 0 0 k l)) (doublings (lines_with p cs 0 0 k l)) k l

-- the additions of their sheet
unfoldable pub additions_of : Plan → List Column → ℤ → ℤ → ℕ
additions_of p cs k l = additions (lines_of p cs k l)

-- its doublings: the D lines, and the T lines of 2P and 2Q
unfoldable pub doublings_of : Plan → List Column → ℤ → ℤ → ℕ
doublings_of p cs k l = doublings (lines_of p cs k l)

-- the sheet of columns
unfoldable pub sheet_of : Plan → List Column → ℤ → ℤ → List ℕ
sheet_of p cs k l = spell (lines_of p cs k l)

-- ── the written sheet: that of the digits which the plan takes for k and l ──────────────────

-- its lines
abbrev pub written_lines : Plan → ℤ → ℤ → List Line
written_lines p k l = lines_of p (digits p k l) k l

-- its additions
abbrev pub written_additions : Plan → ℤ → ℤ → ℕ
written_additions p k l = additions_of p (digits p k l) k l

-- its doublings
abbrev pub written_doublings : Plan → ℤ → ℤ → ℕ
written_doublings p k l = doublings_of p (digits p k l) k l

-- its bytes
abbrev pub written : Plan → ℤ → ℤ → List ℕ
written p k l = sheet_of p (digits p k l) k l

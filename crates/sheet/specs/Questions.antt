-- The reader's questions 5 to 11, each put to the whole sheet: the line at fault, or none.
pub mod Placed
pub mod Planned
pub mod Allowed
use Rattle.std.specs.Prelude.{Bool, true, false, not, ◌&&◌, ◌||◌, cond, List, [], ◌∷◌, ℕ, zero, suc, ◌+◌, ◌%◌, eqb, leb, ltb, length, ℤ, pos, negsuc, ◌+ℤ◌, nat_abs}
use Rattle.std.proofs.Math.Option.{Option, none, some}
use Rattle.digits.specs.declared.limits.Limits.{Limits}
use Rattle.digits.specs.Two.{is_zero, blank}
use Rattle.sheet.specs.declared.Plan.{Plan}
use Rattle.sheet.specs.declared.Plan.TheVariants.{J, I}
use Rattle.sheet.specs.Plan.{Point, point, slots, tables}
use Rattle.digits.specs.Row.{is_window}
use Rattle.sheet.specs.Line.{Kind, joint, interleaved, Header, plan, Line, header, table, load, double, add, end, misspelled}

-- none where a test is met, else the line at fault
abbrev pub unless : Bool → ℕ → Option ℕ
unless true n = none
unless false n = some n

-- ── 5. Is it at most 16,384 bytes, at the gateway 32,768? ───────────────────────────────────

-- the whole sheet is at fault, line 0
unfoldable pub too_long : Limits → List ℕ → Option ℕ
too_long limits s = unless (leb (length s) limits.sheet) 0

-- ── 6. Is each line spelled and placed as above? ────────────────────────────────────────────
-- In each of these, n is the number of the first line of the list.

-- behind E nothing follows
abbrev pub after_end : ℕ → List Line → Option ℕ
after_end n [] = none
after_end n (l ∷ ls) = some n

-- behind L stand D and A lines, then E
unfoldable pub after_load : ℕ → List Line → Option ℕ
after_load n (double ∷ ls) = after_load (suc n) ls
after_load n (add t ∷ ls) = after_load (suc n) ls
after_load n (end ∷ ls) = after_end (suc n) ls
after_load n (header h ∷ ls) = some n
after_load n (table t ∷ ls) = some n
after_load n (load t ∷ ls) = some n
after_load n (misspelled ∷ ls) = some n
after_load n [] = some n

-- behind S stand the T lines, then either nothing or one L, then E
unfoldable pub after_header : ℕ → List Line → Option ℕ
after_header n (table t ∷ ls) = after_header (suc n) ls
after_header n (load t ∷ ls) = after_load (suc n) ls
after_header n (end ∷ ls) = after_end (suc n) ls
after_header n (header h ∷ ls) = some n
after_header n (double ∷ ls) = some n
after_header n (add t ∷ ls) = some n
after_header n (misspelled ∷ ls) = some n
after_header n [] = some n

-- S comes first; the first line that is misspelled or out of order, one past the last where a line is missing
unfoldable pub misplaced : List Line → Option ℕ
misplaced (header h ∷ ls) = after_header 2 ls
misplaced (table t ∷ ls) = some 1
misplaced (load t ∷ ls) = some 1
misplaced (double ∷ ls) = some 1
misplaced (add t ∷ ls) = some 1
misplaced (end ∷ ls) = some 1
misplaced (misspelled ∷ ls) = some 1
misplaced [] = some 1

-- ── 7. Are the windows odd, 1 to 31 (for J both 1), the slots the plan's, and the T lines the plan's? ──

-- the windows of a header are odd, 1 to 31; for J both are 1
abbrev pub windowed : Kind → ℕ → ℕ → Bool
windowed joint m1 m2 = eqb m1 1 && eqb m2 1
windowed interleaved m1 m2 = is_window m1 && is_window m2

-- the points of the T lines, which stand behind S
unfoldable pub table_lines : List Line → List Point
table_lines (header h ∷ ls) = table_lines ls
table_lines (table t ∷ ls) = t ∷ table_lines ls
table_lines (load t ∷ ls) = []
table_lines (double ∷ ls) = []
table_lines (add t ∷ ls) = []
table_lines (end ∷ ls) = []
table_lines (misspelled ∷ ls) = []
table_lines [] = []

-- two whole numbers are equal
abbrev pub same_number : ℤ → ℤ → Bool
same_number (pos a) (pos b) = eqb a b
same_number (pos a) (negsuc b) = false
same_number (negsuc a) (pos b) = false
same_number (negsuc a) (negsuc b) = eqb a b

-- two points are equal
abbrev pub same_point : Point → Point → Bool
same_point s t = same_number s.p t.p && same_number s.q t.q

-- the first T line that differs from the plan's: an extra one too, and the line after them if one is missing
unfoldable pub differs : ℕ → List Point → List Point → Option ℕ
differs n [] [] = none
differs n [] (t ∷ ts) = some n
differs n (u ∷ us) [] = some n
differs n (u ∷ us) (t ∷ ts) = cond (same_point u t) (differs (suc n) us ts) (some n)

-- windows and slots are at line 1, the T lines from line 2 on
unfoldable pub off_plan : Header → List Line → Option ℕ
off_plan h ls =
    cond (windowed h.kind h.m1 h.m2 && eqb h.slots (slots (plan h)))
    (differs 2 (tables (plan h)) (table_lines ls))
    (some 1)

-- ── 8. Is each step allowed by the plan? ────────────────────────────────────────────────────

-- an odd digit within the window m
abbrev pub is_digit : ℕ → ℤ → Bool
is_digit m d = eqb (nat_abs d % 2) 1 && leb (nat_abs d) m

-- digits −1 to 1, not both 0
abbrev pub is_column : Point → Bool
is_column t = leb (nat_abs t.p) 1 && leb (nat_abs t.q) 1 && not (blank t)

-- the turn of a step in its place: 1 for P, 2 for Q or for a joint one; 0 for what is no step of the plan
abbrev pub turn : Plan → Point → ℕ
turn J t = cond (is_column t) 2 0
turn (I m1 m2) t = cond (is_digit m1 t.p && is_zero t.q) 1 (cond (is_zero t.p && is_digit m2 t.q) 2 0)

-- the first step whose turn does not come after that of the step before it in its place, of which 0 stands for none
unfoldable pub disallowed_from : Plan → ℕ → ℕ → List Line → Option ℕ
disallowed_from p before n (load t ∷ ls) = cond (ltb before (turn p t)) (disallowed_from p (turn p t) (suc n) ls) (some n)
disallowed_from p before n (add t ∷ ls) = cond (ltb before (turn p t)) (disallowed_from p (turn p t) (suc n) ls) (some n)
disallowed_from p before n (double ∷ ls) = disallowed_from p 0 (suc n) ls
disallowed_from p before n (header h ∷ ls) = disallowed_from p before (suc n) ls
disallowed_from p before n (table t ∷ ls) = disallowed_from p before (suc n) ls
disallowed_from p before n (end ∷ ls) = disallowed_from p before (suc n) ls
disallowed_from p before n (misspelled ∷ ls) = disallowed_from p before (suc n) ls
disallowed_from p before n [] = none

-- the first step that the plan does not allow
unfoldable pub disallowed : Plan → List Line → Option ℕ
disallowed p ls = disallowed_from p 0 1 ls

-- ── 9. Are there at most 528 D lines, at the gateway 1,024? ─────────────────────────────────

-- the first D line beyond as many as are left
unfoldable pub excess_from : ℕ → ℕ → List Line → Option ℕ
excess_from zero n (double ∷ ls) = some n
excess_from (suc left) n (double ∷ ls) = excess_from left (suc n) ls
excess_from left n (header h ∷ ls) = excess_from left (suc n) ls
excess_from left n (table t ∷ ls) = excess_from left (suc n) ls
excess_from left n (load t ∷ ls) = excess_from left (suc n) ls
excess_from left n (add t ∷ ls) = excess_from left (suc n) ls
excess_from left n (end ∷ ls) = excess_from left (suc n) ls
excess_from left n (misspelled ∷ ls) = excess_from left (suc n) ls
excess_from left n [] = none

-- the first D line beyond those that the limits allow
unfoldable pub excess : Limits → List Line → Option ℕ
excess limits ls = excess_from limits.doublings 1 ls

-- ── 10. Are both counts true? ───────────────────────────────────────────────────────────────

-- T,2,0 and T,0,2
abbrev pub is_double : Point → Bool
is_double t = same_point t (point (pos 2) (pos 0)) || same_point t (point (pos 0) (pos 2))

-- additions are the A lines and the T lines other than T,2,0 and T,0,2
unfoldable pub additions : List Line → ℕ
additions (table t ∷ ls) = cond (is_double t) 0 1 + additions ls
additions (add t ∷ ls) = 1 + additions ls
additions (header h ∷ ls) = additions ls
additions (load t ∷ ls) = additions ls
additions (double ∷ ls) = additions ls
additions (end ∷ ls) = additions ls
additions (misspelled ∷ ls) = additions ls
additions [] = 0

-- doublings are the D lines and those two
unfoldable pub doublings : List Line → ℕ
doublings (table t ∷ ls) = cond (is_double t) 1 0 + doublings ls
doublings (double ∷ ls) = 1 + doublings ls
doublings (header h ∷ ls) = doublings ls
doublings (load t ∷ ls) = doublings ls
doublings (add t ∷ ls) = doublings ls
doublings (end ∷ ls) = doublings ls
doublings (misspelled ∷ ls) = doublings ls
doublings [] = 0

-- line 1, unless its additions and doublings are those of the lines
unfoldable pub miscounted : Header → List Line → Option ℕ
miscounted h ls = unless (eqb h.additions (additions ls) && eqb h.doublings (doublings ls)) 1

-- ── 11. Is the result (k, l)? ───────────────────────────────────────────────────────────────

-- the sum of two points
abbrev pub plus : Point → Point → Point
plus s t = point (s.p +ℤ t.p) (s.q +ℤ t.q)

-- what the accumulator holds at E, if it holds x before the lines
unfoldable pub held : Point → List Line → Point
held x (load t ∷ ls) = held t ls
held x (double ∷ ls) = held (plus x x) ls
held x (add t ∷ ls) = held (plus x t) ls
held x (header h ∷ ls) = held x ls
held x (table t ∷ ls) = held x ls
held x (end ∷ ls) = held x ls
held x (misspelled ∷ ls) = held x ls
held x [] = x

-- the result; without an L it is 0P + 0Q
unfoldable pub result : List Line → Point
result ls = held (point (pos 0) (pos 0)) ls

-- line 1, unless the result is kP + lQ
unfoldable pub wrong : Header → List Line → Option ℕ
wrong h ls = unless (same_point (result ls) (point h.k h.l)) 1

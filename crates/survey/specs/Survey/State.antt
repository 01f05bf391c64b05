-- What the reader's state says to each question of the lines that follow: a fault already found comes first.
use Rattle.std.specs.Prelude.{◌≡◌, Bool, true, false, not, ◌&&◌, cond, List, [], ◌∷◌, ℕ, zero, suc, ◌+◌, ◌-◌, ◌*◌, ◌%◌, ◌≤◌, eqb, leb, drop}
use Rattle.std.proofs.Math.Option.{Option, none, some}
use Rattle.digits.specs.declared.limits.Limits.{Limits}
use Rattle.sheet.specs.declared.Plan.{Plan}
use Rattle.sheet.specs.Plan.{Point, slots, tables, table_doublings}
use Rattle.sheet.specs.Line as spec
use Rattle.sheet.specs.Line.{plan_of, header, table, load, double, add}
use Rattle.sheet.specs.Questions.{windowed, same_point, table_lines, differs, disallowed_from, excess_from, additions, doublings, after_header, after_load, after_end, misplaced, off_plan, disallowed, excess}
use Rattle.lines.specs.Coded.{kind_of, coded_point, coded_header}
use Rattle.survey.specs.Survey.Total.{places_after}
use Rattle.std.specs.declared.option.Option as faults
use Rattle.lines.specs.declared.point.Point as point_type
use Rattle.lines.specs.declared.header.Header as header_of
use Rattle.lines.specs.declared.line.Line.{Line}
use Rattle.lines.specs.declared.line.Line.TheVariants.{Table, Load, Double, Add, End, Other}
use Rattle.survey.specs.declared.table.Tables as tables_of
use Rattle.survey.specs.declared.table.Counts as Counts-of
use Rattle.survey.specs.declared.steps.Steps as steps_of
use Rattle.survey.specs.declared.steps.Doubles as doubles_of
use Rattle.survey.specs.declared.steps.Turn as turn_of
use Rattle.survey.specs.declared.phase.Phase.{Phase}
use Rattle.survey.specs.declared.phase.Phase as phase
use Rattle.survey.specs.declared.state.State.{State}

-- the line at fault, if there is one
abbrev pub found : faults.Option ℕ → Option ℕ
found faults.TheVariants.None = none
found (faults.TheVariants.Some n) = some n

-- the first of two faults
abbrev pub earlier : Option ℕ → Option ℕ → Option ℕ
earlier none b = b
earlier (some a) b = some a

-- ── 7 ───────────────────────────────────────────────────────────────────────────────────────

-- x is the first of the points that are left
abbrev pub is_next : List Point → Point → Bool
is_next [] x = false
is_next (u ∷ us) x = same_point u x

-- 2, 3, 5, 7 and so on
abbrev pub multiple_at : ℕ → ℕ
multiple_at zero = 2
multiple_at (suc n) = 3 + 2 * n

-- one T line more
pub record TableTaken (plan : Plan) (s : tables_of.Tables) (t : point_type.Point) (line : ℕ) (r : tables_of.Tables) : Type 0 where
  pub count : r.count ≡ s.count + 1
  pub rest : (x : Point) → t ≡ coded_point x → (ts : List Point)
      → earlier (found r.fault) (differs (line + 1) (drop r.count (tables plan)) ts) ≡ earlier (found s.fault) (differs line (drop s.count (tables plan)) (x ∷ ts))

-- no T line more
pub record TablesClosed (plan : Plan) (s : tables_of.Tables) (line : ℕ) (r : tables_of.Tables) : Type 0 where
  pub count : r.count ≡ s.count
  pub rest : found r.fault ≡ earlier (found s.fault) (differs line (drop s.count (tables plan)) [])

-- what a T line counts for
pub record TableCounts (x : Point) (r : Counts-of.Counts) : Type 0 where
  pub additions : (ls : List spec.Line) → r.additions + additions ls ≡ additions (table x ∷ ls)
  pub doublings : (ls : List spec.Line) → r.doublings + doublings ls ≡ doublings (table x ∷ ls)

-- ── 8 ───────────────────────────────────────────────────────────────────────────────────────

-- a digit of this size is odd and within the window m
abbrev pub is_odd : ℕ → ℕ → Bool
is_odd m n = eqb (n % 2) 1 && leb n m

-- the number of a turn
abbrev pub rank : turn_of.Turn → ℕ
rank turn_of.TheVariants.None = 0
rank turn_of.TheVariants.First = 1
rank turn_of.TheVariants.Last = 2

-- the turn of a step by the sizes of its digits
abbrev pub joint_turn : ℕ → ℕ → ℕ
joint_turn p q = cond (leb p 1 && leb q 1 && not (eqb p 0 && eqb q 0)) 2 0

abbrev pub window_turn : ℕ → ℕ → ℕ → ℕ → ℕ
window_turn m1 m2 p q = cond (is_odd m1 p && eqb q 0) 1 (cond (eqb p 0 && is_odd m2 q) 2 0)

-- one step more, an L or an A
pub record StepTaken (plan : Plan) (s : steps_of.Steps) (t : point_type.Point) (line : ℕ) (r : steps_of.Steps) : Type 0 where
  pub loaded : (x : Point) → t ≡ coded_point x → (ls : List spec.Line)
      → earlier (found r.fault) (disallowed_from plan (rank r.turn) (line + 1) ls) ≡ earlier (found s.fault) (disallowed_from plan (rank s.turn) line (load x ∷ ls))
  pub added : (x : Point) → t ≡ coded_point x → (ls : List spec.Line)
      → earlier (found r.fault) (disallowed_from plan (rank r.turn) (line + 1) ls) ≡ earlier (found s.fault) (disallowed_from plan (rank s.turn) line (add x ∷ ls))

-- ── 9 ───────────────────────────────────────────────────────────────────────────────────────

-- one D line more
pub record DoubleTaken (s : doubles_of.Doubles) (line : ℕ) (r : doubles_of.Doubles) : Type 0 where
  pub rest : (ls : List spec.Line)
      → earlier (found r.fault) (excess_from r.left (line + 1) ls) ≡ earlier (found s.fault) (excess_from s.left line (double ∷ ls))

-- ── the state ───────────────────────────────────────────────────────────────────────────────

-- the plan that a header names, and whether its windows and slots are right
abbrev pub plan_for : header_of.Header → Plan
plan_for h = plan_of (kind_of h.kind) h.m1 h.m2

abbrev pub is_on_plan : header_of.Header → Bool
is_on_plan h = windowed (kind_of h.kind) h.m1 h.m2 && eqb h.slots (slots (plan_for h))

-- the D lines that a plan and a header's doublings leave: 0 where they are negative or more than `most`
abbrev pub claimed_of : ℕ → Plan → ℕ → ℕ
claimed_of most plan n = cond (leb (n - table_doublings plan) most) (n - table_doublings plan) 0

abbrev pub claimed : Limits → header_of.Header → ℕ
claimed limits h = claimed_of limits.doublings (plan_for h) h.doublings

abbrev pub claimed_by : Limits → spec.Header → ℕ
claimed_by limits h = claimed_of limits.doublings (spec.plan h) h.doublings

-- the lines that may stand next
abbrev pub is_behind_header : Line → Bool
is_behind_header (Table t) = true
is_behind_header (Load t) = true
is_behind_header Double = false
is_behind_header (Add t) = false
is_behind_header End = true
is_behind_header Other = false

abbrev pub is_behind_load : Line → Bool
is_behind_load (Table t) = false
is_behind_load (Load t) = false
is_behind_load Double = true
is_behind_load (Add t) = true
is_behind_load End = true
is_behind_load Other = false

abbrev pub is_placed : Phase → Line → Bool
is_placed phase.TheVariants.Tables l = is_behind_header l
is_placed phase.TheVariants.Steps l = is_behind_load l
is_placed phase.TheVariants.Ended l = false

-- question 6 to the lines from here on
abbrev pub placed_in : Phase → ℕ → List spec.Line → Option ℕ
placed_in phase.TheVariants.Tables n ls = after_header n ls
placed_in phase.TheVariants.Steps n ls = after_load n ls
placed_in phase.TheVariants.Ended n ls = after_end n ls

abbrev pub misplaced_from : State → List spec.Line → Option ℕ
misplaced_from s ls = placed_in s.phase s.line ls

-- question 7: the T lines that are left, while there can be any
abbrev pub differs_in : Phase → ℕ → List Point → List spec.Line → Option ℕ
differs_in phase.TheVariants.Tables n us ls = differs n us (table_lines ls)
differs_in phase.TheVariants.Steps n us ls = none
differs_in phase.TheVariants.Ended n us ls = none

abbrev pub off_plan_from : Plan → State → List spec.Line → Option ℕ
off_plan_from plan s ls =
    earlier (found s.tables.fault) (differs_in s.phase s.line (drop s.tables.count (tables plan)) ls)

-- question 8
abbrev pub disallowed_in : Plan → State → List spec.Line → Option ℕ
disallowed_in plan s ls = earlier (found s.steps.fault) (disallowed_from plan (rank s.steps.turn) s.line ls)

-- question 9
abbrev pub excess_in : State → List spec.Line → Option ℕ
excess_in s ls = earlier (found s.doubles.fault) (excess_from s.doubles.left s.line ls)

-- the counts are at most those of the lines, of which a sheet has few
pub record Counted (s : State) : Type 0 where
  pub few : s.line ≤ 100000
  pub tables : s.tables.count ≤ s.line
  pub additions : s.additions ≤ s.line
  pub doublings : s.doublings ≤ s.line

-- what the state r says of the lines ls is what the state s says of l and ls
pub record Follows (plan : Plan) (s : State) (l : spec.Line) (r : State) : Type 0 where
  pub line : r.line ≡ s.line + 1
  pub tables : r.tables.count ≤ s.tables.count + 1
  pub adds : r.additions ≤ s.additions + 1
  pub doubles : r.doublings ≤ s.doublings + 1
  pub misplaced : (ls : List spec.Line) → misplaced_from r ls ≡ misplaced_from s (l ∷ ls)
  pub off_plan : (ls : List spec.Line) → off_plan_from plan r ls ≡ off_plan_from plan s (l ∷ ls)
  pub disallowed : (ls : List spec.Line) → disallowed_in plan r ls ≡ disallowed_in plan s (l ∷ ls)
  pub excess : (ls : List spec.Line) → excess_in r ls ≡ excess_in s (l ∷ ls)
  pub additions : (ls : List spec.Line) → r.additions + additions ls ≡ s.additions + additions (l ∷ ls)
  pub doublings : (ls : List spec.Line) → r.doublings + doublings ls ≡ s.doublings + doublings (l ∷ ls)
  pub places : r.places ≡ places_after s.places l

-- the state r behind the header
pub record Behind (limits : Limits) (h : spec.Header) (r : State) : Type 0 where
  pub line : r.line ≡ 2
  pub counted : Counted r
  pub misplaced : (ls : List spec.Line) → misplaced_from r ls ≡ misplaced (header h ∷ ls)
  pub off_plan : (ls : List spec.Line) → off_plan_from (spec.plan h) r ls ≡ off_plan h (header h ∷ ls)
  pub disallowed : (ls : List spec.Line) → disallowed_in (spec.plan h) r ls ≡ disallowed (spec.plan h) (header h ∷ ls)
  pub excess : (ls : List spec.Line) → excess_in r ls ≡ excess limits (header h ∷ ls)
  pub additions : (ls : List spec.Line) → r.additions + additions ls ≡ additions (header h ∷ ls)
  pub doublings : (ls : List spec.Line) → r.doublings + doublings ls ≡ doublings (header h ∷ ls)
  pub places : r.places ≡ claimed_by limits h

abbrev pub Begins : Limits → header_of.Header → State → Type 0
Begins limits head r = (h : spec.Header) → head ≡ coded_header h → Behind limits h r

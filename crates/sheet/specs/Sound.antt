-- What an accepted sheet is, condition by condition.
use Rattle.std.specs.Prelude.{◌≡◌, not, List, [], ◌∷◌, ◌++◌, map, ℕ, suc, ◌%◌, ◌≤◌, ◌<◌, T, length, ℤ, pos, nat_abs}
use Rattle.digits.specs.declared.limits.Limits.{Limits}
use Rattle.digits.specs.Two.{blank}
use Rattle.sheet.specs.declared.Plan.{Plan}
use Rattle.sheet.specs.declared.Plan.TheVariants.{J, I}
use Rattle.sheet.specs.Plan.{Point, point, slots, tables}
use Rattle.digits.specs.Row.{widest}
use Rattle.sheet.specs.Line.{Kind, joint, interleaved, Header, plan, Line, header, table, load, double, add, end}
use Rattle.sheet.specs.Spelling.{lines}
use Rattle.sheet.specs.Questions.{additions, doublings, result}

-- what follows L: D and A lines
pub data Moves : Type 0 where
  stop : Moves
  doubled : Moves → Moves
  added : Point → Moves → Moves

-- the steps: either nothing, or one L followed by D and A lines
pub data Steps : Type 0 where
  nothing : Steps
  loaded : Point → Moves → Steps

-- the lines of moves
unfoldable pub move_lines : Moves → List Line
move_lines stop = []
move_lines (doubled ms) = double ∷ move_lines ms
move_lines (added t ms) = add t ∷ move_lines ms

-- the lines of steps
abbrev pub step_lines : Steps → List Line
step_lines nothing = []
step_lines (loaded t ms) = load t ∷ move_lines ms

-- how many of the moves are D lines
unfoldable pub move_doubles : Moves → ℕ
move_doubles stop = 0
move_doubles (doubled ms) = suc (move_doubles ms)
move_doubles (added t ms) = move_doubles ms

-- how many of the steps are D lines
abbrev pub step_doubles : Steps → ℕ
step_doubles nothing = 0
step_doubles (loaded t ms) = move_doubles ms

-- the order is S, the T lines, the steps, then E
unfoldable pub sheet_lines : Header → List Point → Steps → List Line
sheet_lines h ts steps = header h ∷ (map table ts ++ (step_lines steps ++ (end ∷ [])))

-- a window is odd, 1 to 31
pub record Window (m : ℕ) : Type 0 where
  pub odd : m % 2 ≡ 1
  pub within : m ≤ widest

-- the windows of a header; for J both are 1
pub data Windows : Kind → ℕ → ℕ → Type 0 where
  for_j : {m1 m2 : ℕ} → m1 ≡ 1 → m2 ≡ 1 → Windows joint m1 m2
  for_i : {m1 m2 : ℕ} → Window m1 → Window m2 → Windows interleaved m1 m2

-- t is a step of the plan, with its turn in a place
pub data Turn : Plan → ℕ → Point → Type 0 where
  -- in J a step has digits −1 to 1, not both 0
  for_both : {t : Point} → nat_abs t.p ≤ 1 → nat_abs t.q ≤ 1 → T (not (blank t)) → Turn J 2 t
  -- in I a step has one odd digit within its window and the other 0: first one for P, then one for Q
  for_p : {m1 m2 : ℕ} {t : Point} → nat_abs t.p % 2 ≡ 1 → nat_abs t.p ≤ m1 → t.q ≡ pos 0 → Turn (I m1 m2) 1 t
  for_q : {m1 m2 : ℕ} {t : Point} → t.p ≡ pos 0 → nat_abs t.q % 2 ≡ 1 → nat_abs t.q ≤ m2 → Turn (I m1 m2) 2 t

-- each step has a later turn than the one before it in its place; n is the turn of the last one, 0 where there is none
pub data AllowedMoves (p : Plan) : ℕ → Moves → Type 0 where
  stops : {n : ℕ} → AllowedMoves p n stop
  doubles : {n : ℕ} {ms : Moves} → AllowedMoves p 0 ms → AllowedMoves p n (doubled ms)
  adds : {n j : ℕ} {t : Point} {ms : Moves} → n < j → Turn p j t → AllowedMoves p j ms → AllowedMoves p n (added t ms)

-- L counts as a step of its place
pub data Allowed (p : Plan) : Steps → Type 0 where
  rests : Allowed p nothing
  loads : {j : ℕ} {t : Point} {ms : Moves} → Turn p j t → AllowedMoves p j ms → Allowed p (loaded t ms)

-- s is a sheet for k and l
pub record Sound (limits : Limits) (s : List ℕ) (k l : ℤ) : Type 0 where
  pub head : Header
  pub steps : Steps
  -- it is at most as long as a sheet may be
  pub short : length s ≤ limits.sheet
  -- each line is spelled and placed, and the T lines are the plan's
  pub laid : lines limits s ≡ sheet_lines head (tables (plan head)) steps
  -- the windows are odd, 1 to 31, and for J both 1
  pub windows : Windows head.kind head.m1 head.m2
  -- the slots are the plan's
  pub stored : head.slots ≡ slots (plan head)
  -- each step is allowed by the plan
  pub allowed : Allowed (plan head) steps
  -- there are no more D lines than the limits allow
  pub low : step_doubles steps ≤ limits.doublings
  -- both counts are true
  pub adds : head.additions ≡ additions (lines limits s)
  pub doubles : head.doublings ≡ doublings (lines limits s)
  -- the header carries k and l
  pub carries_k : head.k ≡ k
  pub carries_l : head.l ≡ l
  -- the steps come to kP + lQ
  pub reads : result (lines limits s) ≡ point k l

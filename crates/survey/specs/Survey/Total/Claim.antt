-- A header that tells the truth claims the D lines of its sheet, and with so many places to come the steps add up to the result.
use Rattle.std.specs.Prelude.{◌≡◌, refl, List, [], ◌∷◌, ◌++◌, map, ℕ, zero, suc, ◌+◌, ◌-◌, ◌*◌, ◌^◌, ◌≤◌, ℤ, pos, ◌+ℤ◌, ◌*ℤ◌}
use Rattle.std.proofs.Common.{sym, ap, ◌∙◌, pow-suc, arith, le-leb}
use Rattle.std.proofs.Math.Option.{none}
use Rattle.digits.specs.declared.limits.Limits.{Limits}
use Rattle.digits.specs.Integer.{up, down}
use Rattle.digits.specs.Integer.Parts.{integers, sum, times}
use Rattle.digits.specs.Two.{Two, P, Q, digit}
use Rattle.sheet.specs.Plan.{Point, point, tables, table_doublings}
use Rattle.sheet.proofs.Laws.Plan.Cost.{doublings_append, tables_doublings}
use Rattle.sheet.specs.Line.{Header, Line, plan, header, table, end}
use Rattle.sheet.specs.Questions.{misplaced, off_plan, excess, excess_from, doublings, plus, held, result}
use Rattle.sheet.specs.Questions.Placed.{laid_out, LaidOut, fault}
use Rattle.sheet.specs.Questions.Planned.{planned_of}
use Rattle.sheet.specs.Sound.{Moves, stop, doubled, added, Steps, nothing, loaded, move_lines, step_lines, move_doubles, step_doubles, sheet_lines}
use Rattle.survey.specs.Survey.State.{claimed_by}
use Rattle.survey.specs.Survey.Total.{total}

-- ── the steps add up ────────────────────────────────────────────────────────────────────────

digit_plus : (r : Two) (s t : Point) → digit (plus s t) r ≡ digit s r +ℤ digit t r
digit_plus P s t = refl
digit_plus Q s t = refl

-- 2^n times a number, and more
module _ (n : ℕ) (a b : ℤ) where
  times_plus : pos (2 ^ n) *ℤ a +ℤ pos (2 ^ n) *ℤ b ≡ pos (2 ^ n) *ℤ (a +ℤ b)
  times_plus =
      omega (integers, sum (pos (2 ^ n) *ℤ a) (pos (2 ^ n) *ℤ b), times (2 ^ n) a, times (2 ^ n) b, times (2 ^ n) (a +ℤ b), ap (λ (m : ℕ). 2 ^ n * m) (sum a b))

  times_twice : pos (2 ^ suc n) *ℤ a ≡ pos (2 ^ n) *ℤ (a +ℤ a)
  times_twice =
      omega (integers, times (2 ^ suc n) a, times (2 ^ n) (a +ℤ a), ap (λ (m : ℕ). 2 ^ n * m) (sum a a), ap (λ (m : ℕ). m * up a) (pow-suc 2 n), ap (λ (m : ℕ). m * down a) (pow-suc 2 n))

times_one : (a : ℤ) → pos (2 ^ 0) *ℤ a ≡ a
times_one a = omega (integers, times (2 ^ 0) a)

-- with x so far, of which the D lines to come make 2^n times as much
moves_total : (r : Two) (ms : Moves) (x : Point) → total r (move_doubles ms) (pos (2 ^ move_doubles ms) *ℤ digit x r) (move_lines ms ++ (end ∷ [])) ≡ digit (held x (move_lines ms ++ (end ∷ []))) r
unfolding total held move_lines move_doubles
moves_total r stop x = times_one (digit x r)
moves_total r (doubled ms) x =
    let n = move_doubles ms in
    let less : suc n - 1 ≡ n = omega arith in
    ap (λ (k : ℕ). total r k (pos (2 ^ suc n) *ℤ digit x r) (move_lines ms ++ (end ∷ []))) less
    ∙ ap (λ (z : ℤ). total r n z (move_lines ms ++ (end ∷ []))) (times_twice n (digit x r) (digit x r) ∙ ap (λ (z : ℤ). pos (2 ^ n) *ℤ z) (sym (digit_plus r x x)))
    ∙ moves_total r ms (plus x x)
moves_total r (added t ms) x =
    let n = move_doubles ms in
    ap (λ (z : ℤ). total r n z (move_lines ms ++ (end ∷ []))) (times_plus n (digit x r) (digit t r) ∙ ap (λ (z : ℤ). pos (2 ^ n) *ℤ z) (sym (digit_plus r x t)))
    ∙ moves_total r ms (plus x t)

none_plus : (z : ℤ) → pos 0 +ℤ z ≡ z
none_plus z = omega (integers, sum (pos 0) z)

zero_digit : (r : Two) → digit (point (pos 0) (pos 0)) r ≡ pos 0
zero_digit P = refl
zero_digit Q = refl

sheet_total : (r : Two) (ts : List Point) (st : Steps)
    → total r (step_doubles st) (pos 0) (map table ts ++ (step_lines st ++ (end ∷ []))) ≡ digit (held (point (pos 0) (pos 0)) (map table ts ++ (step_lines st ++ (end ∷ [])))) r
unfolding total held
sheet_total r [] nothing = sym (zero_digit r)
sheet_total r [] (loaded t ms) =
    ap (λ (z : ℤ). total r (move_doubles ms) z (move_lines ms ++ (end ∷ []))) (none_plus (pos (2 ^ move_doubles ms) *ℤ digit t r)) ∙ moves_total r ms t
sheet_total r (t ∷ ts) st = sheet_total r ts st

lines_total : (r : Two) (h : Header) (ts : List Point) (st : Steps) → total r (step_doubles st) (pos 0) (sheet_lines h ts st) ≡ digit (result (sheet_lines h ts st)) r
unfolding total held result sheet_lines
lines_total r h ts st = sheet_total r ts st

-- ── the claim ───────────────────────────────────────────────────────────────────────────────

moves_doublings : (ms : Moves) → doublings (move_lines ms ++ (end ∷ [])) ≡ move_doubles ms
unfolding doublings move_lines move_doubles
moves_doublings stop = refl
moves_doublings (doubled ms) = omega (arith, moves_doublings ms)
moves_doublings (added t ms) = moves_doublings ms

steps_doublings : (st : Steps) → doublings (step_lines st ++ (end ∷ [])) ≡ step_doubles st
unfolding doublings
steps_doublings nothing = refl
steps_doublings (loaded t ms) = moves_doublings ms

lines_doublings : (h : Header) (ts : List Point) (st : Steps) → doublings (sheet_lines h ts st) ≡ doublings (map table ts) + step_doubles st
unfolding doublings sheet_lines
lines_doublings h ts st = doublings_append (map table ts) (step_lines st ++ (end ∷ [])) ∙ ap (λ (n : ℕ). doublings (map table ts) + n) (steps_doublings st)

-- no D line beyond those that are left
moves_few : (left n : ℕ) (ms : Moves) → excess_from left n (move_lines ms ++ (end ∷ [])) ≡ none → move_doubles ms ≤ left
unfolding excess_from move_lines move_doubles
moves_few left n stop e = omega arith
moves_few zero n (doubled ms) e = absurd (fault e)
moves_few (suc left) n (doubled ms) e = omega (arith, moves_few left (suc n) ms e)
moves_few zero n (added t ms) e = moves_few zero (suc n) ms e
moves_few (suc left) n (added t ms) e = moves_few (suc left) (suc n) ms e

steps_few : (left n : ℕ) (ts : List Point) (st : Steps) → excess_from left n (map table ts ++ (step_lines st ++ (end ∷ []))) ≡ none → step_doubles st ≤ left
unfolding excess_from
steps_few left n [] nothing e = omega arith
steps_few zero n [] (loaded t ms) e = moves_few zero (suc n) ms e
steps_few (suc left) n [] (loaded t ms) e = moves_few (suc left) (suc n) ms e
steps_few zero n (t ∷ ts) st e = steps_few zero (suc n) ts st e
steps_few (suc left) n (t ∷ ts) st e = steps_few (suc left) (suc n) ts st e

lines_few : (limits : Limits) (h : Header) (ts : List Point) (st : Steps) → excess limits (sheet_lines h ts st) ≡ none → step_doubles st ≤ limits.doublings
unfolding excess excess_from sheet_lines
lines_few limits h ts st e = behind_header limits.doublings e
  where
    behind_header : (left : ℕ) → excess_from left 1 (header h ∷ (map table ts ++ (step_lines st ++ (end ∷ [])))) ≡ none → step_doubles st ≤ left
    behind_header zero f = steps_few zero 2 ts st f
    behind_header (suc left) f = steps_few (suc left) 2 ts st f

-- the header's doublings less those of the table are the D lines
module _ (limits : Limits) (h : Header) (st : Steps) (d : h.doublings ≡ doublings (sheet_lines h (tables (plan h)) st)) (few : step_doubles st ≤ limits.doublings) where
  claim_is : claimed_by limits h ≡ step_doubles st
  claim_is =
      let n : h.doublings - table_doublings (plan h) ≡ step_doubles st = omega (arith, d, lines_doublings h (tables (plan h)) st, tables_doublings (plan h)) in
      rw (n, le-leb (step_doubles st) limits.doublings few)

same_head : (h g : Header) (rest : List Line) (ts : List Point) (st : Steps) → header h ∷ rest ≡ sheet_lines g ts st → h ≡ g
unfolding sheet_lines
same_head h g rest ts st e = cc

pub claim_true : (limits : Limits) (ls : List Line) (h : Header) (rest : List Line) → ls ≡ header h ∷ rest → misplaced ls ≡ none → off_plan h ls ≡ none → excess limits ls ≡ none → h.doublings ≡ doublings ls
    → (r : Two) → total r (claimed_by limits h) (pos 0) ls ≡ digit (result ls) r
claim_true limits ls h rest i m o x d r =
    let l : LaidOut ls = laid_out ls m in
    let st = l.steps in
    let hd : h ≡ l.head = same_head h l.head rest l.points st (sym i ∙ l.laid) in
    let laid : ls ≡ sheet_lines h l.points st = l.laid ∙ ap (λ (g : Header). sheet_lines g l.points st) (sym hd) in
    let pl = planned_of h l.points st (sym (ap (off_plan h) laid) ∙ o) in
    let all : ls ≡ sheet_lines h (tables (plan h)) st = laid ∙ ap (λ (ts : List Point). sheet_lines h ts st) (sym pl.same) in
    let few = lines_few limits h (tables (plan h)) st (sym (ap (excess limits) all) ∙ x) in
    ap (λ (k : ℕ). total r k (pos 0) ls) (claim_is limits h st (d ∙ ap doublings all) few)
    ∙ ap (total r (step_doubles st) (pos 0)) all
    ∙ lines_total r h (tables (plan h)) st
    ∙ ap (λ (k : List Line). digit (result k) r) (sym all)

-- The steps are allowed by the plan, and few enough are D lines, exactly when no line is at fault. Assumes nothing.
use Rattle.std.specs.Prelude.{◌≡◌, Bool, true, false, not, ◌&&◌, cond, ℕ, zero, suc, ◌%◌, ◌≤◌, ◌<◌, T, eqb, leb, ltb, ℤ, pos, negsuc, nat_abs}
use Rattle.std.proofs.Math.Path.{refl}
use Rattle.std.proofs.Common.{sym, ◌∙◌, arith}
use Rattle.std.proofs.Math.Bool.{and-eq-true_iff}
use Rattle.std.proofs.lemmas.Bool.{false≢true}
use mathlib.Core.List.{List, [], ◌∷◌, ◌++◌, map}
use Rattle.std.proofs.Math.Option.{none}
use borrow.Author.Tests.{eq-eqb, eqb-true, le-leb, leb-true, lt-ltb, ltb-true}
use Rattle.digits.specs.declared.limits.Limits.{Limits}
use Rattle.digits.specs.Two.{is_zero, blank}
use Rattle.sheet.specs.declared.Plan.{Plan}
use Rattle.sheet.specs.declared.Plan.TheVariants.{J, I}
use Rattle.sheet.specs.Plan.{Point}
use Rattle.sheet.specs.Line.{Header, Line, table, end}
use Rattle.sheet.specs.Questions.{is_digit, is_column, turn, disallowed_from, disallowed, excess_from, excess}
use Rattle.sheet.specs.Sound.{Moves, stop, doubled, added, Steps, nothing, loaded, move_lines, step_lines, move_doubles, step_doubles, sheet_lines, Turn, for_both, for_p, for_q, AllowedMoves, stops, doubles, adds, Allowed, rests, loads}
use Rattle.sheet.specs.Questions.Placed.{fault, held_none}

-- ── 8: the steps ────────────────────────────────────────────────────────────────────────────

so : (b : Bool) → b ≡ true → T b
so true e = tt
so false e = false≢true e

os : (b : Bool) → T b → b ≡ true
os true t = refl
os false t = absurd t

zero_of : (z : ℤ) → is_zero z ≡ true → z ≡ pos 0
zero_of (pos zero) e = refl
zero_of (pos (suc n)) e = absurd (false≢true e)
zero_of (negsuc n) e = absurd (false≢true e)

module _ (m : ℕ) (d : ℤ) where
  digit_of : is_digit m d ≡ true → (nat_abs d % 2 ≡ 1) × (nat_abs d ≤ m)
  digit_of e =
      let (a, b) = (and-eq-true_iff (eqb (nat_abs d % 2) 1) (leb (nat_abs d) m)).0 e in
      (eqb-true (nat_abs d % 2) 1 a, leb-true (nat_abs d) m b)

  of_digit : nat_abs d % 2 ≡ 1 → nat_abs d ≤ m → is_digit m d ≡ true
  of_digit a b = rw (eq-eqb (nat_abs d % 2) 1 a, le-leb (nat_abs d) m b)

turn_of : (p : Plan) (t : Point) → 0 < turn p t → Turn p (turn p t) t
turn_of J t h = go (is_column t) refl h
  where
    go : (b : Bool) → is_column t ≡ b → 0 < cond b 2 0 → Turn J (cond b 2 0) t
    go true e l =
        let (ab, c) = (and-eq-true_iff (leb (nat_abs t.p) 1 && leb (nat_abs t.q) 1) (not (blank t))).0 e in
        let (a, b) = (and-eq-true_iff (leb (nat_abs t.p) 1) (leb (nat_abs t.q) 1)).0 ab in
        for_both (leb-true (nat_abs t.p) 1 a) (leb-true (nat_abs t.q) 1 b) (so (not (blank t)) c)
    go false e l = absurd (omega arith)
turn_of (I m1 m2) t h = go_p (is_digit m1 t.p && is_zero t.q) refl h
  where
    go_q : (b : Bool) → (is_zero t.p && is_digit m2 t.q) ≡ b → 0 < cond b 2 0 → Turn (I m1 m2) (cond b 2 0) t
    go_q true e l =
        let (a, b) = (and-eq-true_iff (is_zero t.p) (is_digit m2 t.q)).0 e in
        let (c, d) = digit_of m2 t.q b in
        for_q (zero_of t.p a) c d
    go_q false e l = absurd (omega arith)

    go_p : (b : Bool) → (is_digit m1 t.p && is_zero t.q) ≡ b → 0 < cond b 1 (cond (is_zero t.p && is_digit m2 t.q) 2 0)
        → Turn (I m1 m2) (cond b 1 (cond (is_zero t.p && is_digit m2 t.q) 2 0)) t
    go_p true e l =
        let (a, b) = (and-eq-true_iff (is_digit m1 t.p) (is_zero t.q)).0 e in
        let (c, d) = digit_of m1 t.p a in
        for_p c d (zero_of t.q b)
    go_p false e l = go_q (is_zero t.p && is_digit m2 t.q) refl l

of_turn : {p : Plan} {j : ℕ} {t : Point} → Turn p j t → turn p t ≡ j
of_turn (for_both {t} a b c) = rw (le-leb (nat_abs t.p) 1 a, le-leb (nat_abs t.q) 1 b, os (not (blank t)) c)
of_turn (for_p {m1} {m2} {t} a b c) = rw (of_digit m1 t.p a b, c)
of_turn (for_q {m1} {m2} {t} a b c) = rw (of_digit m2 t.q b c, a)

pub turn_positive : {p : Plan} {j : ℕ} {t : Point} → Turn p j t → 0 < j
turn_positive (for_both a b c) = omega arith
turn_positive (for_p a b c) = omega arith
turn_positive (for_q a b c) = omega arith

-- the number of the line behind T lines that start at line i
unfoldable past : ℕ → List Point → ℕ
past i [] = i
past i (t ∷ ts) = past (suc i) ts

module _ (p : Plan) where
  moves_allowed : (n i : ℕ) (ms : Moves) → disallowed_from p n i (move_lines ms ++ (end ∷ [])) ≡ none → AllowedMoves p n ms
  unfolding disallowed_from move_lines
  moves_allowed n i stop e = stops
  moves_allowed n i (doubled ms) e = doubles (moves_allowed 0 (suc i) ms e)
  moves_allowed n i (added t ms) e =
      let (a, b) = held_none (ltb n (turn p t)) (disallowed_from p (turn p t) (suc i) (move_lines ms ++ (end ∷ []))) i e in
      let l : n < turn p t = ltb-true n (turn p t) a in
      adds l (turn_of p t (omega arith)) (moves_allowed (turn p t) (suc i) ms b)

  allowed_moves : {n : ℕ} {ms : Moves} → AllowedMoves p n ms → (i : ℕ) → disallowed_from p n i (move_lines ms ++ (end ∷ [])) ≡ none
  unfolding disallowed_from move_lines
  allowed_moves stops i = refl
  allowed_moves (doubles a) i = allowed_moves a (suc i)
  allowed_moves (adds {n} {j} {t} {ms} l u a) i = rw (of_turn u, lt-ltb n j l) (allowed_moves a (suc i))

  steps_allowed : (i : ℕ) (st : Steps) → disallowed_from p 0 i (step_lines st ++ (end ∷ [])) ≡ none → Allowed p st
  unfolding disallowed_from
  steps_allowed i nothing e = rests
  steps_allowed i (loaded t ms) e =
      let (a, b) = held_none (ltb 0 (turn p t)) (disallowed_from p (turn p t) (suc i) (move_lines ms ++ (end ∷ []))) i e in
      loads (turn_of p t (ltb-true 0 (turn p t) a)) (moves_allowed (turn p t) (suc i) ms b)

  allowed_steps : {st : Steps} → Allowed p st → (i : ℕ) → disallowed_from p 0 i (step_lines st ++ (end ∷ [])) ≡ none
  unfolding disallowed_from
  allowed_steps rests i = refl
  allowed_steps (loads {j} {t} {ms} u a) i = rw (of_turn u, lt-ltb 0 j (turn_positive u)) (allowed_moves a (suc i))

  -- the header and the T lines are no steps
  tables_allowed : (i : ℕ) (ts : List Point) (ls : List Line) → disallowed_from p 0 i (map table ts ++ ls) ≡ disallowed_from p 0 (past i ts) ls
  unfolding disallowed_from past
  tables_allowed i [] ls = refl
  tables_allowed i (t ∷ ts) ls = tables_allowed (suc i) ts ls

  pub sheet_allowed : (h : Header) (ts : List Point) (st : Steps) → disallowed p (sheet_lines h ts st) ≡ none → Allowed p st
  unfolding disallowed disallowed_from sheet_lines
  sheet_allowed h ts st e = steps_allowed (past 2 ts) st (sym (tables_allowed 2 ts (step_lines st ++ (end ∷ []))) ∙ e)

  pub allowed_sheet : (h : Header) (ts : List Point) (st : Steps) → Allowed p st → disallowed p (sheet_lines h ts st) ≡ none
  unfolding disallowed disallowed_from sheet_lines
  allowed_sheet h ts st a = tables_allowed 2 ts (step_lines st ++ (end ∷ [])) ∙ allowed_steps a (past 2 ts)

-- ── 9: the D lines ──────────────────────────────────────────────────────────────────────────

moves_low : (left i : ℕ) (ms : Moves) → excess_from left i (move_lines ms ++ (end ∷ [])) ≡ none → move_doubles ms ≤ left
unfolding excess_from move_lines move_doubles
moves_low left i stop e = omega arith
moves_low zero i (doubled ms) e = absurd (fault e)
moves_low (suc left) i (doubled ms) e = let h : move_doubles ms ≤ left = moves_low left (suc i) ms e in omega arith
moves_low left i (added t ms) e = moves_low left (suc i) ms e

low_moves : (left i : ℕ) (ms : Moves) → move_doubles ms ≤ left → excess_from left i (move_lines ms ++ (end ∷ [])) ≡ none
unfolding excess_from move_lines move_doubles
low_moves left i stop h = refl
low_moves zero i (doubled ms) h = absurd (omega arith)
low_moves (suc left) i (doubled ms) h = low_moves left (suc i) ms (omega arith)
low_moves left i (added t ms) h = low_moves left (suc i) ms h

tables_low : (left i : ℕ) (ts : List Point) (ls : List Line) → excess_from left i (map table ts ++ ls) ≡ excess_from left (past i ts) ls
unfolding excess_from past
tables_low left i [] ls = refl
tables_low left i (t ∷ ts) ls = tables_low left (suc i) ts ls

steps_low : (left i : ℕ) (st : Steps) → excess_from left i (step_lines st ++ (end ∷ [])) ≡ none → step_doubles st ≤ left
unfolding excess_from
steps_low left i nothing e = omega arith
steps_low left i (loaded t ms) e = moves_low left (suc i) ms e

low_steps : (left i : ℕ) (st : Steps) → step_doubles st ≤ left → excess_from left i (step_lines st ++ (end ∷ [])) ≡ none
unfolding excess_from
low_steps left i nothing h = refl
low_steps left i (loaded t ms) h = low_moves left (suc i) ms h

module _ (limits : Limits) (h : Header) (ts : List Point) (st : Steps) where
  pub sheet_low : excess limits (sheet_lines h ts st) ≡ none → step_doubles st ≤ limits.doublings
  unfolding excess excess_from sheet_lines
  sheet_low e = steps_low limits.doublings (past 2 ts) st (sym (tables_low limits.doublings 2 ts (step_lines st ++ (end ∷ []))) ∙ e)

  pub low_sheet : step_doubles st ≤ limits.doublings → excess limits (sheet_lines h ts st) ≡ none
  unfolding excess excess_from sheet_lines
  low_sheet l = tables_low limits.doublings 2 ts (step_lines st ++ (end ∷ [])) ∙ low_steps limits.doublings (past 2 ts) st l

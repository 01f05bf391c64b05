-- A line that the reader names is at most one past the last, and a sheet has no more lines than bytes.
use Rattle.std.specs.Prelude.{◌≡◌, refl, Bool, ◌&&◌, cond, leb, ltb}
use Rattle.std.proofs.Common.{sym, leb-true}
use Rattle.std.proofs.Math.Bool.{true, false}
use mathlib.Core.List.{List, [], ◌∷◌}
use Rattle.std.proofs.Math.Option.{Option, none, some}
use Prim.Native.Nat.{ℕ, zero, suc, ◌+◌, ◌≤◌}
use native.Mathlib.Omega.{arith}
use Rattle.std.proofs.Math.Dec.{eqb}
use Rattle.std.proofs.Math.ListN.{length}
use Rattle.digits.specs.declared.limits.Limits.{Limits}
use Rattle.sheet.specs.declared.Plan.{Plan}
use Rattle.sheet.specs.Answer.{Answer, ask, heading, judged, answer}
use Rattle.sheet.specs.Line.{Header, plan, Line, header, table, load, double, add, end, misspelled}
use Rattle.sheet.specs.Plan.{Point, point, slots, tables}
use Rattle.sheet.specs.Questions.{unless, too_long, after_end, after_load, after_header, misplaced, windowed, table_lines, same_point, differs, off_plan, turn, disallowed_from, disallowed, excess_from, excess, additions, doublings, miscounted, result, wrong}
use Rattle.sheet.specs.Spelling.{line_feed, push, cut, read_lines, lines}
use Rattle.host.specs.Told.{line}

-- ── a sheet has no more lines than bytes ────────────────────────────────────────────────────

module _ (limits : Limits) where
  -- a byte more in the first part
  push_lines : (c : ℕ) (ps : List (List ℕ)) → length (read_lines limits (push c ps)) ≤ suc (length (read_lines limits ps))
  unfolding read_lines
  push_lines c [] = omega arith
  push_lines c ([] ∷ []) = omega arith
  push_lines c ((d ∷ s) ∷ []) = omega arith
  push_lines c (s ∷ t ∷ ss) = omega arith

  -- a line feed more in front
  feed_lines : (ps : List (List ℕ)) → length (read_lines limits ([] ∷ ps)) ≤ suc (length (read_lines limits ps))
  unfolding read_lines
  feed_lines [] = omega arith
  feed_lines (t ∷ ss) = omega arith

  cut_lines : (s : List ℕ) → length (read_lines limits (cut line_feed s)) ≤ length s
  unfolding cut read_lines
  cut_lines [] = omega arith
  cut_lines (c ∷ s) = go (eqb c line_feed) (cut_lines s)
    where
      go : (b : Bool) → length (read_lines limits (cut line_feed s)) ≤ length s
          → length (read_lines limits (cond b ([] ∷ cut line_feed s) (push c (cut line_feed s)))) ≤ suc (length s)
      go true h = omega (arith, feed_lines (cut line_feed s))
      go false h = omega (arith, push_lines c (cut line_feed s))

  pub lines_few : (s : List ℕ) → length (lines limits s) ≤ length s
  unfolding lines
  lines_few s = cut_lines s

-- ── each question's line, with n for the number of the first line ───────────────────────────

-- the line at fault, if there is one, is at most m
abbrev Within : ℕ → Option ℕ → Type 0
Within m none = Unit {0}
Within m (some n) = n ≤ m

module _ (m : ℕ) where
  chosen : (b : Bool) (x y : Option ℕ) → Within m x → Within m y → Within m (cond b x y)
  chosen true x y h g = h
  chosen false x y h g = g

  unless_within : (b : Bool) (n : ℕ) → n ≤ m → Within m (unless b n)
  unless_within true n h = tt
  unless_within false n h = h

  end_within : (n : ℕ) (ls : List Line) → n ≤ m → Within m (after_end n ls)
  end_within n [] h = tt
  end_within n (l ∷ ls) h = h

  load_within : (n : ℕ) (ls : List Line) → n + length ls ≤ m → Within m (after_load n ls)
  unfolding after_load
  load_within n (double ∷ ls) h = load_within (suc n) ls (omega arith)
  load_within n (add t ∷ ls) h = load_within (suc n) ls (omega arith)
  load_within n (end ∷ ls) h = end_within (suc n) ls (omega arith)
  load_within n (header x ∷ ls) h = omega arith
  load_within n (table t ∷ ls) h = omega arith
  load_within n (load t ∷ ls) h = omega arith
  load_within n (misspelled ∷ ls) h = omega arith
  load_within n [] h = omega arith

  header_within : (n : ℕ) (ls : List Line) → n + length ls ≤ m → Within m (after_header n ls)
  unfolding after_header
  header_within n (table t ∷ ls) h = header_within (suc n) ls (omega arith)
  header_within n (load t ∷ ls) h = load_within (suc n) ls (omega arith)
  header_within n (end ∷ ls) h = end_within (suc n) ls (omega arith)
  header_within n (header x ∷ ls) h = omega arith
  header_within n (double ∷ ls) h = omega arith
  header_within n (add t ∷ ls) h = omega arith
  header_within n (misspelled ∷ ls) h = omega arith
  header_within n [] h = omega arith

  differs_within : (n : ℕ) (us ts : List Point) → n + length ts ≤ m → Within m (differs n us ts)
  unfolding differs
  differs_within n [] [] h = tt
  differs_within n [] (t ∷ ts) h = omega arith
  differs_within n (u ∷ us) [] h = omega arith
  differs_within n (u ∷ us) (t ∷ ts) h = chosen (same_point u t) (differs (suc n) us ts) (some n) (differs_within (suc n) us ts (omega arith)) (omega arith)

  disallowed_within : (p : Plan) (before n : ℕ) (ls : List Line) → n + length ls ≤ m → Within m (disallowed_from p before n ls)
  unfolding disallowed_from
  disallowed_within p before n (load t ∷ ls) h =
      chosen (ltb before (turn p t)) (disallowed_from p (turn p t) (suc n) ls) (some n) (disallowed_within p (turn p t) (suc n) ls (omega arith)) (omega arith)
  disallowed_within p before n (add t ∷ ls) h =
      chosen (ltb before (turn p t)) (disallowed_from p (turn p t) (suc n) ls) (some n) (disallowed_within p (turn p t) (suc n) ls (omega arith)) (omega arith)
  disallowed_within p before n (double ∷ ls) h = disallowed_within p 0 (suc n) ls (omega arith)
  disallowed_within p before n (header x ∷ ls) h = disallowed_within p before (suc n) ls (omega arith)
  disallowed_within p before n (table t ∷ ls) h = disallowed_within p before (suc n) ls (omega arith)
  disallowed_within p before n (end ∷ ls) h = disallowed_within p before (suc n) ls (omega arith)
  disallowed_within p before n (misspelled ∷ ls) h = disallowed_within p before (suc n) ls (omega arith)
  disallowed_within p before n [] h = tt

  excess_within : (left n : ℕ) (ls : List Line) → n + length ls ≤ m → Within m (excess_from left n ls)
  unfolding excess_from
  excess_within zero n (double ∷ ls) h = omega arith
  excess_within (suc left) n (double ∷ ls) h = excess_within left (suc n) ls (omega arith)
  excess_within left n (header x ∷ ls) h = excess_within left (suc n) ls (omega arith)
  excess_within left n (table t ∷ ls) h = excess_within left (suc n) ls (omega arith)
  excess_within left n (load t ∷ ls) h = excess_within left (suc n) ls (omega arith)
  excess_within left n (add t ∷ ls) h = excess_within left (suc n) ls (omega arith)
  excess_within left n (end ∷ ls) h = excess_within left (suc n) ls (omega arith)
  excess_within left n (misspelled ∷ ls) h = excess_within left (suc n) ls (omega arith)
  excess_within left n [] h = tt

  counts_within : (h : Header) (ls : List Line) → 1 ≤ m → Within m (miscounted h ls)
  unfolding miscounted
  counts_within h ls g = unless_within (eqb h.additions (additions ls) && eqb h.doublings (doublings ls)) 1 g

  result_within : (h : Header) (ls : List Line) → 1 ≤ m → Within m (wrong h ls)
  unfolding wrong
  result_within h ls g = unless_within (same_point (result ls) (point h.k h.l)) 1 g

  ask_within : (q : ℕ) (x : Option ℕ) (next : Answer) → Within m x → line next ≤ m → line (ask q x next) ≤ m
  ask_within q none next h g = g
  ask_within q (some n) next h g = h

tables_few : (ls : List Line) → length (table_lines ls) ≤ length ls
unfolding table_lines
tables_few (header h ∷ ls) = omega (arith, tables_few ls)
tables_few (table t ∷ ls) = omega (arith, tables_few ls)
tables_few (load t ∷ ls) = omega arith
tables_few (double ∷ ls) = omega arith
tables_few (add t ∷ ls) = omega arith
tables_few (end ∷ ls) = omega arith
tables_few (misspelled ∷ ls) = omega arith
tables_few [] = omega arith

plan_within : (m : ℕ) (h x : Header) (ls : List Line) → length ls + 2 ≤ m → Within m (off_plan h (header x ∷ ls))
unfolding off_plan table_lines
plan_within m h x ls g =
    chosen m (windowed h.kind h.m1 h.m2 && eqb h.slots (slots (plan h))) (differs 2 (tables (plan h)) (table_lines ls)) (some 1)
    (differs_within m 2 (tables (plan h)) (table_lines ls) (omega (arith, tables_few ls))) (omega arith)

-- ── the reader's line ───────────────────────────────────────────────────────────────────────

module _ (limits : Limits) (h : Header) where
  -- where the header comes first
  headed : (x : Header) (ls : List Line) → line (judged limits h (header x ∷ ls)) ≤ length ls + 2
  unfolding judged misplaced disallowed excess
  headed x ls =
      let m : ℕ = length ls + 2 in
      let all : List Line = header x ∷ ls in
      ask_within m 6 (after_header 2 ls) _ (header_within m 2 ls (omega arith))
      (ask_within m 7 (off_plan h all) _ (plan_within m h x ls (omega arith))
      (ask_within m 8 (disallowed (plan h) all) _ (disallowed_within m (plan h) 0 1 all (omega arith))
      (ask_within m 9 (excess limits all) _ (excess_within m limits.doublings 1 all (omega arith))
      (ask_within m 10 (miscounted h all) _ (counts_within m h all (omega arith))
      (ask_within m 11 (wrong h all) _ (result_within m h all (omega arith))
      (omega arith))))))

  judged_line : (ls : List Line) → line (judged limits h ls) ≤ length ls + 1
  unfolding judged misplaced
  judged_line (header x ∷ ls) = omega (arith, headed x ls)
  judged_line (table t ∷ ls) = omega arith
  judged_line (load t ∷ ls) = omega arith
  judged_line (double ∷ ls) = omega arith
  judged_line (add t ∷ ls) = omega arith
  judged_line (end ∷ ls) = omega arith
  judged_line (misspelled ∷ ls) = omega arith
  judged_line [] = omega arith

-- at most one past the most lines that a sheet can have
pub line_within : (limits : Limits) (s : List ℕ) → line (answer limits s) ≤ limits.sheet + 1
unfolding answer too_long
line_within limits s = go (leb (length s) limits.sheet) refl
  where
    go : (b : Bool) → b ≡ leb (length s) limits.sheet
        → line (ask 5 (unless b 0) (judged limits (heading (lines limits s)) (lines limits s))) ≤ limits.sheet + 1
    go true e =
        omega (arith, leb-true (length s) limits.sheet (sym e), lines_few limits s, judged_line limits (heading (lines limits s)) (lines limits s))
    go false e = omega arith

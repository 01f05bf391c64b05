-- The steps of columns whose top is not zero: they are allowed by the plan, their columns are those columns, and they have a
-- D line for each place below the top. Along the columns, from the highest place down.
use Rattle.std.specs.Prelude.{◌≡◌, Bool, true, false, not, ◌&&◌, cond, ℕ, zero, suc, ◌+◌, ◌*◌, ◌%◌, ◌≤◌, ℤ, pos, negsuc, ◌+ℤ◌, nat_abs}
use Rattle.std.proofs.Math.Path.{refl, ap}
use Rattle.std.proofs.Common.{sym, ap₂, subst, ◌∙◌}
use mathlib.Core.List.{List, [], ◌∷◌, ◌++◌, reverse, reverse_aux, reverse-reverse, reverse-cons}
use native.Mathlib.Omega.{arith}
use Rattle.std.proofs.Math.Dec.{T}
use Rattle.std.proofs.Math.ListN.{length, get_or, length-reverse_aux}
use Rattle.std.proofs.lemmas.List.{length-reverse}
use Rattle.std.proofs.Math.Seq.{get_or_at}
use Rattle.digits.specs.Integer.Parts.{integers, sum}
use Rattle.digits.specs.Row.{Digit, none, odd, more}
use Rattle.digits.specs.Column.{row, Small}
use Rattle.digits.specs.Two.{Column, P, Q, is_zero, blank, blank_column}
use Rattle.forms.specs.Joint.{Topped}
use Rattle.sheet.specs.declared.Plan.{Plan}
use Rattle.sheet.specs.declared.Plan.TheVariants.{J, I}
use Rattle.sheet.specs.Digits.{columns_from, Fits}
use Rattle.sheet.specs.Every.{Every}
use Rattle.sheet.specs.Line.{Line, end}
use Rattle.sheet.specs.Plan.{Point, point}
use Rattle.sheet.specs.Questions.{additions, doublings, plus}
use Rattle.sheet.specs.Sound.{Moves, loaded, move_lines, move_doubles, for_both, for_p, for_q, AllowedMoves, stops, doubles, adds, Allowed, rests, loads}
use Rattle.written.specs.Written.{unless_zero, place_steps, add_all, moves_of, steps_down, steps_of}
use Rattle.written.specs.Written as Written
use Rattle.written.specs.Written.Stepping.{Fit, InTurn, Place, Stepped, done, step, sum_from}

-- ── the steps of a place ────────────────────────────────────────────────────────────────────

zero_left : (z : ℤ) → pos 0 +ℤ z ≡ z
zero_left z = omega (integers, sum (pos 0) z)

zero_right : (z : ℤ) → z +ℤ pos 0 ≡ z
zero_right z = omega (integers, sum z (pos 0))

odd_full : (z : ℤ) → nat_abs z % 2 ≡ 1 → is_zero z ≡ false
odd_full (pos zero) h = absurd (omega arith)
odd_full (pos (suc n)) h = refl
odd_full (negsuc n) h = refl

zero_is : (z : ℤ) → is_zero z ≡ true → z ≡ pos 0
zero_is (pos zero) e = refl
zero_is (pos (suc n)) e = let h : ◌≡◌ {A = ℕ} 0 1 = cc in absurd (omega arith)
zero_is (negsuc n) e = let h : ◌≡◌ {A = ℕ} 0 1 = cc in absurd (omega arith)

place_joint : (c : Column) → Fit J c → Place J c (unless_zero c)
unfolding sum_from
place_joint c f = go (blank c) refl
  where
    both : (a b : Bool) → (a && b) ≡ true → (a ≡ true) × (b ≡ true)
    both true true e = (refl, refl)
    both true false e = (refl, e)
    both false b e = (e, let h : ◌≡◌ {A = ℕ} 0 1 = cc in absurd (omega arith))

    go : (b : Bool) → blank c ≡ b → Place J c (cond b [] (c ∷ []))
    go true e =
        let (x, y) = both (is_zero c.p) (is_zero c.q) e in
        record { sums = ap₂ point (sym (zero_is c.p x)) (sym (zero_is c.q y)); turns = done; few = omega arith }
    go false e =
        record {
          sums = ap₂ point (zero_left c.p) (zero_left c.q);
          turns = step {n = 0} {j = 2} (omega arith) (for_both {t = c} f.0 f.1 (rw e tt)) done;
          few = omega arith;
        }

module _ {m1 m2 : ℕ} where
  place_rows : (a b : ℤ) → Digit m1 a → Digit m2 b → Place (I m1 m2) (point a b) (place_steps (I m1 m2) (point a b))
  unfolding sum_from
  place_rows _ _ none none = record { sums = refl; turns = done; few = omega arith }
  place_rows a _ (odd o s) none =
      rw (odd_full a o)
      (record { sums = ap (λ (x : ℤ). point x (pos 0)) (zero_left a); turns = step {n = 0} {j = 1} (omega arith) (for_p o s refl) done; few = omega arith })
  place_rows _ b none (odd o s) =
      rw (odd_full b o)
      (record { sums = ap (λ (x : ℤ). point (pos 0) x) (zero_left b); turns = step {n = 0} {j = 2} (omega arith) (for_q refl o s) done; few = omega arith })
  place_rows a b (odd o s) (odd o' s') =
      rw (odd_full a o, odd_full b o')
      (record {
        sums = simp (zero_left, zero_right);
        turns = step {n = 0} {j = 1} (omega arith) (for_p o s refl) (step {n = 1} {j = 2} (omega arith) (for_q refl o' s') done);
        few = omega arith;
      })

pub place : (p : Plan) (c : Column) → Fit p c → Place p c (place_steps p c)
place J c f = place_joint c f
place (I m1 m2) c f = place_rows c.p c.q f.0 f.1

-- ── the moves below the top ─────────────────────────────────────────────────────────────────

added_columns : (ts : List Point) (c : Column) (cs : List Column) (ms : Moves) (ls : List Line)
    → columns_from (c ∷ cs) (move_lines (add_all ts ms) ++ ls) ≡ columns_from (sum_from c ts ∷ cs) (move_lines ms ++ ls)
unfolding columns_from move_lines add_all sum_from
added_columns [] c cs ms ls = refl
added_columns (t ∷ ts) c cs ms ls = added_columns ts (plus c t) cs ms ls

added_additions : (ts : List Point) (ms : Moves) (ls : List Line) → additions (move_lines (add_all ts ms) ++ ls) ≡ length ts + additions (move_lines ms ++ ls)
unfolding additions move_lines add_all
added_additions [] ms ls = omega arith
added_additions (t ∷ ts) ms ls = omega (arith, added_additions ts ms ls)

added_doublings : (ts : List Point) (ms : Moves) (ls : List Line) → doublings (move_lines (add_all ts ms) ++ ls) ≡ doublings (move_lines ms ++ ls)
unfolding doublings move_lines add_all
added_doublings [] ms ls = refl
added_doublings (t ∷ ts) ms ls = added_doublings ts ms ls

added_doubles : (ts : List Point) (ms : Moves) → move_doubles (add_all ts ms) ≡ move_doubles ms
unfolding move_doubles add_all
added_doubles [] ms = refl
added_doubles (t ∷ ts) ms = added_doubles ts ms

-- ── all steps ───────────────────────────────────────────────────────────────────────────────

module _ (p : Plan) where
  added_allowed : {n : ℕ} {ts : List Point} → InTurn p n ts → (ms : Moves) → ((j : ℕ) → AllowedMoves p j ms) → AllowedMoves p n (add_all ts ms)
  unfolding add_all
  added_allowed {n} done ms f = f n
  added_allowed (step l u r) ms f = adds l u (added_allowed r ms f)

  moves_allowed : {ds : List Column} → Every (Fit p) ds → (n : ℕ) → AllowedMoves p n (moves_of p ds)
  unfolding moves_of
  moves_allowed Every.empty n = stops
  moves_allowed (Every.more {a = d} {s = ds} f r) n =
      doubles (added_allowed (place p d f).turns (moves_of p ds) (moves_allowed r))

  moves_columns : {ds : List Column} → Every (Fit p) ds → (cs : List Column) (ls : List Line)
      → columns_from cs (move_lines (moves_of p ds) ++ ls) ≡ columns_from (reverse_aux ds cs) ls
  unfolding columns_from move_lines moves_of
  moves_columns Every.empty cs ls = refl
  moves_columns (Every.more {a = d} {s = ds} f r) cs ls =
      added_columns (place_steps p d) blank_column cs (moves_of p ds) ls
      ∙ ap (λ (c : Column). columns_from (c ∷ cs) (move_lines (moves_of p ds) ++ ls)) (place p d f).sums
      ∙ moves_columns r (d ∷ cs) ls

  moves_additions : {ds : List Column} → Every (Fit p) ds → (ls : List Line) → additions (move_lines (moves_of p ds) ++ ls) ≤ 2 * length ds + additions ls
  unfolding additions move_lines moves_of
  moves_additions Every.empty ls = omega arith
  moves_additions (Every.more {a = d} {s = ds} f r) ls =
      omega (arith, added_additions (place_steps p d) (moves_of p ds) ls, (place p d f).few, moves_additions r ls)

moves_doublings : (p : Plan) (ds : List Column) (ls : List Line) → doublings (move_lines (moves_of p ds) ++ ls) ≡ length ds + doublings ls
unfolding doublings move_lines moves_of
moves_doublings p [] ls = omega arith
moves_doublings p (d ∷ ds) ls = omega (arith, added_doublings (place_steps p d) (moves_of p ds) ls, moves_doublings p ds ls)

moves_doubles : (p : Plan) (ds : List Column) → move_doubles (moves_of p ds) ≡ length ds
unfolding move_doubles moves_of
moves_doubles p [] = refl
moves_doubles p (d ∷ ds) = omega (arith, added_doubles (place_steps p d) (moves_of p ds), moves_doubles p ds)

module _ (p : Plan) where
  loaded_stepped : (d : Column) (ts : List Point) → Place p d ts → T (not (blank d)) → {ds : List Column} → Every (Fit p) ds
      → Stepped p (reverse_aux ds (d ∷ [])) (Written.load ts (moves_of p ds))
  unfolding columns_from additions doublings sum_from
  loaded_stepped d [] x t r = absurd (subst (λ (c : Column). T (not (blank c))) (sym x.sums) t)
  loaded_stepped d (t ∷ ts) x full {ds} r =
      let first : sum_from t ts ≡ d = ap (λ (c : Column). sum_from c ts) (sym (ap₂ point (zero_left t.p) (zero_left t.q))) ∙ x.sums in
      let long : length (reverse_aux ds (d ∷ [])) ≡ length ds + 1 = length-reverse_aux ds (d ∷ []) in
      record {
        allowed = go x.turns;
        made =
            added_columns ts t [] (moves_of p ds) (end ∷ [])
            ∙ ap (λ (c : Column). columns_from (c ∷ []) (move_lines (moves_of p ds) ++ (end ∷ []))) first
            ∙ moves_columns p r (d ∷ []) (end ∷ []);
        doubles = omega (arith, added_doubles ts (moves_of p ds), moves_doubles p ds);
        doublings_are = omega (arith, added_doublings ts (moves_of p ds) (end ∷ []), moves_doublings p ds (end ∷ []));
        additions_few = omega (arith, added_additions ts (moves_of p ds) (end ∷ []), x.few, moves_additions p r (end ∷ []));
      }
    where
      go : InTurn p 0 (t ∷ ts) → Allowed p (loaded t (add_all ts (moves_of p ds)))
      go (step l u s) = loads u (added_allowed p s (moves_of p ds) (moves_allowed p r))

  down_stepped : (ds : List Column) → Every (Fit p) ds → Topped (reverse ds) → Stepped p (reverse ds) (steps_down p ds)
  unfolding columns_from additions doublings
  down_stepped [] e t =
      record { allowed = rests; made = refl; doubles = refl; doublings_are = refl; additions_few = omega arith }
  down_stepped (d ∷ ds) (Every.more f r) t =
      loaded_stepped d (place_steps p d) (place p d f)
      (subst (λ (c : Column). T (not (blank c))) (top d ds) (t (length ds) (length-reverse (d ∷ ds))))
      r
    where
      top : (c : Column) (cs : List Column) → get_or (reverse (c ∷ cs)) (length cs) blank_column ≡ c
      top c cs =
          ap (λ (l : List Column). get_or l (length cs) blank_column) (reverse-cons c cs)
          ∙ get_or_at (reverse cs) c [] blank_column (length cs) (length-reverse cs)

every_reverse_aux : {A : Type 0} {P : A → Type 0} {s t : List A} → Every P s → Every P t → Every P (reverse_aux s t)
every_reverse_aux Every.empty r = r
every_reverse_aux (Every.more p q) r = every_reverse_aux q (Every.more p r)

-- the columns of a plan, one by one
fits_each : (p : Plan) (cs : List Column) → Fits p cs → Every (Fit p) cs
unfolding row
fits_each J [] f = Every.empty
fits_each J (c ∷ cs) (Small.more f r) = Every.more (f P, f Q) (fits_each J cs r)
fits_each (I m1 m2) [] f = Every.empty
fits_each (I m1 m2) (c ∷ cs) (more a f, more b g) = Every.more (a, b) (fits_each (I m1 m2) cs (f, g))

-- the steps of columns
pub steps_of_lem : (p : Plan) (cs : List Column) → Fits p cs → Topped cs → Stepped p cs (steps_of p cs)
unfolding steps_of
steps_of_lem p cs f t =
    subst (λ (l : List Column). Stepped p l (steps_down p (reverse cs))) (reverse-reverse cs)
    (down_stepped p (reverse cs) (every_reverse_aux (fits_each p cs f) Every.empty) (subst Topped (sym (reverse-reverse cs)) t))

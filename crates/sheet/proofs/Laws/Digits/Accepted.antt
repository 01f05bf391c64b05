-- The steps of an accepted sheet are rows over the plan's digits, or columns, that read k and l. Assumes nothing.
use Rattle.std.specs.Prelude.{◌≡◌, refl, Bool, true, false, not, T, ℤ, pos, ◌+ℤ◌, nat_abs}
use Rattle.std.proofs.Math.Path.{sym, ap}
use Rattle.std.proofs.Common.{ap₂, subst, ◌∙◌}
use mathlib.Core.List.{List, [], ◌∷◌, ◌++◌, map}
use Prim.Native.Nat.{ℕ, suc, ◌+◌, ◌-◌, ◌≤◌, ◌<◌}
use native.Mathlib.Omega.{arith}
use Rattle.digits.specs.declared.limits.Limits.{Limits}
use Rattle.digits.specs.Integer.Parts.{integers, sum}
use Rattle.digits.specs.Row.{value, count, Digit, none, odd, empty, more}
use Rattle.digits.specs.Row as Rows
use Rattle.digits.specs.Row.Adding.{count_odd}
use Rattle.digits.specs.Column.{row, counted, Small}
use Rattle.digits.specs.Column as Columns
use Rattle.digits.specs.Two.{Column, Two, P, Q, digit, blank, blank_column, two}
use Rattle.sheet.specs.declared.Plan.{Plan}
use Rattle.sheet.specs.declared.Plan.TheVariants.{J, I}
use Rattle.sheet.specs.Plan.{Point, point, tables, table_additions}
use Rattle.sheet.specs.Line.{Header, plan, Line, header, table, load, double, add, end, misspelled}
use Rattle.sheet.specs.Spelling.{lines}
use Rattle.sheet.specs.Questions.{additions, plus, held, result}
use Rattle.sheet.specs.Answer.{heading, Accepted, sheet_additions}
use Rattle.sheet.specs.Sound.{Moves, Steps, move_lines, step_lines, sheet_lines, Turn, for_both, for_p, for_q, AllowedMoves, stops, doubles, adds, Allowed, rests, loads, Sound}
use Rattle.sheet.specs.Digits.{at_first, columns_from, columns, Fits, weight, Reads}
use Rattle.sheet.proofs.Laws.Plan.Cost.{additions_append, tables_additions}
use Rattle.sheet.specs.Questions.Allowed.{turn_positive}
use Rattle.sheet.proofs.Laws.Answer.Exactly.{accepted_exactly}

-- ── the values of the rows are what the accumulator holds ───────────────────────────────────

-- x is what the columns cs come to
Comes : Point → List Column → Type 0
Comes x cs = (r : Two) → value (row two r cs) ≡ digit x r

sum_digit : (c t : Column) (r : Two) → digit (plus c t) r ≡ digit c r +ℤ digit t r
sum_digit c t P = refl
sum_digit c t Q = refl

begun : (t : Point) → Comes t (t ∷ [])
unfolding Comes value row
begun t r = omega (integers, sum (digit t r) (pos 0))

shifted : (x : Point) (cs : List Column) → Comes x cs → Comes (plus x x) (blank_column ∷ cs)
unfolding Comes value row
shifted x cs h P = rw (h P) (omega (integers, sum (pos 0) (x.p +ℤ x.p)))
shifted x cs h Q = rw (h Q) (omega (integers, sum (pos 0) (x.q +ℤ x.q)))

summed : (x t : Point) (cs : List Column) → Comes x cs → Comes (plus x t) (at_first t cs)
unfolding Comes value row
summed x t [] h r = rw (sum_digit x t r) (omega (integers, h r, sum (digit t r) (pos 0), sum (digit x r) (digit t r)))
summed x t (c ∷ cs) h r =
    rw (sum_digit x t r, sum_digit c t r)
    (omega (
      integers,
      h r,
      sum (digit x r) (digit t r),
      sum (digit c r) (digit t r),
      sum (digit c r) (value (row two r cs) +ℤ value (row two r cs)),
      sum (digit c r +ℤ digit t r) (value (row two r cs) +ℤ value (row two r cs)),
    ))

comes : (x : Point) (cs : List Column) (ls : List Line) → Comes x cs → Comes (held x ls) (columns_from cs ls)
unfolding held columns_from
comes x cs (load t ∷ ls) h = comes t (t ∷ []) ls (begun t)
comes x cs (double ∷ ls) h = comes (plus x x) (blank_column ∷ cs) ls (shifted x cs h)
comes x cs (add t ∷ ls) h = comes (plus x t) (at_first t cs) ls (summed x t cs h)
comes x cs (header y ∷ ls) h = comes x cs ls h
comes x cs (table t ∷ ls) h = comes x cs ls h
comes x cs (end ∷ ls) h = comes x cs ls h
comes x cs (misspelled ∷ ls) h = comes x cs ls h
comes x cs [] h = h

at_start : Comes (point (pos 0) (pos 0)) []
unfolding Comes value row
at_start P = refl
at_start Q = refl

-- the rows of any lines have the values that the accumulator holds
pub columns_value : (ls : List Line) (r : Two) → value (row two r (columns ls)) ≡ digit (result ls) r
unfolding columns result Comes
columns_value ls r = comes (point (pos 0) (pos 0)) [] ls at_start r

-- ── each place has digits of the plan, one at most in each row ──────────────────────────────

-- what a plan counts of one column
abbrev weigh : Plan → Column → ℕ
weigh J c = counted (blank c)
weigh (I m1 m2) c = count c.p + count c.q

-- the digits of one column are the plan's
abbrev Fit : Plan → Column → Type 0
Fit J c = (r : Two) → nat_abs (digit c r) ≤ 1
Fit (I m1 m2) c = Digit m1 c.p × Digit m2 c.q

-- what is free in the column of a place after the turn n
abbrev Free : Plan → ℕ → Column → Type 0
Free J n c = n < 2 → c ≡ blank_column
Free (I m1 m2) n c = (n < 1 → c.p ≡ pos 0) × (n < 2 → c.q ≡ pos 0)

record Place (p : Plan) (n : ℕ) (c : Column) : Type 0 where
  fit : Fit p c
  free : Free p n c

-- the weight of one column more, and of none
weight_more : (p : Plan) (c : Column) (cs : List Column) → weight p (c ∷ cs) ≡ weigh p c + weight p cs
unfolding Columns.weight Rows.weight row
weight_more J c cs = refl
weight_more (I m1 m2) c cs = omega arith

fits_more : (p : Plan) (c : Column) (cs : List Column) → Fit p c → Fits p cs → Fits p (c ∷ cs)
unfolding row
fits_more J c cs f g = Small.more f g
fits_more (I m1 m2) c cs (a, b) (f, g) = (more a f, more b g)

fits_none : (p : Plan) → Fits p []
unfolding row
fits_none J = Small.empty
fits_none (I m1 m2) = (empty, empty)

blank_place : (p : Plan) → Place p 0 blank_column
blank_place J = record { fit = small; free = λ l. refl }
  where
    small : (r : Two) → nat_abs (digit blank_column r) ≤ 1
    small P = omega arith
    small Q = omega arith
blank_place (I m1 m2) = record { fit = (none, none); free = (λ l. refl, λ l. refl) }

blank_weigh : (p : Plan) → weigh p blank_column ≡ 0
blank_weigh J = refl
blank_weigh (I m1 m2) = refl

-- a step of a later turn takes what is free, and counts for one
record Taken (p : Plan) (j : ℕ) (c t : Column) : Type 0 where
  place : Place p j (plus c t)
  weighs : weigh p (plus c t) ≡ suc (weigh p c)

zero_left : (z : ℤ) → pos 0 +ℤ z ≡ z
zero_left z = omega (integers, sum (pos 0) z)

zero_right : (z : ℤ) → z +ℤ pos 0 ≡ z
zero_right z = omega (integers, sum z (pos 0))

blank_left : (t : Column) → plus blank_column t ≡ t
blank_left t = ap₂ point (zero_left t.p) (zero_left t.q)

counted_full : (b : Bool) → T (not b) → counted b ≡ 1
counted_full true h = absurd h
counted_full false h = refl

small_column : (t : Column) → nat_abs t.p ≤ 1 → nat_abs t.q ≤ 1 → (r : Two) → nat_abs (digit t r) ≤ 1
small_column t a b P = a
small_column t a b Q = b

taken : {p : Plan} {j : ℕ} {t : Column} → (n : ℕ) (c : Column) → Place p n c → n < j → Turn p j t → Taken p j c t
taken n c x l (for_both {t} a b full) =
    let e : c ≡ blank_column = x.free l in
    let s : plus c t ≡ t = ap (λ (y : Column). plus y t) e ∙ blank_left t in
    record {
      place = record { fit = subst (Fit J) (sym s) (small_column t a b); free = λ h. absurd (omega arith) };
      weighs = ap (weigh J) s ∙ counted_full (blank t) full ∙ ap (λ (y : Column). suc (weigh J y)) (sym e);
    }
taken n c x l (for_p {m1} {m2} {t} a b z) =
    let ep : c.p ≡ pos 0 = x.free.0 l in
    let eq : c.q ≡ pos 0 = x.free.1 (omega arith) in
    let sp : c.p +ℤ t.p ≡ t.p = ap (λ (y : ℤ). y +ℤ t.p) ep ∙ zero_left t.p in
    let sq : c.q +ℤ t.q ≡ pos 0 = ap₂ (λ (y z : ℤ). y +ℤ z) eq z in
    record {
      place = record { fit = (subst (Digit m1) (sym sp) (odd a b), subst (Digit m2) (sym sq) none); free = (λ h. absurd (omega arith), λ h. sq) };
      weighs = rw (sp, sq, ep, eq, count_odd t.p a);
    }
taken n c x l (for_q {m1} {m2} {t} z a b) =
    let eq : c.q ≡ pos 0 = x.free.1 l in
    let sp : c.p +ℤ t.p ≡ c.p = ap (λ (y : ℤ). c.p +ℤ y) z ∙ zero_right c.p in
    let sq : c.q +ℤ t.q ≡ t.q = ap (λ (y : ℤ). y +ℤ t.q) eq ∙ zero_left t.q in
    record {
      place = record { fit = (subst (Digit m1) (sym sp) x.fit.0, subst (Digit m2) (sym sq) (odd a b)); free = (λ h. absurd (omega arith), λ h. absurd (omega arith)) };
      weighs = rw (sp, sq, eq, count_odd t.q a) (omega arith);
    }

-- ── so are the columns of all steps ─────────────────────────────────────────────────────────

weight_none : (p : Plan) → weight p [] ≡ 0
unfolding Columns.weight Rows.weight row
weight_none J = refl
weight_none (I m1 m2) = refl

-- the columns cs are the plan's, and count w
record Made (p : Plan) (w : ℕ) (cs : List Column) : Type 0 where
  fits : Fits p cs
  weighs : weight p cs ≡ w

module _ {p : Plan} where
  moves_made : {n : ℕ} {ms : Moves} → AllowedMoves p n ms → (c : Column) (cs : List Column) → Place p n c → Fits p cs
      → Made p (weight p (c ∷ cs) + additions (move_lines ms ++ (end ∷ []))) (columns_from (c ∷ cs) (move_lines ms ++ (end ∷ [])))
  unfolding move_lines columns_from additions
  moves_made stops c cs x f = record { fits = fits_more p c cs x.fit f; weighs = omega arith }
  moves_made (doubles {ms = ms} a) c cs x f =
      let m = moves_made a blank_column (c ∷ cs) (blank_place p) (fits_more p c cs x.fit f) in
      record { fits = m.fits; weighs = omega (arith, m.weighs, weight_more p blank_column (c ∷ cs), blank_weigh p) }
  moves_made (adds {n} {j} {t} {ms} l u a) c cs x f =
      let k : Taken p j c t = taken n c x l u in
      let m = moves_made a (plus c t) cs k.place f in
      record {
        fits = m.fits;
        weighs = omega (arith, m.weighs, weight_more p (plus c t) cs, weight_more p c cs, k.weighs);
      }

  pub steps_made : {st : Steps} → Allowed p st
      → Fits p (columns_from [] (step_lines st ++ (end ∷ []))) × (additions (step_lines st ++ (end ∷ [])) ≡ weight p (columns_from [] (step_lines st ++ (end ∷ []))) - 1)
  unfolding columns_from additions
  steps_made rests = (fits_none p, omega (arith, weight_none p))
  steps_made (loads {j} {t} {ms} u a) =
      let k : Taken p j blank_column t = taken 0 blank_column (blank_place p) (turn_positive u) u in
      let m = moves_made a t [] (subst (Place p j) (blank_left t) k.place) (fits_none p) in
      let w : weigh p t ≡ 1 = sym (ap (weigh p) (blank_left t)) ∙ k.weighs ∙ ap suc (blank_weigh p) in
      (m.fits, omega (arith, m.weighs, weight_more p t [], weight_none p))

-- the header and the T lines leave no column
tables_columns : (cs : List Column) (ts : List Point) (ls : List Line) → columns_from cs (map table ts ++ ls) ≡ columns_from cs ls
unfolding columns_from
tables_columns cs [] ls = refl
tables_columns cs (t ∷ ts) ls = tables_columns cs ts ls

pub sheet_columns : (h : Header) (ts : List Point) (st : Steps) → columns (sheet_lines h ts st) ≡ columns_from [] (step_lines st ++ (end ∷ []))
unfolding columns columns_from sheet_lines
sheet_columns h ts st = tables_columns [] ts (step_lines st ++ (end ∷ []))

-- the additions are those of the table and the steps; the header does not count
pub sheet_additions_lem : (h : Header) (p : Plan) (st : Steps)
    → additions (sheet_lines h (tables p) st) ≡ table_additions p + additions (step_lines st ++ (end ∷ []))
unfolding additions sheet_lines
sheet_additions_lem h p st =
    additions_append (map table (tables p)) (step_lines st ++ (end ∷ []))
    ∙ ap (λ (n : ℕ). n + additions (step_lines st ++ (end ∷ []))) (tables_additions p)

sound_reads : (limits : Limits) (s : List ℕ) (k l : ℤ) (a : Sound limits s k l) → Reads (plan a.head) (columns (lines limits s)) k l (sheet_additions limits s)
unfolding sheet_additions
sound_reads limits s k l a =
    let p : Plan = plan a.head in
    let st : List Line = step_lines a.steps ++ (end ∷ []) in
    let (f, w) = steps_made a.allowed in
    let e : columns (lines limits s) ≡ columns_from [] st = ap columns a.laid ∙ sheet_columns a.head (tables p) a.steps in
    record {
      fits = subst (Fits p) (sym e) f;
      reads_k = columns_value (lines limits s) P ∙ ap (λ (x : Point). x.p) a.reads;
      reads_l = columns_value (lines limits s) Q ∙ ap (λ (x : Point). x.q) a.reads;
      costs =
          ap additions a.laid ∙ sheet_additions_lem a.head p a.steps
          ∙ ap (λ (n : ℕ). table_additions p + n) (w ∙ ap (λ (cs : List Column). weight p cs - 1) (sym e));
    }

-- the steps of an accepted sheet are columns of its plan that read k and l at the cost of its additions
pub accepted_rows : (limits : Limits) (s : List ℕ) (k l : ℤ) → Accepted limits s k l
    → Reads (plan (heading (lines limits s))) (columns (lines limits s)) k l (sheet_additions limits s)
unfolding sheet_lines
accepted_rows limits s k l a =
    let b : Sound limits s k l = (accepted_exactly limits s k l).0 a in
    subst (λ (h : Header). Reads (plan h) (columns (lines limits s)) k l (sheet_additions limits s)) (sym (ap heading b.laid))
    (sound_reads limits s k l b)

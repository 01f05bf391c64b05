-- The bytes of the steps of a place, of the places below the top, and of all steps, as the writer puts them. Assumes nothing.
use mathlib.Core.Path.{◌≡◌, refl, sym, ap, ◌∙◌}
use mathlib.Core.Logic.{◌≢◌}
use mathlib.Core.Bool.{Bool, true, false, not, ◌&&◌, cond}
use mathlib.Core.List.{List, [], ◌∷◌, ◌++◌, append_assoc, append-nil}
use Prim.Native.Nat.{ℕ, zero, suc, ◌+◌, ◌-◌, ◌≤◌, ◌<◌}
use native.Mathlib.Omega.{arith}
use lib.Dec.{T, ltb}
use lib.IntN.{pos, negsuc}
use lib.ListN.{length, length-append}
use Rattle.digits.specs.Column.{counted}
use Rattle.digits.specs.Two.{Column, is_zero, blank}
use Rattle.sheet.specs.declared.Plan.{Plan}
use Rattle.sheet.specs.declared.Plan.TheVariants.{J, I}
use Rattle.sheet.specs.Line.{Line, table, load, add}
use Rattle.sheet.specs.Plan.{Point, point}
use Rattle.sheet.specs.Sound.{Moves, move_lines, step_lines}
use Rattle.sheet.specs.Spelling.{comma, line_feed, digit, join, spell}
use Rattle.written.specs.Written.{unless_zero, place_steps, add_all, moves_of, steps_down}
use Rattle.written.specs.Written as Written
use Rattle.digits.specs.Byte.{signed}
use Rattle.writer.specs.Body.Parts.{point_line, steps_bytes, column_at, columns_down}

-- ── whether a digit is 0 ────────────────────────────────────────────────────────────────────

zero_plain : (b : ℕ) → b ≢ 0 → is_zero (pos b) ≡ false
zero_plain zero h = absurd (h refl)
zero_plain (suc n) h = refl

pub zero_not : (b : ℕ) → b ≢ 0 → is_zero (signed b) ≡ false
zero_not b h = go (ltb b 128)
  where
    go : (t : Bool) → is_zero (cond t (pos b) (negsuc (255 - b))) ≡ false
    go true = zero_plain b h
    go false = refl

-- ── the steps of a place ────────────────────────────────────────────────────────────────────

pub one_step : (letter : ℕ) (t : Point) → blank t ≡ false → steps_bytes letter (unless_zero t) ≡ point_line letter t
unfolding steps_bytes
one_step letter t e = ap (λ (b : Bool). steps_bytes letter (cond b [] (t ∷ []))) e ∙ append-nil (point_line letter t)

pub no_step : (letter : ℕ) (t : Point) → blank t ≡ true → steps_bytes letter (unless_zero t) ≡ []
unfolding steps_bytes
no_step letter t e = ap (λ (b : Bool). steps_bytes letter (cond b [] (t ∷ []))) e

-- the steps of two rows at a place
abbrev pub rows_bytes : ℕ → ℕ → ℕ → List ℕ
rows_bytes letter p q = steps_bytes letter (unless_zero (point (signed p) (pos 0)) ++ unless_zero (point (pos 0) (signed q)))

and_true : (b : Bool) → (b && true) ≡ b
and_true true = refl
and_true false = refl

blank_p : (b : ℕ) (t : Bool) → is_zero (signed b) ≡ t → blank (point (signed b) (pos 0)) ≡ t
blank_p b t e = and_true (is_zero (signed b)) ∙ e

pub rows_first : (letter p q : ℕ) → p ≢ 0 → rows_bytes letter p q ≡ point_line letter (point (signed p) (pos 0)) ++ steps_bytes 65 (unless_zero (point (pos 0) (signed q)))
unfolding steps_bytes
rows_first letter p q h =
    ap (λ (b : Bool). steps_bytes letter (cond b [] (point (signed p) (pos 0) ∷ []) ++ unless_zero (point (pos 0) (signed q)))) (blank_p p false (zero_not p h))

-- ── lines as they are spelled ───────────────────────────────────────────────────────────────

module _ (t : Point) (ls : List Line) where
  regroup : (x y : List ℕ) (s : List ℕ) → (x ++ comma ∷ y) ++ line_feed ∷ s ≡ (x ++ comma ∷ (y ++ line_feed ∷ [])) ++ s
  regroup x y s = simp append_assoc

  pub spell_table : spell (table t ∷ ls) ≡ point_line 84 t ++ spell ls
  unfolding spell join point_line
  spell_table = ap (λ (l : List ℕ). 84 ∷ comma ∷ l) (regroup (digit t.p) (digit t.q) (spell ls))

  pub spell_load : spell (load t ∷ ls) ≡ point_line 76 t ++ spell ls
  unfolding spell join point_line
  spell_load = ap (λ (l : List ℕ). 76 ∷ comma ∷ l) (regroup (digit t.p) (digit t.q) (spell ls))

  pub spell_add : spell (add t ∷ ls) ≡ point_line 65 t ++ spell ls
  unfolding spell join point_line
  spell_add = ap (λ (l : List ℕ). 65 ∷ comma ∷ l) (regroup (digit t.p) (digit t.q) (spell ls))

added_bytes : (ts : List Point) (ms : Moves) → spell (move_lines (add_all ts ms)) ≡ steps_bytes 65 ts ++ spell (move_lines ms)
unfolding move_lines add_all steps_bytes
added_bytes [] ms = refl
added_bytes (t ∷ ts) ms =
    spell_add t (move_lines (add_all ts ms)) ∙ ap (λ (l : List ℕ). point_line 65 t ++ l) (added_bytes ts ms)
    ∙ sym (append_assoc (point_line 65 t) (steps_bytes 65 ts) (spell (move_lines ms)))

-- ── the places ──────────────────────────────────────────────────────────────────────────────

-- the bytes of the places below i
abbrev pub moves_bytes : Plan → List ℕ → List ℕ → ℕ → List ℕ
moves_bytes plan p q i = spell (move_lines (moves_of plan (columns_down p q i)))

pub moves_none : (plan : Plan) (p q : List ℕ) → moves_bytes plan p q 0 ≡ []
unfolding move_lines moves_of columns_down spell
moves_none plan p q = refl

pub moves_more : (plan : Plan) (p q : List ℕ) (i : ℕ)
    → moves_bytes plan p q (suc i) ≡ (68 ∷ line_feed ∷ []) ++ (steps_bytes 65 (place_steps plan (column_at p q i)) ++ moves_bytes plan p q i)
unfolding move_lines moves_of columns_down spell join
moves_more plan p q i =
    ap (λ (l : List ℕ). 68 ∷ line_feed ∷ l) (added_bytes (place_steps plan (column_at p q i)) (moves_of plan (columns_down p q i)))

-- a column that is not zero has a step
length_unless : (t : Point) → length (unless_zero t) ≡ counted (blank t)
length_unless t = go (blank t)
  where
    go : (b : Bool) → length (cond b [] (t ∷ [])) ≡ counted b
    go true = refl
    go false = refl

one_counts : (a b : Bool) → T (not (a && b)) → 1 ≤ counted (a && true) + counted b
one_counts true true h = absurd h
one_counts true false h = omega arith
one_counts false true h = omega arith
one_counts false false h = omega arith

counts_some : (b : Bool) → T (not b) → 1 ≤ counted b
counts_some true h = absurd h
counts_some false h = omega arith

some_steps : (plan : Plan) (c : Column) → T (not (blank c)) → 1 ≤ length (place_steps plan c)
some_steps J c h = simp length_unless (counts_some (blank c) h)
some_steps (I m1 m2) c h = simp (length-append, length_unless) (omega (arith, one_counts (is_zero c.p) (is_zero c.q) h))

a_first : (ts : List Point) → 1 ≤ length ts → (t : Point) × (us : List Point) × (ts ≡ t ∷ us)
a_first [] h = absurd (omega arith)
a_first (t ∷ us) h = (t, us, refl)

loaded_bytes : (ts : List Point) (t : Point) (us : List Point) (ms : Moves) → ts ≡ t ∷ us
    → spell (step_lines (Written.load ts ms)) ≡ steps_bytes 76 ts ++ spell (move_lines ms)
unfolding steps_bytes
loaded_bytes ts t us ms e =
    ap (λ (l : List Point). spell (step_lines (Written.load l ms))) e
    ∙ spell_load t (move_lines (add_all us ms)) ∙ ap (λ (l : List ℕ). point_line 76 t ++ l) (added_bytes us ms)
    ∙ sym (append_assoc (point_line 76 t) (steps_bytes 65 us) (spell (move_lines ms)))
    ∙ sym (ap (λ (l : List Point). steps_bytes 76 l ++ spell (move_lines ms)) e)

top_steps : (plan : Plan) (p q : List ℕ) (top : ℕ) → T (not (blank (column_at p q top)))
    → spell (step_lines (steps_down plan (columns_down p q (suc top)))) ≡ steps_bytes 76 (place_steps plan (column_at p q top)) ++ moves_bytes plan p q top
unfolding columns_down
top_steps plan p q top h =
    let (t, ts, e) = a_first (place_steps plan (column_at p q top)) (some_steps plan (column_at p q top) h) in
    loaded_bytes (place_steps plan (column_at p q top)) t ts (moves_of plan (columns_down p q top)) e

pub all_steps : (plan : Plan) (p q : List ℕ) (places : ℕ) → 0 < places → ((top : ℕ) → places ≡ suc top → T (not (blank (column_at p q top))))
    → spell (step_lines (steps_down plan (columns_down p q places))) ≡ steps_bytes 76 (place_steps plan (column_at p q (places - 1))) ++ moves_bytes plan p q (places - 1)
all_steps plan p q places h full =
    let e : places ≡ suc (places - 1) = omega arith in
    ap (λ (n : ℕ). spell (step_lines (steps_down plan (columns_down p q n)))) e ∙ top_steps plan p q (places - 1) (full (places - 1) e)

-- without a place there is no step
pub no_places : (plan : Plan) (p q : List ℕ) (places : ℕ) → places ≡ 0 → spell (step_lines (steps_down plan (columns_down p q places))) ≡ []
unfolding columns_down spell
no_places plan p q places e = ap (λ (n : ℕ). spell (step_lines (steps_down plan (columns_down p q n)))) e

-- The numbers on the lines of a valid plan are short enough to be spelled, and how many bytes the lines come to: a line with a
-- point at most 10, a D line 2, a header 33 and the figures of its two scalars. Assumes nothing.
use Rattle.std.specs.Prelude.{◌≡◌, refl, Bool, true, false, not, ◌&&◌, cond, List, [], ◌∷◌, ◌++◌, map, ℕ, zero, suc, ◌+◌, ◌*◌, ◌^◌, ◌≤◌, ◌<◌, leb, ℤ, pos, negsuc, nat_abs, length}
use Rattle.std.proofs.Common.{sym, ap, ◌∙◌, append_assoc, length-append, leb-true}
use Rattle.std.proofs.Math.Bool.{and-eq-true_iff}
use Rattle.std.proofs.Math.Option.{none, some}
use native.Mathlib.Omega.{arith}
use Rattle.std.proofs.lemmas.List.{length-map}
use Rattle.digits.specs.declared.limits.Limits.{Limits}
use Rattle.sheet.specs.declared.Plan.{Plan}
use Rattle.sheet.specs.Every.{Every, every_append}
use Rattle.sheet.specs.Line.{Kind, joint, interleaved, Header, Line, header, table, load, double, add, end}
use Rattle.sheet.specs.Numeral.{numeral, figures, padded, followed, number}
use Rattle.sheet.specs.Numeral.Read.{number_numeral}
use Rattle.sheet.specs.Plan.{Point, point, stored, odds, multiples, tables}
use Rattle.sheet.specs.Questions.{additions}
use Rattle.sheet.specs.Sound.{Moves, Steps, move_lines, step_lines, move_doubles, step_doubles, sheet_lines, Window, Turn, for_both, for_p, for_q, AllowedMoves, stops, doubles, adds, Allowed, rests, loads}
use Rattle.sheet.specs.Spelling.Spelled.{ShortPoint, ShortHeader, Short}
use Rattle.sheet.specs.Spelling.{comma, line_feed, whole, scalar, digit, kind, fields, join, spell}
use Rattle.written.specs.Valid.{Valid, for_j, for_i}

-- lines that follow one another are spelled so
pub spell_append : (xs ys : List Line) → spell (xs ++ ys) ≡ spell xs ++ spell ys
unfolding spell
spell_append [] ys = refl
spell_append (l ∷ xs) ys =
    ap (λ (s : List ℕ). join comma (fields l) ++ line_feed ∷ s) (spell_append xs ys)
    ∙ sym (append_assoc (join comma (fields l)) (line_feed ∷ spell xs) (spell ys))

-- ── the bytes of a number ───────────────────────────────────────────────────────────────────

chosen : (b : Bool) (x : ℕ) (n : ℕ) → cond b (some x) none ≡ some n → b ≡ true
chosen true x n e = refl
chosen false x n e = let z : ◌≡◌ {A = ℕ} 0 1 = cc in absurd (omega arith)

pub numeral_length : (base most n : ℕ) → 2 ≤ base → base ≤ 16 → 1 ≤ most → n < base ^ most → length (numeral base n) ≤ most
unfolding number
numeral_length base most n low high h l =
    let s : List ℕ = numeral base n in
    let e = chosen (leb 1 (length s) && leb (length s) most && not (padded s) && figures base s) (followed base 0 s) n (number_numeral base low high most n h l) in
    let (abc, d) = (and-eq-true_iff (leb 1 (length s) && leb (length s) most && not (padded s)) (figures base s)).0 e in
    let (ab, c) = (and-eq-true_iff (leb 1 (length s) && leb (length s) most) (not (padded s))).0 abc in
    let (a, b) = (and-eq-true_iff (leb 1 (length s)) (leb (length s) most)).0 ab in
    leb-true (length s) most b

decimal_length : (n : ℕ) → n < 10000 → length (numeral 10 n) ≤ 4
decimal_length n h = numeral_length 10 4 n (omega arith) (omega arith) (omega arith) h

-- a whole number has a minus beside its figures
pub whole_length : (base most : ℕ) → 2 ≤ base → base ≤ 16 → 1 ≤ most → (z : ℤ) → nat_abs z < base ^ most → length (whole base z) ≤ most + 1
whole_length base most low high h (pos n) l = omega (arith, numeral_length base most n low high h l)
whole_length base most low high h (negsuc n) l = omega (arith, numeral_length base most (suc n) low high h l)

digit_length : (z : ℤ) → nat_abs z < 100 → length (digit z) ≤ 3
digit_length z h = whole_length 10 2 (omega arith) (omega arith) (omega arith) z h

kind_length : (k : Kind) → length (kind k) ≡ 1
kind_length joint = refl
kind_length interleaved = refl

-- ── the bytes of a line ─────────────────────────────────────────────────────────────────────

-- fields in front of others
join_length : (b : ℕ) (f g : List ℕ) (fs : List (List ℕ)) → length (join b (f ∷ g ∷ fs)) ≡ length f + 1 + length (join b (g ∷ fs))
unfolding join
join_length b f g fs = omega (arith, length-append f (b ∷ join b (g ∷ fs)))

last_length : (b : ℕ) (f : List ℕ) → length (join b (f ∷ [])) ≡ length f
unfolding join
last_length b f = refl

-- a letter and a point
pub point_length : (c : ℕ) (t : Point) → ShortPoint t → length (join comma ((c ∷ []) ∷ digit t.p ∷ digit t.q ∷ [])) ≤ 9
point_length c t s =
    omega (
      arith,
      join_length comma (c ∷ []) (digit t.p) (digit t.q ∷ []),
      join_length comma (digit t.p) (digit t.q) [],
      last_length comma (digit t.q),
      digit_length t.p s.short_p,
      digit_length t.q s.short_q,
    )

line_length : (l : Line) (ls : List Line) → length (spell (l ∷ ls)) ≡ length (join comma (fields l)) + 1 + length (spell ls)
unfolding spell
line_length l ls = omega (arith, length-append (join comma (fields l)) (line_feed ∷ spell ls))

double_length : (ls : List Line) → length (spell (double ∷ ls)) ≡ 2 + length (spell ls)
unfolding spell join
double_length ls = omega arith

pub end_length : length (spell (end ∷ [])) ≡ 2
unfolding spell join
end_length = refl

header_length : (limits : Limits) (h : Header) → 1 ≤ limits.figures → ShortHeader limits h → length (join comma (fields (header h))) ≤ 32 + 2 * limits.figures
header_length limits h f s =
    let d1 : List ℕ = numeral 10 h.m1 in
    let d2 : List ℕ = numeral 10 h.m2 in
    let d3 : List ℕ = numeral 10 h.slots in
    let d4 : List ℕ = numeral 10 h.additions in
    let d5 : List ℕ = numeral 10 h.doublings in
    let k : List ℕ = scalar h.k in
    let l : List ℕ = scalar h.l in
    let front : length (join comma (fields (header h))) ≡ 4 + length (join comma (d1 ∷ d2 ∷ d3 ∷ d4 ∷ d5 ∷ k ∷ l ∷ [])) =
    omega (
      arith,
      join_length comma (83 ∷ []) (kind h.kind) (d1 ∷ d2 ∷ d3 ∷ d4 ∷ d5 ∷ k ∷ l ∷ []),
      join_length comma (kind h.kind) d1 (d2 ∷ d3 ∷ d4 ∷ d5 ∷ k ∷ l ∷ []),
      kind_length h.kind,
    )
    in
    let counts : length (join comma (d1 ∷ d2 ∷ d3 ∷ d4 ∷ d5 ∷ k ∷ l ∷ [])) ≤ 25 + length (join comma (k ∷ l ∷ [])) =
    omega (
      arith,
      join_length comma d1 d2 (d3 ∷ d4 ∷ d5 ∷ k ∷ l ∷ []),
      join_length comma d2 d3 (d4 ∷ d5 ∷ k ∷ l ∷ []),
      join_length comma d3 d4 (d5 ∷ k ∷ l ∷ []),
      join_length comma d4 d5 (k ∷ l ∷ []),
      join_length comma d5 k (l ∷ []),
      decimal_length h.m1 s.short_m1,
      decimal_length h.m2 s.short_m2,
      decimal_length h.slots s.short_slots,
      decimal_length h.additions s.short_additions,
      decimal_length h.doublings s.short_doublings,
    )
    in
    omega (
      arith,
      join_length comma k l [],
      last_length comma l,
      whole_length 16 limits.figures (omega arith) (omega arith) f h.k s.short_k,
      whole_length 16 limits.figures (omega arith) (omega arith) f h.l s.short_l,
    )

-- ── the T lines ─────────────────────────────────────────────────────────────────────────────

odds_small : (d n : ℕ) → d + 2 * n ≤ 100 → Every (λ m. m < 100) (odds d n)
unfolding odds
odds_small d zero h = Every.empty
odds_small d (suc n) h = Every.more {a = d} (omega arith) (odds_small (2 + d) n (omega arith))

odds_length : (d n : ℕ) → length (odds d n) ≡ n
unfolding odds
odds_length d zero = refl
odds_length d (suc n) = ap suc (odds_length (2 + d) n)

multiples_small : (n : ℕ) → n ≤ 15 → Every (λ m. m < 100) (multiples n)
multiples_small zero h = Every.empty
multiples_small (suc n) h = Every.more {a = 2} (omega arith) (odds_small 3 (suc n) (omega arith))

multiples_length : (n : ℕ) → length (multiples n) ≤ n + 1
multiples_length zero = omega arith
multiples_length (suc n) = omega (arith, odds_length 3 (suc n))

few_stored : {m : ℕ} → Window m → stored m ≤ 15
few_stored w = omega (arith, w.within)

map_every : {A B : Type 0} {P : A → Type 0} {Q : B → Type 0} (f : A → B) → ((a : A) → P a → Q (f a)) → {s : List A} → Every P s → Every Q (map f s)
map_every f g Every.empty = Every.empty
map_every f g (Every.more {a} p r) = Every.more (g a p) (map_every f g r)

pub tables_short : {p : Plan} → Valid p → Every ShortPoint (tables p)
tables_short for_j =
    Every.more {a = point (pos 1) (pos 1)} (record { short_p = omega arith; short_q = omega arith })
    (Every.more {a = point (pos 1) (negsuc 0)} (record { short_p = omega arith; short_q = omega arith }) Every.empty)
tables_short (for_i {m1} {m2} v w) =
    every_append
    (map_every (λ (n : ℕ). point (pos n) (pos 0)) (λ n h. record { short_p = h; short_q = omega arith }) (multiples_small (stored m1) (few_stored v)))
    (map_every (λ (n : ℕ). point (pos 0) (pos n)) (λ n h. record { short_p = omega arith; short_q = h }) (multiples_small (stored m2) (few_stored w)))

pub tables_few : {p : Plan} → Valid p → length (tables p) ≤ 32
tables_few for_j = omega arith
tables_few (for_i {m1} {m2} v w) =
    omega (
      arith,
      length-append (map (λ (n : ℕ). point (pos n) (pos 0)) (multiples (stored m1))) (map (λ (n : ℕ). point (pos 0) (pos n)) (multiples (stored m2))),
      length-map (multiples (stored m1)) (λ (n : ℕ). point (pos n) (pos 0)),
      length-map (multiples (stored m2)) (λ (n : ℕ). point (pos 0) (pos n)),
      multiples_length (stored m1),
      multiples_length (stored m2),
      few_stored v,
      few_stored w,
    )

tables_bytes : {ts : List Point} → Every ShortPoint ts → (ls : List Line) → length (spell (map table ts ++ ls)) ≤ 10 * length ts + length (spell ls)
tables_bytes Every.empty ls = omega arith
tables_bytes (Every.more {a = t} {s = ts} s r) ls =
    omega (arith, line_length (table t) (map table ts ++ ls), point_length 84 t s, tables_bytes r ls)

-- ── the steps ───────────────────────────────────────────────────────────────────────────────

turn_short : {p : Plan} {j : ℕ} {t : Point} → Valid p → Turn p j t → ShortPoint t
turn_short v (for_both a b c) = record { short_p = omega arith; short_q = omega arith }
turn_short (for_i v w) (for_p a b c) = record { short_p = omega (arith, v.within); short_q = rw c (omega arith) }
turn_short (for_i v w) (for_q a b c) = record { short_p = rw a (omega arith); short_q = omega (arith, w.within) }

module _ {p : Plan} (limits : Limits) (v : Valid p) where
  moves_short : {n : ℕ} {ms : Moves} → AllowedMoves p n ms → {ls : List Line} → Every (Short limits) ls → Every (Short limits) (move_lines ms ++ ls)
  unfolding move_lines
  moves_short stops r = r
  moves_short (doubles a) r = Every.more tt (moves_short a r)
  moves_short (adds l u a) r = Every.more (turn_short v u) (moves_short a r)

  steps_short : {st : Steps} → Allowed p st → Every (Short limits) (step_lines st ++ (end ∷ []))
  steps_short rests = Every.more tt Every.empty
  steps_short (loads u a) = Every.more (turn_short v u) (moves_short a (Every.more tt Every.empty))

  tables_lines : {ts : List Point} → Every ShortPoint ts → {ls : List Line} → Every (Short limits) ls → Every (Short limits) (map table ts ++ ls)
  tables_lines Every.empty r = r
  tables_lines (Every.more s q) r = Every.more s (tables_lines q r)

module _ {p : Plan} (v : Valid p) where
  moves_bytes : {n : ℕ} {ms : Moves} → AllowedMoves p n ms
      → length (spell (move_lines ms ++ (end ∷ []))) ≤ 2 * move_doubles ms + 10 * additions (move_lines ms ++ (end ∷ [])) + 2
  unfolding move_lines move_doubles additions
  moves_bytes stops = omega (arith, end_length)
  moves_bytes (doubles {ms = ms} a) = omega (arith, double_length (move_lines ms ++ (end ∷ [])), moves_bytes a)
  moves_bytes (adds {t = t} {ms = ms} l u a) =
      omega (arith, line_length (add t) (move_lines ms ++ (end ∷ [])), point_length 65 t (turn_short v u), moves_bytes a)

  steps_bytes : {st : Steps} → Allowed p st
      → length (spell (step_lines st ++ (end ∷ []))) ≤ 2 * step_doubles st + 10 * additions (step_lines st ++ (end ∷ [])) + 12
  unfolding additions
  steps_bytes rests = omega (arith, end_length)
  steps_bytes (loads {t = t} {ms = ms} u a) =
      omega (arith, line_length (load t) (move_lines ms ++ (end ∷ [])), point_length 76 t (turn_short v u), moves_bytes a)

-- ── the sheet ───────────────────────────────────────────────────────────────────────────────

module _ (limits : Limits) {p : Plan} (v : Valid p) (h : Header) (short : ShortHeader limits h) {st : Steps} (a : Allowed p st) where
  -- every line is short enough to be spelled
  pub sheet_short : Every (Short limits) (sheet_lines h (tables p) st)
  unfolding sheet_lines
  sheet_short = Every.more short (tables_lines limits v (tables_short v) (steps_short limits v a))

  -- the bytes of all lines
  pub sheet_bytes : 1 ≤ limits.figures
      → length (spell (sheet_lines h (tables p) st)) ≤ 2 * limits.figures + 2 * step_doubles st + 10 * additions (step_lines st ++ (end ∷ [])) + 365
  unfolding sheet_lines
  sheet_bytes f =
      omega (
        arith,
        line_length (header h) (map table (tables p) ++ (step_lines st ++ (end ∷ []))),
        header_length limits h f short,
        tables_bytes (tables_short v) (step_lines st ++ (end ∷ [])),
        tables_few v,
        steps_bytes v a,
      )

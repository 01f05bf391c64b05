-- The bytes of a sheet, part by part, from the rows that have its columns: header, T lines, steps, E.
use mathlib.Core.Path.{◌≡◌, refl, sym, ap, ap₂, subst, ◌∙◌}
use mathlib.Core.Bool.{not}
use mathlib.Core.List.{List, [], ◌∷◌, ◌++◌, map, reverse, reverse-append, append_assoc}
use Prim.Native.Nat.{ℕ, zero, suc, ◌+◌, ◌-◌, ◌≤◌, ◌<◌}
use native.Mathlib.Omega.{arith}
use lib.Dec.{T}
use lib.IntN.{ℤ}
use lib.ListN.{length, get_or, length-append}
use lib.Seq.{get_or_at}
use Rattle.digits.specs.Buffer.{row_below, columns_below}
use Rattle.digits.specs.Limits.{gateway}
use Rattle.digits.specs.Two.{Column, blank, blank_column, paired}
use Rattle.sheet.specs.declared.Largest.{Largest}
use Rattle.sheet.specs.declared.Plan.{Plan}
use Rattle.sheet.specs.declared.Plan.TheVariants.{J, I}
use Rattle.sheet.specs.Line.{Header, Line, header, table, end}
use Rattle.sheet.specs.Numeral.{numeral}
use Rattle.sheet.specs.Plan.{Point, slots, tables, table_additions, table_doublings, largest}
use Rattle.sheet.specs.Sound.{Steps, step_lines, sheet_lines}
use Rattle.sheet.specs.Spelling.{comma, line_feed, scalar, kind, join, spell}
use Rattle.written.specs.Enough.{gateway_enough}
use Rattle.written.proofs.Laws.Promise.{sheet_cost, sheet_few, sheet_places, sheet_header, sheet_doublings}
use Rattle.written.specs.Written.Lengths.{spell_append}
use Rattle.written.specs.Written.{kind_of, first, second, heading, steps_down, steps_of, additions_of, doublings_of, sheet_of}
use Rattle.writer.specs.Body.Parts.{column_at, columns_down, letters_of, decimals_of, scalars_of, header_bytes, Bounded, Ready}

-- ── the header ──────────────────────────────────────────────────────────────────────────────

regroup : (a b c d e f g : List ℕ) (s : List ℕ)
    → (a ++ comma ∷ (b ++ comma ∷ (c ++ comma ∷ (d ++ comma ∷ (e ++ comma ∷ (f ++ comma ∷ g)))))) ++ line_feed ∷ s
    ≡ ((a ++ comma ∷ []) ++ ((b ++ comma ∷ []) ++ ((c ++ comma ∷ []) ++ ((d ++ comma ∷ []) ++ (e ++ comma ∷ [])))))
    ++ ((f ++ comma ∷ (g ++ line_feed ∷ [])) ++ s)
regroup a b c d e f g s = simp append_assoc

kinds : (x b : List ℕ) (s : List ℕ) → (x ++ comma ∷ b) ++ s ≡ (x ++ comma ∷ []) ++ (b ++ s)
kinds x b s = simp append_assoc

spell_header : (h : Header) (ls : List Line) → spell (header h ∷ ls) ≡ header_bytes h ++ spell ls
unfolding spell join header_bytes letters_of decimals_of scalars_of
spell_header h ls =
    let m1 : List ℕ = numeral 10 h.m1 in
    let m2 : List ℕ = numeral 10 h.m2 in
    let sl : List ℕ = numeral 10 h.slots in
    let ad : List ℕ = numeral 10 h.additions in
    let db : List ℕ = numeral 10 h.doublings in
    let k : List ℕ = scalar h.k in
    let l : List ℕ = scalar h.l in
    let letters : List ℕ = letters_of (kind h.kind) in
    let decimals : List ℕ = decimals_of h.m1 h.m2 h.slots h.additions h.doublings in
    let scalars : List ℕ = scalars_of h.k h.l in
    ap (λ (s : List ℕ). 83 ∷ comma ∷ s)
    (kinds (kind h.kind) (m1 ++ comma ∷ (m2 ++ comma ∷ (sl ++ comma ∷ (ad ++ comma ∷ (db ++ comma ∷ (k ++ comma ∷ l)))))) (line_feed ∷ spell ls)
    ∙ ap (λ (s : List ℕ). (kind h.kind ++ comma ∷ []) ++ s) (regroup m1 m2 sl ad db k l (spell ls)))
    ∙ sym (append_assoc letters (decimals ++ scalars) (spell ls) ∙ ap (λ (s : List ℕ). letters ++ s) (append_assoc decimals scalars (spell ls)))

windows_of : (plan : Plan) → (first plan ≡ (largest plan).p) × (second plan ≡ (largest plan).q)
windows_of J = (refl, refl)
windows_of (I m1 m2) = (refl, refl)

pub header_parts : (plan : Plan) {x slot : ℕ} {w : Largest} (a d : ℕ) (k l : ℤ) → x ∷ [] ≡ kind (kind_of plan) → w ≡ largest plan → slot ≡ slots plan
    → header_bytes (heading plan a d k l) ≡ letters_of (x ∷ []) ++ (decimals_of w.p w.q slot a d ++ scalars_of k l)
unfolding header_bytes
header_parts plan a d k l e f g =
    let u = windows_of plan in
    rw (e, f, g, u.0, u.1)

-- ── the columns of two rows ─────────────────────────────────────────────────────────────────

-- below the next place there is one column more
next_column : (n : ℕ) (p q : List ℕ) → n < length p → n < length q → columns_below (suc n) p q ≡ columns_below n p q ++ (column_at p q n ∷ [])
unfolding columns_below row_below paired
next_column n [] q h g = absurd (omega arith)
next_column n (a ∷ p) [] h g = absurd (omega arith)
next_column zero (a ∷ p) (b ∷ q) h g = refl
next_column (suc n) (a ∷ p) (b ∷ q) h g =
    ap (λ (cs : List Column). column_at (a ∷ p) (b ∷ q) 0 ∷ cs) (next_column n p q (omega arith) (omega arith))

module _ (p q : List ℕ) where
  -- there are as many as places
  columns_long : (n : ℕ) → n ≤ length p → n ≤ length q → length (columns_below n p q) ≡ n
  unfolding columns_below row_below paired
  columns_long zero h g = refl
  columns_long (suc n) h g =
      ap length (next_column n p q h g)
      ∙ length-append (columns_below n p q) (column_at p q n ∷ [])
      ∙ omega (arith, columns_long n (omega arith) (omega arith))

  -- from the highest place down they are the same
  columns_turned : (n : ℕ) → n ≤ length p → n ≤ length q → columns_down p q n ≡ reverse (columns_below n p q)
  unfolding columns_down columns_below row_below paired
  columns_turned zero h g = refl
  columns_turned (suc n) h g =
      ap (λ (cs : List Column). column_at p q n ∷ cs) (columns_turned n (omega arith) (omega arith))
      ∙ sym (ap reverse (next_column n p q h g) ∙ reverse-append (columns_below n p q) (column_at p q n ∷ []))

  -- the top column
  columns_top : (n : ℕ) → n < length p → n < length q → get_or (columns_below (suc n) p q) n blank_column ≡ column_at p q n
  columns_top n h g =
      ap (λ (cs : List Column). get_or cs n blank_column) (next_column n p q h g)
      ∙ get_or_at (columns_below n p q) (column_at p q n) [] blank_column n (columns_long n (omega arith) (omega arith))

-- ── the sheet ───────────────────────────────────────────────────────────────────────────────

end_bytes : spell (end ∷ []) ≡ 69 ∷ line_feed ∷ []
unfolding spell join
end_bytes = refl

sheet_bytes : (h : Header) (ts : List Point) (st : Steps)
    → spell (sheet_lines h ts st) ≡ header_bytes h ++ (spell (map table ts) ++ (spell (step_lines st) ++ (69 ∷ line_feed ∷ [])))
unfolding sheet_lines
sheet_bytes h ts st =
    spell_header h (map table ts ++ (step_lines st ++ (end ∷ [])))
    ∙ ap (λ (s : List ℕ). header_bytes h ++ s)
    (spell_append (map table ts) (step_lines st ++ (end ∷ []))
    ∙ ap (λ (s : List ℕ). spell (map table ts) ++ s) (spell_append (step_lines st) (end ∷ []) ∙ ap (λ (s : List ℕ). spell (step_lines st) ++ s) end_bytes))

-- the parts of a sheet with the counts a and d, from the rows p and q
abbrev pub parts_of : Plan → ℕ → ℕ → ℤ → ℤ → List ℕ → List ℕ → ℕ → List ℕ
parts_of plan a d k l p q places =
    header_bytes (heading plan a d k l)
    ++ (spell (map table (tables plan)) ++ (spell (step_lines (steps_down plan (columns_down p q places))) ++ (69 ∷ line_feed ∷ [])))

module _ {plan : Plan} {k l : ℤ} {p q : List ℕ} {places counted : ℕ} {out : List ℕ} (g : Ready plan k l p q places counted out) where
  -- the columns at the places in use
  abbrev cs : List Column
  cs = columns_below places p q

  long : length cs ≡ places
  long = columns_long p q places g.p_long g.q_long

  pub few_places : places ≤ 1025
  unfolding Bounded
  few_places = subst (λ (n : ℕ). n ≤ 1025) long (sheet_places gateway gateway_enough plan cs k l g.valid g.makes g.k_bounded g.l_bounded)

  pub top_full : (top : ℕ) → places ≡ suc top → T (not (blank (column_at p q top)))
  top_full top e =
      subst (λ (c : Column). T (not (blank c)))
      (ap (λ (n : ℕ). get_or (columns_below n p q) top blank_column) e ∙ columns_top p q top (omega (arith, g.p_long)) (omega (arith, g.q_long)))
      (g.makes.top top (long ∙ e))

  -- the table's additions and those of the columns are the sheet's
  cost : table_additions plan + (counted - 1) ≡ additions_of plan cs k l
  cost = ap (λ (n : ℕ). table_additions plan + (n - 1)) g.heavy ∙ sym (sheet_cost plan cs k l g.makes)

  -- so the plan counts few
  pub few_counted : table_additions plan + (counted - 1) ≤ 2080
  unfolding Bounded
  few_counted = omega (arith, cost, sheet_few gateway gateway_enough plan cs k l g.valid g.makes g.k_bounded g.l_bounded)

  -- what is added up are the additions and the doublings of the sheet
  pub additions_are : (t r : ℕ) → t ≡ table_additions plan → r ≡ counted - 1 → t + r ≡ additions_of plan cs k l
  additions_are t r e f = ap₂ (λ (x y : ℕ). x + y) e f ∙ cost

  pub doublings_are : (u r : ℕ) → u ≡ table_doublings plan → r ≡ places - 1 → u + r ≡ doublings_of plan cs k l
  doublings_are u r e f =
      ap₂ (λ (x y : ℕ). x + y) e (f ∙ ap (λ (n : ℕ). n - 1) (sym long)) ∙ sym (sheet_doublings plan cs k l g.makes)

  -- the whole sheet
  pub sheet_parts : (a d : ℕ) → a ≡ additions_of plan cs k l → d ≡ doublings_of plan cs k l
      → sheet_of plan cs k l ≡ parts_of plan a d k l p q places
  unfolding sheet_of steps_of
  sheet_parts a d e f =
      ap spell (sheet_header plan cs k l)
      ∙ sheet_bytes (heading plan (additions_of plan cs k l) (doublings_of plan cs k l) k l) (tables plan) (steps_down plan (reverse cs))
      ∙ sym (ap₂ (λ (x : Header) (ds : List Column). header_bytes x ++ (spell (map table (tables plan)) ++ (spell (step_lines (steps_down plan ds)) ++ (69 ∷ line_feed ∷ [])))) (ap₂ (λ (x y : ℕ). heading plan x y k l) e f) (columns_turned p q places g.p_long g.q_long))

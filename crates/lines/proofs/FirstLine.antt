-- The header that a sheet begins with, and back from it to the scalars in its fields.
use mathlib.Core.Path.{◌≡◌, refl, sym, ap, ◌∙◌}
use mathlib.Core.Bool.{Bool, true, false}
use mathlib.Core.List.{List, [], ◌∷◌}
use mathlib.Core.Option.{Option, none, some}
use Prim.Native.Nat.{ℕ, ◌+◌, ◌≤◌, ◌<◌}
use native.Mathlib.Omega.{arith}
use lib.IntN.{ℤ, pos}
use lib.ListN.{length, get_or, take, drop}
use Rattle.digits.specs.declared.limits.Limits.{Limits}
use Rattle.sheet.specs.Line as spec
use Rattle.sheet.specs.Line.{header, table, load, double, add, end, misspelled}
use Rattle.sheet.specs.Spelling.{line_feed, comma, cut, letter, read_kind, read_decimal, read_scalar, read_header, ◌>>=◌, read_line, read_lines, lines}
use Rattle.sheet.specs.Spelling.Cut.{lines_none}
use Rattle.sheet.specs.Spelling.Field.{First, is_whole, whole_of}
use Rattle.lines.specs.Coded.{coded_header, coded_heading, heading_of, opening_of, Opened, head_field, ScalarIn}
use Rattle.lines.specs.declared.header.Header as header_of
use Rattle.std.specs.declared.option.Option.TheVariants.{Some, None}
use Rattle.lines.proofs.AsRead.{read_some, read_none}
use Rattle.lines.proofs.LineAt.{lines_at, lines_end}
use Rattle.lines.proofs.HeaderRead.{scalar_read, never, headed}

bind_some : {A B : Type 0} (o : Option A) (f : A → Option B) (b : B) → (o >>= f) ≡ some b → (a : A) × (o ≡ some a) × (f a ≡ some b)
bind_some none f b e = let z : ◌≡◌ {A = ℕ} 0 1 = cc in absurd (omega arith)
bind_some (some a) f b e = (a, refl, e)

abbrev k_of : Option spec.Header → ℤ
k_of none = pos 0
k_of (some h) = h.k

abbrev l_of : Option spec.Header → ℤ
l_of none = pos 0
l_of (some h) = h.l

-- both scalars were read
scalars : (limits : Limits) (fs : List (List ℕ)) (h : spec.Header) → read_header limits fs ≡ some h → (read_scalar limits (get_or fs 7 []) ≡ some h.k) × (read_scalar limits (get_or fs 8 []) ≡ some h.l)
unfolding read_header
scalars limits fs h e =
    let (kind, e1, f1) = bind_some (read_kind (get_or fs 1 [])) _ h e in
    let (m1, e2, f2) = bind_some (read_decimal (get_or fs 2 [])) _ h f1 in
    let (m2, e3, f3) = bind_some (read_decimal (get_or fs 3 [])) _ h f2 in
    let (slots, e4, f4) = bind_some (read_decimal (get_or fs 4 [])) _ h f3 in
    let (additions, e5, f5) = bind_some (read_decimal (get_or fs 5 [])) _ h f4 in
    let (doublings, e6, f6) = bind_some (read_decimal (get_or fs 6 [])) _ h f5 in
    let (k, e7, f7) = bind_some (read_scalar limits (get_or fs 7 [])) _ h f6 in
    let (l, e8, f8) = bind_some (read_scalar limits (get_or fs 8 [])) _ h f7 in
    (e7 ∙ ap (λ (o : Option spec.Header). some (k_of o)) f8, e8 ∙ ap (λ (o : Option spec.Header). some (l_of o)) f8)

line_headed : (limits : Limits) (s : List ℕ) (h : spec.Header) → read_line limits s ≡ header h → read_header limits (cut comma s) ≡ some h
unfolding read_line
line_headed limits s h e = headed limits (letter (get_or (cut comma s) 0 [])) (cut comma s) h (ap heading_of e)

-- the first of the lines
first_of : (limits : Limits) (parts : List (List ℕ)) (h : spec.Header) (ls : List spec.Line) → read_lines limits parts ≡ header h ∷ ls → read_line limits (get_or parts 0 []) ≡ header h
unfolding read_lines
first_of limits [] h ls e = let z : ◌≡◌ {A = ℕ} 0 1 = cc in absurd (omega arith)
first_of limits ([] ∷ []) h ls e = let z : ◌≡◌ {A = ℕ} 0 1 = cc in absurd (omega arith)
first_of limits ((c ∷ s) ∷ []) h ls e = let i : misspelled ≡ header h = cc in let z : ◌≡◌ {A = ℕ} 0 1 = cc in absurd (omega arith)
first_of limits ([] ∷ t ∷ ss) h ls e = cc
first_of limits ((c ∷ s) ∷ t ∷ ss) h ls e = cc

-- a scalar that was read is that of its field
scalar_value : (limits : Limits) (f : List ℕ) (k : ℤ) → read_scalar limits f ≡ some k → (is_whole 16 limits.figures f ≡ true) × (whole_of 16 f ≡ k)
scalar_value limits f k e = go (is_whole 16 limits.figures f) refl
  where
    go : (b : Bool) → is_whole 16 limits.figures f ≡ b → (is_whole 16 limits.figures f ≡ true) × (whole_of 16 f ≡ k)
    go true i = let g = sym (scalar_read limits f true i) ∙ e in (i, cc)
    go false i = let g = sym (scalar_read limits f false i) ∙ e in let z : ◌≡◌ {A = ℕ} 0 1 = cc in absurd (omega arith)

-- the two fields are scalars, and their values are k and l
pub record Scalars (limits : Limits) (s : List ℕ) (h : spec.Header) : Type 0 where
  pub is_k : ScalarIn limits s 7
  pub is_l : ScalarIn limits s 8
  pub k : whole_of 16 (head_field s 7) ≡ h.k
  pub l : whole_of 16 (head_field s 8) ≡ h.l

pub head_scalars : (limits : Limits) (s : List ℕ) (h : spec.Header) (ls : List spec.Line) → lines limits s ≡ header h ∷ ls → Scalars limits s h
unfolding lines
head_scalars limits s h ls e =
    let f = line_headed limits (get_or (cut line_feed s) 0 []) h (first_of limits (cut line_feed s) h ls e) in
    let (a, b) = scalars limits (cut comma (get_or (cut line_feed s) 0 [])) h f in
    let x = scalar_value limits (head_field s 7) h.k a in
    let y = scalar_value limits (head_field s 8) h.l b in
    record { is_k = x.0; is_l = y.0; k = x.1; l = y.1 }

-- ── the first line ──────────────────────────────────────────────────────────────────────────

is_header : (x : spec.Line) (h : spec.Header) → heading_of x ≡ some h → x ≡ header h
is_header (header y) h e = let i : y ≡ h = cc in ap header i
is_header (table t) h e = never e
is_header (load t) h e = never e
is_header double h e = never e
is_header (add t) h e = never e
is_header end h e = never e
is_header misspelled h e = never e

module _ (limits : Limits) (s : List ℕ) (n : ℕ) (f : First line_feed s n) where
  module _ (w : n < length s) where
    first_line : lines limits s ≡ read_line limits (take n s) ∷ lines limits (drop (n + 1) s)
    first_line = let next : 0 + n + 1 ≡ n + 1 = omega arith in lines_at limits s 0 n f w ∙ ap (λ (m : ℕ). read_line limits (take n s) ∷ lines limits (drop m s)) next

    pub opened : (u : header_of.Header) → Some u ≡ coded_heading (heading_of (read_line limits (take n s))) → Opened limits s u (n + 1)
    opened u e =
        let (h, i, j) = read_some (heading_of (read_line limits (take n s))) e in
        record {
          h = h;
          is = j;
          rest = first_line ∙ ap (λ (l : spec.Line). l ∷ lines limits (drop (n + 1) s)) (is_header (read_line limits (take n s)) h i);
          later = omega arith;
          within = omega arith;
        }

    pub unheaded : None ≡ coded_heading (heading_of (read_line limits (take n s))) → opening_of (lines limits s) ≡ none
    unheaded e = ap opening_of first_line ∙ read_none coded_header (heading_of (read_line limits (take n s))) e

  pub unended : length s ≤ n → opening_of (lines limits s) ≡ none
  unended w = go s refl
    where
      go : (t : List ℕ) → t ≡ s → opening_of (lines limits s) ≡ none
      go [] e = ap (λ (l : List ℕ). opening_of (lines limits l)) (sym e) ∙ ap opening_of (lines_none limits)
      go (b ∷ t) e = ap opening_of (lines_end limits s 0 n f (omega (arith, ap length e)) w)

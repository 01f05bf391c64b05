-- Reading what is spelled gives the lines back. Assumes nothing.
use Rattle.std.specs.Prelude.{◌≡◌, ◌≢◌, true, List, [], ◌∷◌, ◌++◌, ℕ, suc, ◌^◌, ◌≤◌, ◌<◌, ltb, get_or, ℤ, pos, negsuc, nat_abs}
use Rattle.std.proofs.Math.Path.{refl}
use Rattle.std.proofs.Common.{ap, ◌∙◌, arith, ltb-true}
use Rattle.std.proofs.Math.Bool.{and-eq-true_iff}
use Rattle.std.proofs.Math.Option.{some}
use Prim.Native.Char.{code}
use Rattle.digits.specs.declared.limits.Limits.{Limits}
use Rattle.sheet.specs.Plan.{Point}
use Rattle.sheet.specs.Numeral.{worth, numeral, figures, number}
use Rattle.sheet.specs.Numeral.Read.{number_numeral, numeral_figures}
use Rattle.sheet.specs.Line.{Kind, joint, interleaved, Header, Line, header, table, load, double, add, end, misspelled}
use Rattle.sheet.specs.Spelling.{line_feed, comma, minus, whole, scalar, digit, kind, fields, join, spell, cut, letter, read_kind, read_scalar, read_digit, read_point, read_header, read_behind, read_line, lines}
use Rattle.sheet.specs.Every.{Every, empty, more, every_append}
use Rattle.sheet.specs.Spelling.Cut.{Lacks, cut_join, lines_none, lines_more}
use Rattle.sheet.proofs.Laws.Spelling.Whole.{read_whole_lem}
use Rattle.sheet.specs.Spelling.Spelled.{Short, ShortHeader, ShortPoint}

-- figures lack every byte that is none
figures_lack : (base b : ℕ) → base ≤ 16 → worth b ≡ 16 → (s : List ℕ) → figures base s ≡ true → Lacks b s
unfolding figures
figures_lack base b h w [] e = empty
figures_lack base b h w (c ∷ s) e =
    let (first, others) = (and-eq-true_iff (ltb (worth c) base) (figures base s)).0 e in
    more (other first) (figures_lack base b h w s others)
  where
    other : ltb (worth c) base ≡ true → c ≢ b
    other f g = let l : worth c < base = ltb-true (worth c) base f in omega (arith, ap worth g)

-- a byte before the minus that is no figure
module _ (b : ℕ) (w : worth b ≡ 16) (before : b < minus) where
  numeral_lacks : (base n : ℕ) → 2 ≤ base → base ≤ 16 → Lacks b (numeral base n)
  numeral_lacks base n p q = figures_lack base b q w (numeral base n) (numeral_figures base p q n)

  decimal_lacks : (n : ℕ) → Lacks b (numeral 10 n)
  decimal_lacks n = numeral_lacks 10 n (omega arith) (omega arith)

  whole_lacks : (base : ℕ) → 2 ≤ base → base ≤ 16 → (z : ℤ) → Lacks b (whole base z)
  whole_lacks base p q (pos n) = numeral_lacks base n p q
  whole_lacks base p q (negsuc n) = more other (numeral_lacks base (suc n) p q)
    where
      other : minus ≢ b
      other = omega arith

  scalar_lacks : (z : ℤ) → Lacks b (scalar z)
  scalar_lacks z = whole_lacks 16 (omega arith) (omega arith) z

  digit_lacks : (z : ℤ) → Lacks b (digit z)
  digit_lacks z = whole_lacks 10 (omega arith) (omega arith) z

  letter_lacks : (c : ℕ) → minus < c → Lacks b (c ∷ [])
  letter_lacks c h = more other empty
    where
      other : c ≢ b
      other = omega arith

  kind_lacks : (k : Kind) → Lacks b (kind k)
  kind_lacks joint = letter_lacks (code "J") (omega arith)
  kind_lacks interleaved = letter_lacks (code "I") (omega arith)

  point_lacks : (c : ℕ) → minus < c → (t : Point) → Every (Lacks b) ((c ∷ []) ∷ digit t.p ∷ digit t.q ∷ [])
  point_lacks c h t = more (letter_lacks c h) (more (digit_lacks t.p) (more (digit_lacks t.q) empty))

  fields_lack : (l : Line) → Every (Lacks b) (fields l)
  fields_lack (header h) =
      more (letter_lacks (code "S") (omega arith))
      (more (kind_lacks h.kind)
      (more (decimal_lacks h.m1)
      (more (decimal_lacks h.m2)
      (more (decimal_lacks h.slots)
      (more (decimal_lacks h.additions)
      (more (decimal_lacks h.doublings)
      (more (scalar_lacks h.k)
      (more (scalar_lacks h.l)
      empty))))))))
  fields_lack (table t) = point_lacks (code "T") (omega arith) t
  fields_lack (load t) = point_lacks (code "L") (omega arith) t
  fields_lack double = more (letter_lacks (code "D") (omega arith)) empty
  fields_lack (add t) = point_lacks (code "A") (omega arith) t
  fields_lack end = more (letter_lacks (code "E") (omega arith)) empty
  fields_lack misspelled = more empty empty

-- a digit is read back
read_digit_lem : (z : ℤ) → nat_abs z < 100 → read_digit (digit z) ≡ some z
read_digit_lem z h = read_whole_lem 10 2 (omega arith) (omega arith) z (omega arith) h

read_kind_lem : (k : Kind) → read_kind (kind k) ≡ some k
read_kind_lem joint = refl
read_kind_lem interleaved = refl

-- fields joined by a byte lack another
join_lacks : (b c : ℕ) → c ≢ b → (fs : List (List ℕ)) → Every (Lacks b) fs → Lacks b (join c fs)
unfolding join
join_lacks b c n [] empty = empty
join_lacks b c n (f ∷ []) (more l empty) = l
join_lacks b c n (f ∷ g ∷ fs) (more l r) = every_append l (more n (join_lacks b c n (g ∷ fs) r))

-- the fields of a line are read back
read_decimal_lem : (n : ℕ) → n < 10000 → number 10 4 (numeral 10 n) ≡ some n
read_decimal_lem n h = number_numeral 10 (omega arith) (omega arith) 4 n (omega arith) h

read_point_lem : (c : ℕ) (t : Point) → ShortPoint t → read_point ((c ∷ []) ∷ digit t.p ∷ digit t.q ∷ []) ≡ some t
unfolding read_point
read_point_lem c t s = rw (read_digit_lem t.p s.short_p, read_digit_lem t.q s.short_q)

module _ (limits : Limits) (some_figures : 1 ≤ limits.figures) where
  read_scalar_lem : (z : ℤ) → nat_abs z < 16 ^ limits.figures → read_scalar limits (scalar z) ≡ some z
  read_scalar_lem z h = read_whole_lem 16 limits.figures (omega arith) (omega arith) z some_figures h

  read_header_lem : (h : Header) → ShortHeader limits h → read_header limits (fields (header h)) ≡ some h
  unfolding read_header
  read_header_lem h s =
      rw (
        read_kind_lem h.kind,
        read_decimal_lem h.m1 s.short_m1,
        read_decimal_lem h.m2 s.short_m2,
        read_decimal_lem h.slots s.short_slots,
        read_decimal_lem h.additions s.short_additions,
        read_decimal_lem h.doublings s.short_doublings,
        read_scalar_lem h.k s.short_k,
        read_scalar_lem h.l s.short_l,
      )

  read_fields : (l : Line) → Short limits l → read_behind limits (letter (get_or (fields l) 0 [])) (fields l) ≡ l
  unfolding read_behind
  read_fields (header h) s = rw (read_header_lem h s)
  read_fields (table t) s = rw (read_point_lem (code "T") t s)
  read_fields (load t) s = rw (read_point_lem (code "L") t s)
  read_fields double s = refl
  read_fields (add t) s = rw (read_point_lem (code "A") t s)
  read_fields end s = refl
  read_fields misspelled s = refl

-- the fields of a line are cut where they were joined
cut_fields : (l : Line) → cut comma (join comma (fields l)) ≡ fields l
cut_fields (header h) = cut_join (fields_lack comma refl (omega arith) (header h))
cut_fields (table t) = cut_join (fields_lack comma refl (omega arith) (table t))
cut_fields (load t) = cut_join (fields_lack comma refl (omega arith) (load t))
cut_fields double = cut_join (fields_lack comma refl (omega arith) double)
cut_fields (add t) = cut_join (fields_lack comma refl (omega arith) (add t))
cut_fields end = cut_join (fields_lack comma refl (omega arith) end)
cut_fields misspelled = cut_join (fields_lack comma refl (omega arith) misspelled)

-- a spelled line is read back, whatever stands behind it
pub spelled_line : (limits : Limits) → 1 ≤ limits.figures → (l : Line) → Short limits l → (t : List ℕ)
    → lines limits (join comma (fields l) ++ line_feed ∷ t) ≡ l ∷ lines limits t
spelled_line limits h l s t =
    lines_more limits (join_lacks line_feed comma (omega arith) (fields l) (fields_lack line_feed refl (omega arith) l)) t
    ∙ ap (λ (x : Line). x ∷ lines limits t) (unfold read_line in rw (cut_fields l) (read_fields limits h l s))

-- reading what is spelled gives the lines back
pub spelled_read : (limits : Limits) → 1 ≤ limits.figures → (ls : List Line) → Every (Short limits) ls → lines limits (spell ls) ≡ ls
unfolding spell
spelled_read limits h [] empty = lines_none limits
spelled_read limits h (l ∷ ls) (more s r) = spelled_line limits h l s (spell ls) ∙ ap (λ (xs : List Line). l ∷ xs) (spelled_read limits h ls r)

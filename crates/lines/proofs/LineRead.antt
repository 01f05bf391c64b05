-- What the parsers of a line answer, from its letter and its fields.
use mathlib.Core.Path.{◌≡◌, refl, sym, ap, ◌∙◌}
use mathlib.Core.Logic.{◌≢◌}
use mathlib.Core.Bool.{Bool, true, false, cond}
use mathlib.Core.List.{List, [], ◌∷◌}
use mathlib.Core.Option.{Option, none, some}
use Prim.Native.Nat.{ℕ, suc, ◌+◌, ◌≤◌, ◌<◌}
use native.Mathlib.Numerals.{add-one}
use native.Mathlib.Omega.{arith}
use lib.Dec.{eqb}
use lib.ListN.{length, get_or, take, drop}
use borrow.Author.Tests.{eq-eqb, ne_eqb, eqb-true, eqb-false}
use Rattle.digits.specs.declared.limits.Limits.{Limits}
use Rattle.sheet.specs.Plan.{Point}
use Rattle.sheet.specs.Line as spec
use Rattle.sheet.specs.Line.{header, table, load, double, add, end, misspelled}
use Rattle.sheet.specs.Spelling.{comma, cut, letter, read_point, read_header, made, sized, read_behind, read_line}
use Rattle.sheet.specs.Spelling.Cut.{cut_some}
use Rattle.sheet.specs.Spelling.Field.{First}
use Rattle.sheet.proofs.CutTurns.{first_last, first_part, first_zero}
use Rattle.lines.specs.Coded.{coded, pointed, stepped}
use Rattle.lines.specs.declared.line.Line.TheVariants.{Double, End, Other}

-- the line of a letter and the fields
module _ (limits : Limits) (c : ℕ) (fs : List (List ℕ)) where
  behind_s : c ≡ 83 → read_behind limits c fs ≡ sized 9 fs (made header (read_header limits fs))
  unfolding read_behind
  behind_s e = rw e

  behind_d : c ≡ 68 → read_behind limits c fs ≡ sized 1 fs double
  unfolding read_behind
  behind_d e = rw e

  behind_e : c ≡ 69 → read_behind limits c fs ≡ sized 1 fs end
  unfolding read_behind
  behind_e e = rw e

  lost_cases : (t l a : Bool) → misspelled ≡ cond t misspelled (cond l misspelled (cond a misspelled misspelled))
  lost_cases true l a = refl
  lost_cases false true a = refl
  lost_cases false false true = refl
  lost_cases false false false = refl

  step_cases : (o : Option Point) → cond (eqb c 84) (made table o) (cond (eqb c 76) (made load o) (cond (eqb c 65) (made add o) misspelled)) ≡ pointed c o
  step_cases none = sym (lost_cases (eqb c 84) (eqb c 76) (eqb c 65))
  step_cases (some p) = refl

  module _ (s : c ≢ 83) (d : c ≢ 68) (e : c ≢ 69) where
    behind_step : length fs ≡ 3 → read_behind limits c fs ≡ pointed c (read_point fs)
    unfolding read_behind
    behind_step n =
        rw (ne_eqb c 83 s, ne_eqb c 68 d, ne_eqb c 69 e, eq-eqb (length fs) 3 n)
        (step_cases (read_point fs))

    behind_lost : length fs ≢ 3 → misspelled ≡ read_behind limits c fs
    unfolding read_behind
    behind_lost n =
        rw (ne_eqb c 83 s, ne_eqb c 68 d, ne_eqb c 69 e, ne_eqb (length fs) 3 n)
        (lost_cases (eqb c 84) (eqb c 76) (eqb c 65))

sized_wrong : (n : ℕ) (fs : List (List ℕ)) (l : spec.Line) → length fs ≢ n → misspelled ≡ sized n fs l
sized_wrong n fs l e = rw (ne_eqb (length fs) n e)

-- a header line, well spelled or not
coded_s : (limits : Limits) (c : ℕ) (fs : List (List ℕ)) → c ≡ 83 → coded (read_behind limits c fs) ≡ Other
coded_s limits c fs e = ap coded (behind_s limits c fs e) ∙ go (eqb (length fs) 9) (read_header limits fs)
  where
    go : (b : Bool) (o : Option spec.Header) → coded (cond b (made header o) misspelled) ≡ Other
    go true none = refl
    go true (some h) = refl
    go false o = refl

-- a letter that no step has
pointed_lost : (c : ℕ) → c ≢ 84 → c ≢ 76 → c ≢ 65 → (o : Option Point) → pointed c o ≡ misspelled
pointed_lost c x y z none = refl
pointed_lost c x y z (some t) = rw (ne_eqb c 84 x, ne_eqb c 76 y, ne_eqb c 65 z)

stepped_lost : (c : ℕ) (fs : List (List ℕ)) → c ≢ 84 → c ≢ 76 → c ≢ 65 → misspelled ≡ stepped c fs
stepped_lost c fs x y z = go (eqb (length fs) 2)
  where
    go : (b : Bool) → misspelled ≡ cond b (pointed c (read_point ([] ∷ fs))) misspelled
    go true = sym (pointed_lost c x y z (read_point ([] ∷ fs)))
    go false = refl

-- the line of a letter and the fields of s behind it
pub behind_more : (limits : Limits) (c : ℕ) (f s : List ℕ) → c ≢ 83 → stepped c (cut comma s) ≡ read_behind limits c (f ∷ cut comma s)
unfolding read_point
behind_more limits c f s n = go_d (eqb c 68) refl
  where
    some_field : (length (f ∷ cut comma s) ≡ 1) → ⊥
    some_field e = let (g, gs, i) = cut_some comma s in absurd (omega (arith, e, ap length i))

    go_3 : c ≢ 68 → c ≢ 69 → (b : Bool) → eqb (length (cut comma s)) 2 ≡ b → stepped c (cut comma s) ≡ read_behind limits c (f ∷ cut comma s)
    go_3 d e true i =
        let two : length (cut comma s) ≡ 2 = eqb-true (length (cut comma s)) 2 i in
        rw i (sym (behind_step limits c (f ∷ cut comma s) n d e (omega (arith, two))))
    go_3 d e false i =
        let other : length (cut comma s) ≢ 2 = eqb-false (length (cut comma s)) 2 i in
        rw i (behind_lost limits c (f ∷ cut comma s) n d e (λ k. other (omega (arith, k))))

    go_e : c ≢ 68 → (b : Bool) → eqb c 69 ≡ b → stepped c (cut comma s) ≡ read_behind limits c (f ∷ cut comma s)
    go_e d true i =
        let e : c ≡ 69 = eqb-true c 69 i in
        sym (stepped_lost c (cut comma s) (λ k. absurd (omega arith)) (λ k. absurd (omega arith)) (λ k. absurd (omega arith)))
        ∙ sized_wrong 1 (f ∷ cut comma s) end some_field
        ∙ sym (behind_e limits c (f ∷ cut comma s) e)
    go_e d false i = go_3 d (eqb-false c 69 i) (eqb (length (cut comma s)) 2) refl

    go_d : (b : Bool) → eqb c 68 ≡ b → stepped c (cut comma s) ≡ read_behind limits c (f ∷ cut comma s)
    go_d true i =
        let d : c ≡ 68 = eqb-true c 68 i in
        sym (stepped_lost c (cut comma s) (λ k. absurd (omega arith)) (λ k. absurd (omega arith)) (λ k. absurd (omega arith)))
        ∙ sized_wrong 1 (f ∷ cut comma s) double some_field
        ∙ sym (behind_d limits c (f ∷ cut comma s) d)
    go_d false i = go_e (eqb-false c 68 i) (eqb c 69) refl

line_behind : (limits : Limits) (s : List ℕ) (c : ℕ) → c ≡ letter (get_or (cut comma s) 0 []) → read_behind limits c (cut comma s) ≡ read_line limits s
unfolding read_line
line_behind limits s c e = rw (← e)

-- the line of s, whose first field ends at n
module _ (limits : Limits) (s : List ℕ) (n c : ℕ) (f : First comma s n) (e : c ≡ letter (take n s)) where
  line_first : read_behind limits c (cut comma s) ≡ read_line limits s
  line_first = line_behind limits s c (e ∙ ap letter (first_zero f))

  line_alone : length s ≤ n → read_behind limits c (s ∷ []) ≡ read_line limits s
  line_alone h = ap (read_behind limits c) (sym (first_last f h)) ∙ line_first

  line_more : n < length s → c ≢ 83 → stepped c (cut comma (drop (n + 1) s)) ≡ read_line limits s
  line_more h k = rw add-one (behind_more limits c (take n s) (drop (suc n) s) k) ∙ ap (read_behind limits c) (sym (first_part f h)) ∙ line_first

  line_headed : c ≡ 83 → coded (read_line limits s) ≡ Other
  line_headed k = ap coded (sym line_first) ∙ coded_s limits c (cut comma s) k

  -- there is no letter
  pub coded_none : c ≡ 0 → Other ≡ coded (read_line limits s)
  unfolding read_behind
  coded_none z = ap coded (rw z at line_first)

  -- the line by its letter
  pub coded_more : n < length s → coded (stepped c (cut comma (drop (n + 1) s))) ≡ coded (read_line limits s)
  coded_more h = go (eqb c 83) refl
    where
      go : (b : Bool) → eqb c 83 ≡ b → coded (stepped c (cut comma (drop (n + 1) s))) ≡ coded (read_line limits s)
      go true i =
          let k : c ≡ 83 = eqb-true c 83 i in
          ap coded (sym (stepped_lost c (cut comma (drop (n + 1) s)) (λ e. absurd (omega arith)) (λ e. absurd (omega arith)) (λ e. absurd (omega arith)))) ∙ sym (line_headed k)
      go false i = ap coded (line_more h (eqb-false c 83 i))

  module _ (h : length s ≤ n) where
    pub coded_d : c ≡ 68 → Double ≡ coded (read_line limits s)
    coded_d d = ap coded (sym (behind_d limits c (s ∷ []) d) ∙ line_alone h)

    pub coded_e : c ≡ 69 → End ≡ coded (read_line limits s)
    coded_e e = ap coded (sym (behind_e limits c (s ∷ []) e) ∙ line_alone h)

    pub coded_other : c ≢ 68 → c ≢ 69 → Other ≡ coded (read_line limits s)
    coded_other d e = go (eqb c 83) refl
      where
        go : (b : Bool) → eqb c 83 ≡ b → Other ≡ coded (read_line limits s)
        go true i = sym (line_headed (eqb-true c 83 i))
        go false i = ap coded (behind_lost limits c (s ∷ []) (eqb-false c 83 i) d e (λ k. absurd (omega arith)) ∙ line_alone h)

-- the two fields of s, of which the first ends at n
module _ (s : List ℕ) (n c : ℕ) (f : First comma s n) where
  pub stepped_one : length s ≤ n → misspelled ≡ stepped c (cut comma s)
  stepped_one h = rw (first_last f h)

  module _ (h : n < length s) (m : ℕ) (g : First comma (drop (n + 1) s) m) where
    first_two : cut comma s ≡ take n s ∷ cut comma (drop (n + 1) s)
    first_two = rw add-one (first_part f h)

    pub stepped_more : m < length (drop (n + 1) s) → misspelled ≡ stepped c (cut comma s)
    stepped_more k =
        let (t, ts, i) = cut_some comma (drop (suc m) (drop (n + 1) s)) in
        let parts : cut comma s ≡ take n s ∷ take m (drop (n + 1) s) ∷ t ∷ ts = first_two ∙ ap (λ (l : List (List ℕ)). take n s ∷ l) (first_part g k ∙ ap (λ (l : List (List ℕ)). take m (drop (n + 1) s) ∷ l) i) in
        ap (λ (b : Bool). cond b (pointed c (read_point ([] ∷ cut comma s))) misspelled) (sym (ne_eqb (length (cut comma s)) 2 (λ z. absurd (omega (arith, z, ap length parts)))))

    pub stepped_two : length (drop (n + 1) s) ≤ m → pointed c (read_point ([] ∷ take n s ∷ drop (n + 1) s ∷ [])) ≡ stepped c (cut comma s)
    stepped_two k = ap (stepped c) (sym (first_two ∙ ap (λ (l : List (List ℕ)). take n s ∷ l) (first_last g k)))

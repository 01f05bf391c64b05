-- The plan's own T lines by their place, and the tests of a point. From the definitions of Plan and Questions.
use mathlib.Core.Path.{◌≡◌, refl, sym, ap, ap₂, ◌∙◌}
use mathlib.Core.Bool.{Bool, true, false}
use mathlib.Core.List.{List, [], ◌∷◌, ◌++◌, map}
use Prim.Native.Nat.{ℕ, zero, suc, ◌+◌, ◌*◌, ◌-◌, ◌/◌, ◌≤◌, ◌<◌}
use native.Mathlib.Omega.{arith}
use lib.Dec.{eqb}
use lib.IntN.{ℤ, pos, negsuc}
use lib.ListN.{length, get_or, drop, length-append, get_or-append, get_or-map}
use lib.Seq.{drop-cons, get_or-append-add}
use borrow.Author.Tests.{eq-eqb, ne_eqb, eqb-true}
use Rattle.sheet.specs.declared.Plan.TheVariants.{I}
use Rattle.sheet.specs.Plan.{Point, point, stored, odds, multiples, tables}
use Rattle.sheet.specs.Questions.{same_number, same_point}
use Rattle.survey.specs.Survey.State.{is_next, multiple_at}

-- ── the tests of a number ───────────────────────────────────────────────────────────────────

eqb_comm : (a b : ℕ) → eqb a b ≡ eqb b a
eqb_comm a b = go (eqb a b) refl
  where
    go : (t : Bool) → eqb a b ≡ t → t ≡ eqb b a
    go true e = sym (eq-eqb b a (sym (eqb-true a b e)))
    go false e = sym (ne_eqb b a (λ f. borrow.Author.Tests.eqb-false a b e (sym f)))

number_comm : (y z : ℤ) → same_number y z ≡ same_number z y
number_comm (pos m) (pos n) = eqb_comm m n
number_comm (pos m) (negsuc n) = refl
number_comm (negsuc m) (pos n) = refl
number_comm (negsuc m) (negsuc n) = eqb_comm m n

pub point_comm : (s t : Point) → same_point s t ≡ same_point t s
point_comm s t = rw (number_comm s.p t.p, number_comm s.q t.q)

-- ── a point's place in a list ───────────────────────────────────────────────────────────────

next_in : (us : List Point) (n : ℕ) (x d : Point) → n < length us → same_point x (get_or us n d) ≡ is_next (drop n us) x
next_in us n x d h = rw (drop-cons us n d h) (point_comm x (get_or us n d))

length_map : (f : ℕ → Point) (l : List ℕ) → length (map f l) ≡ length l
length_map f [] = refl
length_map f (a ∷ l) = ap suc (length_map f l)

odds_length : (d n : ℕ) → length (odds d n) ≡ n
unfolding odds
odds_length d zero = refl
odds_length d (suc n) = ap suc (odds_length (2 + d) n)

odds_at : (d n i : ℕ) → i < n → get_or (odds d n) i 0 ≡ d + 2 * i
unfolding odds
odds_at d zero i h = absurd (omega arith)
odds_at d (suc n) zero h = omega arith
odds_at d (suc n) (suc i) h = odds_at (2 + d) n i (omega arith) ∙ omega arith

multiples_at : (c i : ℕ) → i < length (multiples c) → get_or (multiples c) i 0 ≡ multiple_at i
multiples_at zero i h = absurd (omega arith)
multiples_at (suc c) zero h = refl
multiples_at (suc c) (suc i) h = odds_at 3 (suc c) i (omega (arith, odds_length 3 (suc c)))

pub multiples_some : (m : ℕ) → 3 ≤ m → (m - 1) / 2 + 1 ≡ length (multiples (stored m))
multiples_some m h = go (stored m) refl
  where
    go : (k : ℕ) → stored m ≡ k → stored m + 1 ≡ length (multiples k)
    go zero e = absurd (omega arith)
    go (suc k) e = omega (arith, odds_length 3 (suc k))

-- ── the T lines of plan I ───────────────────────────────────────────────────────────────────

module _ (m1 m2 n : ℕ) (x : Point) where
  abbrev A : List Point
  A = map (λ i. point (pos i) (pos 0)) (multiples (stored m1))

  abbrev B : List Point
  B = map (λ i. point (pos 0) (pos i)) (multiples (stored m2))

  pub lengths : length (A ++ B) ≡ length (multiples (stored m1)) + length (multiples (stored m2))
  lengths =
      length-append A B
      ∙ ap₂ (λ (a b : ℕ). a + b) (length_map (λ i. point (pos i) (pos 0)) (multiples (stored m1))) (length_map (λ i. point (pos 0) (pos i)) (multiples (stored m2)))

  length_a : length A ≡ length (multiples (stored m1))
  length_a = length_map (λ i. point (pos i) (pos 0)) (multiples (stored m1))

  pub table_first : n < length (multiples (stored m1)) → same_point x (point (pos (multiple_at n)) (pos 0)) ≡ is_next (drop n (tables (I m1 m2))) x
  table_first h =
      ap (same_point x) (sym
      (get_or-append A B (point (pos 0) (pos 0)) n (omega (arith, length_a))
      ∙ get_or-map (λ i. point (pos i) (pos 0)) (multiples (stored m1)) n 0
      ∙ ap (λ (i : ℕ). point (pos i) (pos 0)) (multiples_at (stored m1) n h)))
      ∙ next_in (A ++ B) n x (point (pos 0) (pos 0)) (omega (arith, lengths))

  pub table_second : length (multiples (stored m1)) ≤ n → n - length (multiples (stored m1)) < length (multiples (stored m2))
      → same_point x (point (pos 0) (pos (multiple_at (n - length (multiples (stored m1)))))) ≡ is_next (drop n (tables (I m1 m2))) x
  table_second l h =
      let k : ℕ = n - length (multiples (stored m1)) in
      let at : length A + k ≡ n = omega (arith, length_a) in
      ap (same_point x) (sym
      (ap (λ (i : ℕ). get_or (A ++ B) i (point (pos 0) (pos 0))) (sym at)
      ∙ get_or-append-add A B k (point (pos 0) (pos 0))
      ∙ get_or-map (λ i. point (pos 0) (pos i)) (multiples (stored m2)) k 0
      ∙ ap (λ (i : ℕ). point (pos 0) (pos i)) (multiples_at (stored m2) k h)))
      ∙ next_in (A ++ B) n x (point (pos 0) (pos 0)) (omega (arith, lengths))

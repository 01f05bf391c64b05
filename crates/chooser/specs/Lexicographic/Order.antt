-- The order of lists of numbers is total, and the first least of a list is one of them that no other comes before. Assumes nothing.
use Rattle.std.specs.Prelude.{◌≡◌, refl, ◌⊎◌, Bool, true, false, ◌&&◌, ◌||◌, cond, ℕ, ◌≤◌, ◌<◌, T, ltb, eqb}
use Rattle.std.proofs.Common.{sym, ap, ap₂, subst, ◌∙◌, inl, inr, arith, ltb-true, ltb-false, eqb-true, lt-ltb, le-ltb, eq-eqb, ne_eqb}
use mathlib.Core.List.{List, [], ◌∷◌}
use Rattle.std.proofs.lemmas.Bool.{eqb-false}
use Rattle.chooser.specs.Lexicographic.{before, better, least}

data Order (x y : ℕ) : Type 0 where
  less : x < y → Order x y
  same : x ≡ y → Order x y
  more : y < x → Order x y

order : (x y : ℕ) → Order x y
order x y = go (ltb x y) (eqb x y) refl refl
  where
    go : (s t : Bool) → ltb x y ≡ s → eqb x y ≡ t → Order x y
    go true t e f = less (ltb-true x y e)
    go false true e f = same (eqb-true x y f)
    go false false e f = more (omega (arith, ltb-false x y e, eqb-false x y f))

pub before_less : (x y : ℕ) (xs ys : List ℕ) → x < y → before (x ∷ xs) (y ∷ ys) ≡ true
unfolding before
before_less x y xs ys h = rw (lt-ltb x y h)

pub before_agrees : (x y : ℕ) (xs ys : List ℕ) → x ≡ y → before (x ∷ xs) (y ∷ ys) ≡ before xs ys
unfolding before
before_agrees x y xs ys h = rw (le-ltb x y (omega arith), eq-eqb x y h)

first_more : (x y : ℕ) (xs ys : List ℕ) → y < x → before (x ∷ xs) (y ∷ ys) ≡ false
unfolding before
first_more x y xs ys h = rw (le-ltb x y (omega arith), ne_eqb x y (omega arith))

-- nothing comes before itself
pub before_self : (a : List ℕ) → before a a ≡ false
unfolding before
before_self [] = refl
before_self (x ∷ xs) = before_agrees x x xs xs refl ∙ before_self xs

-- where b does not come before a, nor c before b, c does not come before a
pub before_down : (a b c : List ℕ) → before b a ≡ false → before c b ≡ false → before c a ≡ false
unfolding before
before_down [] [] c h k = k
before_down [] (y ∷ ys) [] h k = refl
before_down [] (y ∷ ys) (z ∷ zs) h k = refl
before_down (x ∷ xs) [] c h k = absurd (subst T h tt)
before_down (x ∷ xs) (y ∷ ys) [] h k = absurd (subst T k tt)
before_down (x ∷ xs) (y ∷ ys) (z ∷ zs) h k = go (before_down xs ys zs) (order y x) (order z y)
  where
    go : (before ys xs ≡ false → before zs ys ≡ false → before zs xs ≡ false) → Order y x → Order z y → before (z ∷ zs) (x ∷ xs) ≡ false
    go ih (less p) q = absurd (subst T (sym (before_less y x ys xs p) ∙ h) tt)
    go ih (same p) (less q) = absurd (subst T (sym (before_less z y zs ys q) ∙ k) tt)
    go ih (same p) (same q) =
        before_agrees z x zs xs (q ∙ p)
        ∙ ih (sym (before_agrees y x ys xs p) ∙ h) (sym (before_agrees z y zs ys q) ∙ k)
    go ih (same p) (more q) = first_more z x zs xs (omega arith)
    go ih (more p) (less q) = absurd (subst T (sym (before_less z y zs ys q) ∙ k) tt)
    go ih (more p) (same q) = first_more z x zs xs (omega arith)
    go ih (more p) (more q) = first_more z x zs xs (omega arith)

-- one of two comes first or both are the same
pub before_one : (a b : List ℕ) → before a b ≡ true → before b a ≡ false
unfolding before
before_one [] [] h = refl
before_one [] (y ∷ ys) h = refl
before_one (x ∷ xs) [] h = absurd (subst T (sym h) tt)
before_one (x ∷ xs) (y ∷ ys) h = go (before_one xs ys) (order x y)
  where
    go : (before xs ys ≡ true → before ys xs ≡ false) → Order x y → before (y ∷ ys) (x ∷ xs) ≡ false
    go ih (less p) = first_more y x ys xs p
    go ih (same p) = before_agrees y x ys xs (sym p) ∙ ih (sym (before_agrees x y xs ys p) ∙ h)
    go ih (more p) = absurd (subst T (sym h ∙ first_more x y xs ys p) tt)

-- what comes before something comes before all that this comes before
pub before_onward : (a b c : List ℕ) → before a b ≡ true → before b c ≡ true → before a c ≡ true
before_onward a b c h k = go (before a c) refl
  where
    go : (t : Bool) → before a c ≡ t → t ≡ true
    go true e = refl
    go false e = absurd (subst T (sym h ∙ before_down b c a (before_one b c k) e) tt)

-- two keys of which neither comes first are the same
pub before_same : (a b : List ℕ) → before a b ≡ false → before b a ≡ false → a ≡ b
unfolding before
before_same [] [] h k = refl
before_same [] (y ∷ ys) h k = absurd (subst T h tt)
before_same (x ∷ xs) [] h k = absurd (subst T k tt)
before_same (x ∷ xs) (y ∷ ys) h k = go (before_same xs ys) (order x y)
  where
    go : (before xs ys ≡ false → before ys xs ≡ false → xs ≡ ys) → Order x y → x ∷ xs ≡ y ∷ ys
    go ih (less p) = absurd (subst T (sym (before_less x y xs ys p) ∙ h) tt)
    go ih (same p) =
        let e = ih (sym (before_agrees x y xs ys p) ∙ h) (sym (before_agrees y x ys xs (sym p)) ∙ k) in λ i. p i ∷ e i
    go ih (more p) = absurd (subst T (sym (before_less y x ys xs p) ∙ k) tt)

-- the first numbers of two keys
pub before_first : (x y : ℕ) (xs ys : List ℕ) → before (x ∷ xs) (y ∷ ys) ≡ false → y ≤ x
before_first x y xs ys h = go (order x y)
  where
    go : Order x y → y ≤ x
    go (less p) = absurd (subst T (sym (before_less x y xs ys p) ∙ h) tt)
    go (same p) = omega arith
    go (more p) = omega arith

-- x is one of the things of a list
pub data In {A : Type 0} (x : A) : List A → Type 0 where
  here : {bs : List A} → In x (x ∷ bs)
  there : {b : A} {bs : List A} → In x bs → In x (b ∷ bs)

module _ {A : Type 0} (key : A → List ℕ) where
  -- the better of two is one of them, and neither comes before it
  better_one : (P : A → Type 0) (a b : A) → P a → P b → P (better key a b)
  better_one P a b p q = go (before (key b) (key a))
    where
      go : (t : Bool) → P (cond t b a)
      go true = q
      go false = p

  better_left : (a b : A) → before (key a) (key (better key a b)) ≡ false
  better_left a b = go (before (key b) (key a)) refl
    where
      go : (t : Bool) → before (key b) (key a) ≡ t → before (key a) (key (cond t b a)) ≡ false
      go true e = before_one (key b) (key a) e
      go false e = before_self (key a)

  better_right : (a b : A) → before (key b) (key (better key a b)) ≡ false
  better_right a b = go (before (key b) (key a)) refl
    where
      go : (t : Bool) → before (key b) (key a) ≡ t → before (key b) (key (cond t b a)) ≡ false
      go true e = before_self (key b)
      go false e = e

  -- what holds of all of them holds of the least
  pub least_one : (P : A → Type 0) (a : A) (bs : List A) → P a → ((x : A) → In x bs → P x) → P (least key a bs)
  unfolding least
  least_one P a [] p q = p
  least_one P a (b ∷ bs) p q =
      least_one P (better key a b) bs (better_one P a b p (q b here)) (λ x o. q x (there o))

  -- nothing comes before the least
  pub least_start : (a : A) (bs : List A) → before (key a) (key (least key a bs)) ≡ false
  unfolding least
  least_start a [] = before_self (key a)
  least_start a (b ∷ bs) =
      before_down (key (least key (better key a b) bs)) (key (better key a b)) (key a) (least_start (better key a b) bs) (better_left a b)

  pub least_least : (x a : A) (bs : List A) → In x bs → before (key x) (key (least key a bs)) ≡ false
  unfolding least
  least_least x a bs (here {bs = cs}) =
      before_down (key (least key (better key a x) cs)) (key (better key a x)) (key x) (least_start (better key a x) cs) (better_right a x)
  least_least x a bs (there {b = b} {bs = cs} o) = least_least x (better key a b) cs o

-- by two keys that agree on a and on the things of a list, the least is the same
pub least_agrees : {A : Type 0} (key other : A → List ℕ) (a : A) (bs : List A) → key a ≡ other a → ((x : A) → In x bs → key x ≡ other x)
    → least key a bs ≡ least other a bs
unfolding least
least_agrees key other a [] e h = refl
least_agrees key other a (b ∷ bs) e h =
    ap (λ x. least key x bs) same ∙ least_agrees key other (better other a b) bs (agree (before (other b) (other a))) (λ x o. h x (there o))
  where
    same : better key a b ≡ better other a b
    same = ap₂ (λ (x y : List ℕ). cond (before x y) b a) (h b here) e

    agree : (t : Bool) → key (cond t b a) ≡ other (cond t b a)
    agree true = h b here
    agree false = e

-- by two keys that order the things alike, the least is the same
pub least_ordered : {A : Type 0} (key other : A → List ℕ) → ((x y : A) → before (key x) (key y) ≡ before (other x) (other y)) → (a : A) (bs : List A)
    → least key a bs ≡ least other a bs
unfolding least
least_ordered key other h a [] = refl
least_ordered key other h a (b ∷ bs) =
    ap (λ (t : Bool). least key (cond t b a) bs) (h b a) ∙ least_ordered key other h (better other a b) bs

-- a key is compared number by number
abbrev pub Decides : ℕ → ℕ → List ℕ → List ℕ → Type 0
Decides x y xs ys = (x < y) ⊎ ((x ≡ y) × (before xs ys ≡ true))

pub before_parts : (x y : ℕ) (xs ys : List ℕ) → before (x ∷ xs) (y ∷ ys) ≡ true → Decides x y xs ys
before_parts x y xs ys t = go (order x y)
  where
    go : Order x y → Decides x y xs ys
    go (less h) = inl h
    go (same h) = inr (h, sym (before_agrees x y xs ys h) ∙ t)
    go (more h) = absurd (subst T (sym t ∙ first_more x y xs ys h) tt)

pub before_differs : (x y : ℕ) (xs ys : List ℕ) → (x ≡ y → ⊥) → ltb x y ≡ before (x ∷ xs) (y ∷ ys)
unfolding before
before_differs x y xs ys h = sym (rw (ne_eqb x y h) (or_false (ltb x y)))
  where
    or_false : (b : Bool) → b || false ≡ b
    or_false true = refl
    or_false false = refl

pub before_last : (x y : ℕ) → ltb x y ≡ before (x ∷ []) (y ∷ [])
unfolding before
before_last x y = sym (go (ltb x y) (eqb x y))
  where
    go : (s t : Bool) → s || (t && false) ≡ s
    go true t = refl
    go false true = refl
    go false false = refl

-- Tests that compute, each with the statement that it decides: a finite check of a statement is one `tt`.
use Rattle.std.specs.Prelude.{◌≡◌, refl, ◌⊎◌, Bool, true, false, not, ◌&&◌, ◌||◌, ℕ, zero, suc, ◌+◌, ◌≤◌, ◌<◌, T, leb, eqb, ℤ, pos, negsuc, nat_abs}
use Rattle.std.proofs.Common.{sym, ap₂, subst, inl, inr, ⊎_elim, arith, leb→le, le→leb, eqb→eq, eqb-true}
use mathlib.Core.List.Memᴰ
use mathlib.Core.List.{List, [], ◌∷◌, Memᴰ}
use Rattle.std.proofs.Math.Facts.{and_yes, yes_and, T_not, not_T, yes_eqb}
use Rattle.std.proofs.lemmas.Bool.{eqb-false}
use Rattle.digits.specs.Integer.{up, down}
use Rattle.digits.specs.Integer.Parts.{read_eq, show_eq}
use Rattle.digits.specs.Two.{Two, P, Q}

-- a test that passes just where A holds
pub record Test (A : Type 0) : Type 0 where
  pub test : Bool
  pub tells : T test → A
  pub shows : A → T test

-- one of two tests
pub or_tells : {A B : Type 0} (a b : Bool) → (T a → A) → (T b → B) → T (a || b) → A ⊎ B
or_tells true b f g t = inl (f t)
or_tells false b f g t = inr (g t)

pub or_shows : {A B : Type 0} (a b : Bool) → (A → T a) → (B → T b) → A ⊎ B → T (a || b)
or_shows true b f g x = tt
or_shows false b f g x = ⊎_elim (λ u. absurd (f u)) g x

-- a test under a condition
pub if_tells : {A B : Type 0} (a b : Bool) → (A → T a) → (T b → B) → T (not a || b) → A → B
if_tells true b f g t x = g t
if_tells false b f g t x = absurd (f x)

pub if_shows : {A B : Type 0} (a b : Bool) → (T a → A) → (B → T b) → (A → B) → T (not a || b)
if_shows true b f g h = g (h (f tt))
if_shows false b f g h = tt

-- a test itself
abbrev pub passes : (b : Bool) → Test (T b)
passes b = record { test = b; tells = λ t. t; shows = λ t. t }

-- not A
abbrev pub fails : {A : Type 0} → Test A → Test (¬ A)
fails s =
    record { test = not s.test; tells = λ n x. T_not s.test (s.shows x) n; shows = λ f. not_T s.test (λ y. f (s.tells y)) }

-- A and B
abbrev pub both : {A B : Type 0} → Test A → Test B → Test (A × B)
both s t =
    record {
      test = s.test && t.test;
      tells = λ y. (s.tells (and_yes s.test t.test y).0, t.tells (and_yes s.test t.test y).1);
      shows = λ x. yes_and s.test t.test (s.shows x.0) (t.shows x.1);
    }

-- A or B
abbrev pub either : {A B : Type 0} → Test A → Test B → Test (A ⊎ B)
either s t =
    record {
      test = s.test || t.test;
      tells = or_tells s.test t.test s.tells t.tells;
      shows = or_shows s.test t.test s.shows t.shows;
    }

-- B, where A holds
abbrev pub implies : {A B : Type 0} → Test A → Test B → Test (A → B)
implies s t =
    record {
      test = not s.test || t.test;
      tells = if_tells s.test t.test s.shows t.tells;
      shows = if_shows s.test t.test s.tells t.shows;
    }

-- an order and an equation of naturals
abbrev pub within : (m n : ℕ) → Test (m ≤ n)
within m n = record { test = leb m n; tells = leb→le m n; shows = le→leb m n }

abbrev pub equal : (m n : ℕ) → Test (m ≡ n)
equal m n = record { test = eqb m n; tells = eqb→eq m n; shows = λ e. yes_eqb e }

-- an equation of integers
abbrev pub same : (a b : ℤ) → Test (a ≡ b)
same a b =
    let parts = equal (up a + down b) (up b + down a) in
    record { test = parts.test; tells = λ t. show_eq a b (parts.tells t); shows = λ e. parts.shows (read_eq a b e) }

-- an equation of lists, by a test of their entries
module _ {A : Type 0} (entry : (x y : A) → Test (x ≡ y)) where
  abbrev pub agree : List A → List A → Bool
  agree [] [] = true
  agree (x ∷ xs) [] = false
  agree [] (y ∷ ys) = false
  agree (x ∷ xs) (y ∷ ys) = (entry x y).test && agree xs ys

  pub agree_tells : (xs ys : List A) → T (agree xs ys) → xs ≡ ys
  agree_tells [] [] t = refl
  agree_tells (x ∷ xs) [] t = absurd t
  agree_tells [] (y ∷ ys) t = absurd t
  agree_tells (x ∷ xs) (y ∷ ys) t =
      let z = and_yes (entry x y).test (agree xs ys) t in ap₂ ◌∷◌ ((entry x y).tells z.0) (agree_tells xs ys z.1)

  pub agree_self : (xs : List A) → T (agree xs xs)
  agree_self [] = tt
  agree_self (x ∷ xs) = yes_and (entry x x).test (agree xs xs) ((entry x x).shows refl) (agree_self xs)

  abbrev pub same_list : (xs ys : List A) → Test (xs ≡ ys)
  same_list xs ys =
      record { test = agree xs ys; tells = agree_tells xs ys; shows = λ e. subst (λ ys. T (agree xs ys)) e (agree_self xs) }

-- all entries of a list
module _ {A : Type 0} {P : A → Type 0} (entry : (x : A) → Test (P x)) where
  abbrev pub all_of : List A → Bool
  all_of [] = true
  all_of (x ∷ xs) = (entry x).test && all_of xs

  pub all_tells : (xs : List A) → T (all_of xs) → (x : A) → Memᴰ x xs → P x
  all_tells [] t x m = absurd (Memᴰ.not-nil m)
  all_tells (y ∷ xs) t x m =
      let z = and_yes (entry y).test (all_of xs) t in
      ⊎_elim (λ e. subst P (sym e) ((entry y).tells z.0)) (λ n. all_tells xs z.1 x n) (Memᴰ.cases_cons m)

  pub all_shows : (xs : List A) → ((x : A) → Memᴰ x xs → P x) → T (all_of xs)
  all_shows [] f = tt
  all_shows (y ∷ xs) f =
      yes_and (entry y).test (all_of xs) ((entry y).shows (f y (Memᴰ.head refl))) (all_shows xs (λ x m. f x (Memᴰ.tail m)))

  abbrev pub every_of : (xs : List A) → Test ((x : A) → Memᴰ x xs → P x)
  every_of xs = record { test = all_of xs; tells = all_tells xs; shows = all_shows xs }

-- all numbers below n
abbrev pub all_below : ℕ → (ℕ → Bool) → Bool
all_below zero t = true
all_below (suc n) t = t n && all_below n t

pub below_tells : (n : ℕ) (t : ℕ → Bool) → T (all_below n t) → (x : ℕ) → x < n → T (t x)
below_tells zero t h x l = absurd (omega arith)
below_tells (suc n) t h x l = go (eqb x n) refl (below_tells n t (and_yes (t n) (all_below n t) h).1 x)
  where
    go : (b : Bool) → eqb x n ≡ b → (x < n → T (t x)) → T (t x)
    go true e less = rw (eqb-true x n e) (and_yes (t n) (all_below n t) h).0
    go false e less = less (omega (arith, eqb-false x n e))

pub below_shows : (n : ℕ) (t : ℕ → Bool) → ((x : ℕ) → x < n → T (t x)) → T (all_below n t)
below_shows zero t f = tt
below_shows (suc n) t f =
    yes_and (t n) (all_below n t) (f n (omega arith)) (below_shows n t (λ x l. f x (omega arith)))

abbrev pub every_below : {A : ℕ → Type 0} (n : ℕ) → ((x : ℕ) → Test (A x)) → Test ((x : ℕ) → x < n → A x)
every_below n t =
    record {
      test = all_below n (λ x. (t x).test);
      tells = λ h x l. (t x).tells (below_tells n (λ x. (t x).test) h x l);
      shows = λ f. below_shows n (λ x. (t x).test) (λ x l. (t x).shows (f x l));
    }

-- all digits −1, 0, 1
pub one_digit : (A : ℤ → Type 0) → (A (negsuc 0) × (A (pos 0) × A (pos 1))) → (z : ℤ) → nat_abs z ≤ 1 → A z
one_digit A h (pos zero) s = h.1.0
one_digit A h (pos (suc zero)) s = h.1.1
one_digit A h (pos (suc (suc n))) s = absurd (omega arith)
one_digit A h (negsuc zero) s = h.0
one_digit A h (negsuc (suc n)) s = absurd (omega arith)

abbrev pub every_digit : {A : ℤ → Type 0} → ((z : ℤ) → Test (A z)) → Test ((z : ℤ) → nat_abs z ≤ 1 → A z)
every_digit {A} t =
    let three = both (t (negsuc 0)) (both (t (pos 0)) (t (pos 1))) in
    record {
      test = three.test;
      tells = λ h. one_digit A (three.tells h);
      shows = λ f. three.shows (f (negsuc 0) (omega arith), (f (pos 0) (omega arith), f (pos 1) (omega arith)));
    }

-- both rows, and one of them
pub rows : (A : Two → Type 0) → A P × A Q → (r : Two) → A r
rows A h P = h.0
rows A h Q = h.1

abbrev pub every_row : {A : Two → Type 0} → ((r : Two) → Test (A r)) → Test ((r : Two) → A r)
every_row {A} t =
    let all = both (t P) (t Q) in
    record { test = all.test; tells = λ h. rows A (all.tells h); shows = λ f. all.shows (f P, f Q) }

pub one_row : (A : Two → Type 0) → (r : Two) → A r → A P ⊎ A Q
one_row A P x = inl x
one_row A Q x = inr x

abbrev pub some_row : {A : Two → Type 0} → ((r : Two) → Test (A r)) → Test ((r : Two) × A r)
some_row {A} t =
    let any = either (t P) (t Q) in
    record {
      test = any.test;
      tells = λ h. ⊎_elim (λ x. (P, x)) (λ x. (Q, x)) (any.tells h);
      shows = λ f. any.shows (one_row A f.0 f.1);
    }

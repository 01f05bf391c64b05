-- What one line more makes of the state's faults: a fault found before stays, and else the line's own test decides.
use mathlib.Core.Path.{◌≡◌, refl, sym, ap, ◌∙◌}
use mathlib.Core.Bool.{Bool, true, false, cond}
use mathlib.Core.List.{List, [], ◌∷◌}
use mathlib.Core.Option.{Option, none, some}
use Prim.Native.Nat.{ℕ, zero, suc, ◌+◌, ◌-◌, ◌≤◌}
use native.Mathlib.Numerals.{add-one}
use native.Mathlib.Omega.{arith}
use lib.Dec.{ltb, leb}
use lib.ListN.{length, drop, drop_of_length-le}
use lib.Seq.{drop-drop}
use borrow.Author.Tests.{leb-true, leb-false}
use Rattle.sheet.specs.declared.Plan.{Plan}
use Rattle.sheet.specs.Plan.{Point}
use Rattle.sheet.specs.Line as spec
use Rattle.sheet.specs.Line.{load, double, add}
use Rattle.sheet.specs.Questions.{unless, differs, turn, disallowed_from, excess_from}
use Rattle.survey.specs.Survey.State.{earlier, is_next}

pub earlier_none : (o : Option ℕ) → earlier o none ≡ o
earlier_none none = refl
earlier_none (some n) = refl

pub earlier_some : (o : Option ℕ) (n : ℕ) (b : Option ℕ) → earlier (earlier o (some n)) b ≡ earlier o (some n)
earlier_some none n b = refl
earlier_some (some m) n b = refl

-- a test met leaves the fault, a test missed gives one
module _ (o : Option ℕ) (n : ℕ) (here there : Option ℕ) where
  pub test_taken : (b : Bool) → (b ≡ true → there ≡ here) → (b ≡ false → there ≡ some n) → earlier (earlier o (unless b n)) here ≡ earlier o there
  test_taken true p q = rw (earlier_none o, p refl)
  test_taken false p q = rw (earlier_some o n here, q refl)

same_next : (us : List Point) (x : Point) (n : ℕ) (ts : List Point) → is_next us x ≡ true → differs n us (x ∷ ts) ≡ differs (n + 1) (drop 1 us) ts
unfolding differs
same_next [] x n ts e = let z : ◌≡◌ {A = ℕ} 0 1 = cc in absurd (omega arith)
same_next (u ∷ us) x n ts e = rw (e, add-one)

other_next : (us : List Point) (x : Point) (n : ℕ) (ts : List Point) → is_next us x ≡ false → differs n us (x ∷ ts) ≡ some n
unfolding differs
other_next [] x n ts e = refl
other_next (u ∷ us) x n ts e = rw e

-- a T line
pub table_taken : (us : List Point) (x : Point) (o : Option ℕ) (n k : ℕ) (ts : List Point) (b : Bool) → b ≡ is_next (drop k us) x
    → earlier (earlier o (unless b n)) (differs (n + 1) (drop (k + 1) us) ts) ≡ earlier o (differs n (drop k us) (x ∷ ts))
table_taken us x o n k ts b e =
    test_taken o n (differs (n + 1) (drop (k + 1) us) ts) (differs n (drop k us) (x ∷ ts)) b
    (λ t. same_next (drop k us) x n ts (sym e ∙ t) ∙ ap (λ (l : List Point). differs (n + 1) l ts) (drop-drop 1 k us))
    (λ t. other_next (drop k us) x n ts (sym e ∙ t))

closed_none : (us : List Point) (n : ℕ) → us ≡ [] → differs n us [] ≡ none
unfolding differs
closed_none us n e = rw e

closed_some : (us : List Point) (n : ℕ) → 1 ≤ length us → differs n us [] ≡ some n
unfolding differs
closed_some [] n h = absurd (omega arith)
closed_some (u ∷ us) n h = refl

-- the line after the T lines
pub tables_closed : (us : List Point) (o : Option ℕ) (n k : ℕ) → earlier o (unless (leb (length us) k) n) ≡ earlier o (differs n (drop k us) [])
tables_closed us o n k = go (leb (length us) k) refl
  where
    go : (b : Bool) → leb (length us) k ≡ b → earlier o (unless b n) ≡ earlier o (differs n (drop k us) [])
    go true e = ap (earlier o) (sym (closed_none (drop k us) n (drop_of_length-le us (leb-true (length us) k e))))
    go false e = ap (earlier o) (sym (closed_some (drop k us) n (omega (arith, lib.ListN.length-drop k us, leb-false (length us) k e))))

-- a step
module _ (p : Plan) (x : Point) (o : Option ℕ) (before n t : ℕ) (ls : List spec.Line) (e : t ≡ turn p x) where
  chosen : (b : Bool) → ltb before t ≡ b → (here there : Option ℕ) → there ≡ cond (ltb before (turn p x)) here (some n) → earlier (earlier o (unless b n)) here ≡ earlier o there
  chosen b f here there g =
      test_taken o n here there b
      (λ h. g ∙ ap (λ (c : Bool). cond c here (some n)) (sym (ap (ltb before) e) ∙ f ∙ h))
      (λ h. g ∙ ap (λ (c : Bool). cond c here (some n)) (sym (ap (ltb before) e) ∙ f ∙ h))

  pub step_loaded : earlier (earlier o (unless (ltb before t) n)) (disallowed_from p t (n + 1) ls) ≡ earlier o (disallowed_from p before n (load x ∷ ls))
  step_loaded =
      chosen (ltb before t) refl (disallowed_from p t (n + 1) ls) (disallowed_from p before n (load x ∷ ls))
      (unfold disallowed_from in rw (e, add-one))

  pub step_added : earlier (earlier o (unless (ltb before t) n)) (disallowed_from p t (n + 1) ls) ≡ earlier o (disallowed_from p before n (add x ∷ ls))
  step_added =
      chosen (ltb before t) refl (disallowed_from p t (n + 1) ls) (disallowed_from p before n (add x ∷ ls))
      (unfold disallowed_from in rw (e, add-one))

-- a D line: with none left it is the first beyond them
pub double_last : (o : Option ℕ) (n k : ℕ) (ls : List spec.Line) → k ≡ 0
    → earlier (earlier o (some n)) (excess_from k (n + 1) ls) ≡ earlier o (excess_from k n (double ∷ ls))
unfolding excess_from
double_last o n k ls e = rw e (earlier_some o n (excess_from 0 (n + 1) ls))

pub double_more : (o : Option ℕ) (n k : ℕ) (ls : List spec.Line) → (k ≡ 0 → ⊥)
    → earlier o (excess_from (k - 1) (n + 1) ls) ≡ earlier o (excess_from k n (double ∷ ls))
unfolding excess_from
double_more o n zero ls h = absurd (h refl)
double_more o n (suc k) ls h = let e : suc k - 1 ≡ k = omega arith in rw (e, add-one)

-- The turns of the scans for a byte, and where the parts of a list begin. From the laws of Cut.
use mathlib.Core.Path.{◌≡◌, refl, ap, subst, ◌∙◌}
use mathlib.Core.Logic.{◌≢◌}
use mathlib.Core.Bool.{Bool, true, false, cond}
use mathlib.Core.List.{List, [], ◌∷◌, ◌++◌}
use Prim.Native.Nat.{ℕ, zero, suc, ◌+◌, ◌-◌, ◌≤◌, ◌<◌}
use native.Mathlib.Numerals.{add-one}
use native.Mathlib.Omega.{arith}
use lib.ListN.{length, get_or, take, drop, drop_of_length-le, length-drop}
use lib.Seq.{take-suc, take_all, split_at, drop-drop}
use lib.Dec.{eqb}
use borrow.Author.Tests.{eq-eqb, ne_eqb}
use Rattle.std.proofs.lemmas.List.Sums.{sum_by-cons}
use Rattle.std.specs.List.{AllWithin, count_by}
use Rattle.sheet.specs.Every.{empty, more, every_append}
use Rattle.sheet.specs.Spelling.{cut, push}
use Rattle.sheet.specs.Spelling.Cut.{Lacks, cut_last, cut_more, cut_some}
use Rattle.sheet.specs.Spelling.Field.{First, Behind}

module _ (b : ℕ) (s : List ℕ) (i : ℕ) (h : i < length s) where
  -- a byte other than b is passed
  pub lacks_turn : get_or s i 0 ≢ b → Lacks b (take i s) → Lacks b (take (i + 1) s)
  lacks_turn n l = rw (add-one, take-suc s i 0 h) (every_append l (more n empty))

-- the bytes below i are others
lacks_below : (b : ℕ) (s : List ℕ) (i : ℕ) → i ≤ length s → AllWithin (λ c. c ≢ b) s 0 i → Lacks b (take i s)
lacks_below b s zero h p = empty
lacks_below b s (suc i) h p =
    rw add-one at (lacks_turn b s i h (p i 0 (omega arith) (omega arith)) (lacks_below b s i (omega arith) (λ k d l m. p k d l (omega arith))))

pub first_found : {b : ℕ} (s : List ℕ) {i : ℕ} → i < length s → get_or s i 0 ≡ b → AllWithin (λ c. c ≢ b) s 0 i → First b s i
first_found {b} s {i} h e p = record { most = omega arith; lacks = lacks_below b s i (omega arith) p; found = λ l. e }

pub first_none : {b : ℕ} (s : List ℕ) → AllWithin (λ c. c ≢ b) s 0 (length s) → First b s (length s)
first_none {b} s p = record { most = omega arith; lacks = lacks_below b s (length s) (omega arith) p; found = λ l. absurd (omega arith) }

pushed : (b c : ℕ) (s : List ℕ) → length (push c (cut b s)) ≡ length (cut b s)
pushed b c s = let (f, fs, e) = cut_some b s in rw e

-- each byte b begins a part more
pub cut_length : (b : ℕ) (s : List ℕ) → count_by (λ c. eqb c b) s + 1 ≡ length (cut b s)
unfolding cut
cut_length b [] = refl
cut_length b (c ∷ s) = rw (sum_by-cons (λ d. cond (eqb d b) 1 0) c s) (go (eqb c b) (cut_length b s))
  where
    go : (t : Bool) → count_by (λ d. eqb d b) s + 1 ≡ length (cut b s) → cond t 1 0 + count_by (λ d. eqb d b) s + 1 ≡ length (cond t ([] ∷ cut b s) (push c (cut b s)))
    go true e = omega (arith, e)
    go false e = omega (arith, e, pushed b c s)

-- up to the first b there is a part
pub first_part : {b : ℕ} {s : List ℕ} {i : ℕ} → First b s i → i < length s → cut b s ≡ take i s ∷ cut b (drop (suc i) s)
first_part {b} {s} {i} f h =
    ap (cut b) (split_at s i 0 h ∙ ap (λ (c : ℕ). take i s ++ c ∷ drop (suc i) s) (f.found h)) ∙ cut_more f.lacks (drop (suc i) s)

-- without b there is one part
whole : {b : ℕ} {s : List ℕ} {i : ℕ} → First b s i → length s ≤ i → take i s ≡ s
whole {s = s} {i = i} f h = take_all i s h

pub first_all : {b : ℕ} {s : List ℕ} {i : ℕ} → First b s i → length s ≤ i → Lacks b s
first_all {b} f h = subst (Lacks b) (whole f h) f.lacks

pub first_last : {b : ℕ} {s : List ℕ} {i : ℕ} → First b s i → length s ≤ i → cut b s ≡ s ∷ []
first_last f h = cut_last (first_all f h)

-- the first part
pub first_zero : {b : ℕ} {s : List ℕ} {i : ℕ} → First b s i → take i s ≡ get_or (cut b s) 0 []
first_zero {b} {s} {i} f = go (lib.Dec.ltb i (length s)) refl
  where
    go : (t : Bool) → lib.Dec.ltb i (length s) ≡ t → take i s ≡ get_or (cut b s) 0 []
    go true e = rw (first_part f (borrow.Author.Tests.ltb-true i (length s) e))
    go false e = let h : length s ≤ i = borrow.Author.Tests.ltb-false i (length s) e in rw (first_last f h) (whole f h)

none_behind : (b k : ℕ) → get_or (cut b []) k [] ≡ []
unfolding cut
none_behind b zero = refl
none_behind b (suc k) = refl

-- a part to the end is all that is left
pub to_end : (s : List ℕ) (at : ℕ) → take (length s - at) (drop at s) ≡ drop at s
to_end s at = take_all (length s - at) (drop at s) (omega (arith, length-drop at s))

module _ {b : ℕ} (s : List ℕ) (at : ℕ) {n : ℕ} (f : First b (drop at s) n) where
  -- the parts behind the first
  pub behind_found : n < length (drop at s) → at ≤ length s → Behind b s at (at + n + 1)
  behind_found h l =
      record {
        most = omega (arith, length-drop at s);
        parts =
            λ k. let m : at + suc n ≡ at + n + 1 = omega arith in
            rw (first_part f h, drop-drop (suc n) at s, m);
      }

  pub behind_none : length (drop at s) ≤ n → Behind b s at (length s)
  behind_none h =
      record {
        most = omega arith;
        parts = λ k. rw (first_last f h, drop_of_length-le s {i = length s} (omega arith)) (none_behind b k);
      }

-- Whole numbers in figures of a base from 2 to 16, with a minus if negative: what is spelled is read back, what is read is spelled so, and
-- what is read is no larger than its figures allow. From the laws of numerals.
use Rattle.std.specs.Prelude.{◌≡◌, refl, ◌≢◌, Bool, false, cond, ℕ, zero, suc, ◌+◌, ◌^◌, ◌≤◌, ◌<◌, eqb, ℤ, pos, negsuc, nat_abs, length}
use Rattle.std.proofs.Common.{sym, subst, ◌∙◌, arith}
use Rattle.std.proofs.Math.Path.{ap}
use Rattle.std.proofs.Math.Bool.{true, and-eq-true_iff}
use mathlib.Core.List.{List, [], ◌∷◌}
use Rattle.std.proofs.Math.Option.{Option, none, some}
use Rattle.std.proofs.Math.Dec.{ltb}
use borrow.Author.Tests.{le-leb, lt-leb, ne_eqb, eqb-true, ltb-true}
use Rattle.sheet.specs.Numeral.{worth, numeral, figures, number}
use Rattle.sheet.specs.Numeral.Below.{number_below}
use Rattle.sheet.specs.Numeral.Read.{number_numeral, numeral_number, numeral_some, numeral_figures}
use Rattle.sheet.specs.Spelling.{minus, whole, plain, negative, read_whole}

pub unread : {A : Type 0} {a : A} → none ≡ some a → ⊥
unread e = let z : ◌≡◌ {A = ℕ} 0 1 = cc in omega arith

module _ (base most : ℕ) (low : 2 ≤ base) (high : base ≤ 16) where
  -- what is spelled is read back
  plain_first : (s : List ℕ) → 1 ≤ length s → figures base s ≡ true → read_whole base most s ≡ plain (number base most s)
  unfolding figures
  plain_first [] l e = absurd (omega arith)
  plain_first (c ∷ s) l e =
      let (first, others) = (and-eq-true_iff (ltb (worth c) base) (figures base s)).0 e in
      rw (ne_eqb c minus (other first))
    where
      other : ltb (worth c) base ≡ true → c ≢ minus
      other f g = let l : worth c < base = ltb-true (worth c) base f in omega (arith, ap worth g)

  pub read_whole_lem : (z : ℤ) → 1 ≤ most → nat_abs z < base ^ most → read_whole base most (whole base z) ≡ some z
  read_whole_lem (pos n) l h =
      plain_first (numeral base n) (numeral_some base low high n) (numeral_figures base low high n)
      ∙ ap plain (number_numeral base low high most n l h)
  read_whole_lem (negsuc n) l h = ap negative (number_numeral base low high most (suc n) l h)

  -- what is read is spelled so
  plain_read : (s : List ℕ) (z : ℤ) (o : Option ℕ) → number base most s ≡ o → plain o ≡ some z → whole base z ≡ s
  plain_read s z none e f = absurd (unread f)
  plain_read s z (some n) e f = let g : pos n ≡ z = cc in subst (λ (x : ℤ). whole base x ≡ s) g (numeral_number base low high most n s e)

  negative_read : (s : List ℕ) (z : ℤ) (o : Option ℕ) → number base most s ≡ o → negative o ≡ some z → whole base z ≡ minus ∷ s
  negative_read s z none e f = absurd (unread f)
  negative_read s z (some zero) e f = absurd (unread f)
  negative_read s z (some (suc n)) e f =
      let g : negsuc n ≡ z = cc in
      subst (λ (x : ℤ). whole base x ≡ minus ∷ s) g (ap (λ (x : List ℕ). minus ∷ x) (numeral_number base low high most (suc n) s e))

  pub whole_read : (s : List ℕ) (z : ℤ) → read_whole base most s ≡ some z → whole base z ≡ s
  whole_read [] z e = absurd (unread e)
  whole_read (c ∷ s) z e = go (eqb c minus) refl e
    where
      go : (b : Bool) → eqb c minus ≡ b → cond b (negative (number base most s)) (plain (number base most (c ∷ s))) ≡ some z → whole base z ≡ c ∷ s
      go true t f = negative_read s z (number base most s) refl f ∙ ap (λ (x : ℕ). x ∷ s) (sym (eqb-true c minus t))
      go false t f = plain_read (c ∷ s) z (number base most (c ∷ s)) refl f

  -- it is below the power of its figures
  number_of : (s : List ℕ) (z : ℤ) → read_whole base most s ≡ some z → (t : List ℕ) × (number base most t ≡ some (nat_abs z))
  number_of [] z e = absurd (unread e)
  number_of (c ∷ s) z e = go (eqb c minus) e
    where
      minused : (o : Option ℕ) → number base most s ≡ o → negative o ≡ some z → number base most s ≡ some (nat_abs z)
      minused none f g = absurd (unread g)
      minused (some zero) f g = absurd (unread g)
      minused (some (suc n)) f g = let h : negsuc n ≡ z = cc in f ∙ ap (λ (x : ℤ). some (nat_abs x)) h

      plained : (o : Option ℕ) → number base most (c ∷ s) ≡ o → plain o ≡ some z → number base most (c ∷ s) ≡ some (nat_abs z)
      plained none f g = absurd (unread g)
      plained (some n) f g = let h : pos n ≡ z = cc in f ∙ ap (λ (x : ℤ). some (nat_abs x)) h

      go : (b : Bool) → cond b (negative (number base most s)) (plain (number base most (c ∷ s))) ≡ some z → (t : List ℕ) × (number base most t ≡ some (nat_abs z))
      go true f = (s, minused (number base most s) refl f)
      go false f = (c ∷ s, plained (number base most (c ∷ s)) refl f)

  pub whole_below : (s : List ℕ) (z : ℤ) → read_whole base most s ≡ some z → nat_abs z < base ^ most
  whole_below s z e = let (t, f) = number_of s z e in number_below base most (nat_abs z) t (omega arith) f

-- a field of too many bytes is no number; the minus is one more than the figures
pub number_long : (base most : ℕ) (s : List ℕ) → most < length s → number base most s ≡ none
unfolding number
number_long base most s h = rw (le-leb 1 (length s) (omega arith), lt-leb (length s) most h)

pub whole_long : (base most : ℕ) (s : List ℕ) → most + 1 < length s → read_whole base most s ≡ none
whole_long base most [] h = refl
whole_long base most (c ∷ s) h = go (eqb c minus)
  where
    go : (b : Bool) → cond b (negative (number base most s)) (plain (number base most (c ∷ s))) ≡ none
    go true = ap negative (number_long base most s (omega arith))
    go false = ap plain (number_long base most (c ∷ s) (omega arith))

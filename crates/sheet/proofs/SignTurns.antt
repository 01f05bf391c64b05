-- A field with a sign: what its first byte says, and the whole number that it spells. From the laws of numerals.
use mathlib.Core.Path.{◌≡◌, refl, sym, ap, ◌∙◌}
use mathlib.Core.Bool.{Bool, true, false, not, ◌&&◌, cond, and-eq-true_iff}
use mathlib.Core.List.{List, [], ◌∷◌}
use mathlib.Core.Option.{none, some}
use Prim.Native.Nat.{ℕ, zero, suc, ◌≤◌}
use native.Mathlib.Omega.{arith}
use lib.Dec.{eqb}
use lib.IntN.{pos}
use lib.ListN.{get_or, drop}
use borrow.Author.Tests.{eqb-true, eqb-false}
use Rattle.digits.specs.Integer.{signed_by}
use Rattle.sheet.specs.Numeral.{worth, followed, number}
use Rattle.sheet.specs.Numeral.Read.{numeral_number}
use Rattle.sheet.specs.Numeral.Figures.{numeral_low}
use Rattle.sheet.specs.Spelling.{minus, plain, negative, read_whole}
use Rattle.sheet.specs.Spelling.Field.{is_numeral, sign_of, unsigned, is_whole, whole_of}
use Rattle.sheet.proofs.FieldTurns.{Numeral, numeral_value, numeral_parts}

-- ── the whole number ────────────────────────────────────────────────────────────────────────

-- the test of a whole number, by that of its figures f and by its sign n
module _ (base most : ℕ) (s f : List ℕ) (is : f ≡ unsigned s) where
  -- of a whole number the figures are a numeral
  pub whole_parts : is_whole base most s ≡ true → Numeral base most f
  whole_parts w =
      numeral_parts base most f
      (ap (is_numeral base most) is ∙ ((and-eq-true_iff (is_numeral base most (unsigned s)) (not (eqb (sign_of s) 1 && eqb (get_or (unsigned s) 0 0) 48))).0 w).0)

module _ (base most : ℕ) (low : 2 ≤ base) (high : base ≤ 16) where
  -- a numeral is 0 exactly if its first figure is
  first_zero : (s : List ℕ) → is_numeral base most s ≡ true → get_or s 0 0 ≡ 48 → followed base 0 s ≡ 0
  unfolding followed
  first_zero [] e f = absurd (omega (arith, (numeral_parts base most [] e).some_figures))
  first_zero (c ∷ []) e f = omega (arith, ap worth f)
  first_zero (c ∷ d ∷ s) e f = absurd (eqb-false c 48 (numeral_parts base most (c ∷ d ∷ s) e).unpadded f)

  zero_first_lem : (s : List ℕ) → is_numeral base most s ≡ true → followed base 0 s ≡ 0 → get_or s 0 0 ≡ 48
  zero_first_lem s e f =
      let n : number base most s ≡ some 0 = numeral_value base most s true e ∙ ap some f in
      ap (λ (x : List ℕ). get_or x 0 0) (sym (numeral_number base low high most 0 s n) ∙ numeral_low base low 0 (omega arith))

  -- behind a minus
  negative_value : (s : List ℕ) → negative (number base most s)
      ≡ cond (is_numeral base most s && not (eqb (get_or s 0 0) 48)) (some (signed_by 1 (pos (followed base 0 s)))) none
  negative_value s = go (is_numeral base most s) refl
    where
      some_number : (n : ℕ) (b : Bool) → eqb (get_or s 0 0) 48 ≡ b → (get_or s 0 0 ≡ 48 → n ≡ 0) → (n ≡ 0 → get_or s 0 0 ≡ 48)
          → negative (some n) ≡ cond (not b) (some (signed_by 1 (pos n))) none
      some_number zero true f p q = refl
      some_number zero false f p q = absurd (eqb-false (get_or s 0 0) 48 f (q refl))
      some_number (suc n) true f p q = absurd (omega (arith, p (eqb-true (get_or s 0 0) 48 f)))
      some_number (suc n) false f p q = refl

      go : (b : Bool) → is_numeral base most s ≡ b
          → negative (number base most s) ≡ cond (b && not (eqb (get_or s 0 0) 48)) (some (signed_by 1 (pos (followed base 0 s)))) none
      go true e =
          ap negative (numeral_value base most s true e)
          ∙ some_number (followed base 0 s) (eqb (get_or s 0 0) 48) refl (first_zero s e) (zero_first_lem s e)
      go false e = ap negative (numeral_value base most s false e)

  plain_value : (s : List ℕ) → plain (number base most s) ≡ cond (is_numeral base most s && true) (some (pos (followed base 0 s))) none
  plain_value s = go (is_numeral base most s) refl
    where
      go : (b : Bool) → is_numeral base most s ≡ b → plain (number base most s) ≡ cond (b && true) (some (pos (followed base 0 s))) none
      go true e = ap plain (numeral_value base most s true e)
      go false e = ap plain (numeral_value base most s false e)

  -- a field is a whole number exactly by the test, and then the one that its sign and its figures say
  pub whole_value : (s : List ℕ) → read_whole base most s ≡ cond (is_whole base most s) (some (whole_of base s)) none
  whole_value [] = refl
  whole_value (c ∷ s) = go (eqb c minus)
    where
      go : (b : Bool) → cond b (negative (number base most s)) (plain (number base most (c ∷ s)))
          ≡ cond (is_numeral base most (drop (cond b 1 0) (c ∷ s)) && not (eqb (cond b 1 0) 1 && eqb (get_or (drop (cond b 1 0) (c ∷ s)) 0 0) 48))
          (some (signed_by (cond b 1 0) (pos (followed base 0 (drop (cond b 1 0) (c ∷ s)))))) none
      go true = negative_value s
      go false = plain_value (c ∷ s)

-- What is promised of the list of codes: its length is that of the joint form, at every place the code's condition holds of the
-- remainders, and the digit follows from the code and the remainder. From the laws of one place.
use Rattle.std.specs.Prelude.{◌≡◌, Bool, ℕ, zero, suc, ◌≤◌, ◌<◌, ℤ, pos}
use Rattle.std.proofs.Math.Path.{refl, sym}
use Rattle.std.proofs.Common.{ap, ◌∙◌, le_of_suc-le-suc, arith}
use Rattle.std.proofs.Math.Bool.{true, false}
use borrow.Author.Tests.{ltb-true, ltb-false}
use Rattle.std.proofs.Math.Dec.{ltb}
use Rattle.std.proofs.Math.ListN.{length, get_or, get_or-eq_default}
use Rattle.digits.specs.Column.Length.{row_length}
use Rattle.digits.specs.Two.{Two, other, two}
use Rattle.forms.specs.Codes.{Held, digit_by, digits, remainder_at, code_at, below, codes}
use Rattle.forms.specs.Codes.Next.{by_next}
use Rattle.forms.proofs.Laws.Codes.Next.{codes_next}
use Rattle.forms.proofs.Laws.Codes.Place.{digit_at_lem}
use Rattle.forms.specs.Codes.Rule.{digit_by_lem, code_held}
use Rattle.forms.specs.Joint.{joint}

pub below_length : (f : ℕ → ℕ) (n : ℕ) → length (below f n) ≡ n
unfolding below
below_length f zero = refl
below_length f (suc n) = ap suc (below_length (λ i. f (suc i)) n)

pub below_at : (f : ℕ → ℕ) (n i : ℕ) → i < n → get_or (below f n) i 0 ≡ f i
unfolding below
below_at f zero i h = absurd (omega arith)
below_at f (suc n) zero h = refl
below_at f (suc n) (suc i) h = below_at (λ i. f (suc i)) n i (le_of_suc-le-suc h)

module _ (k l : ℤ) (r : Two) where
  -- as many codes as columns
  pub codes_length : length (codes k l r) ≡ length (joint k l)
  unfolding codes
  codes_length = below_length (code_at k l r) (length (joint k l))

  above : (i : ℕ) → length (joint k l) ≤ i → code_at k l r i ≡ 0
  above i h =
      codes_next k l r i
      ∙ ap (λ (d : ℤ). by_next d (get_or (digits k l r) (suc i) (pos 0)))
      (get_or-eq_default (digits k l r) (pos 0) (omega (arith, row_length two r (joint k l))))

  -- the code at a place; above the top it is 0
  pub code_at_lem : (i : ℕ) → get_or (codes k l r) i 0 ≡ code_at k l r i
  unfolding codes
  code_at_lem i = go (ltb i (length (joint k l))) refl
    where
      go : (b : Bool) → ltb i (length (joint k l)) ≡ b → get_or (codes k l r) i 0 ≡ code_at k l r i
      go true e = below_at (code_at k l r) (length (joint k l)) i (ltb-true i (length (joint k l)) e)
      go false e =
          let high : length (joint k l) ≤ i = ltb-false i (length (joint k l)) e in
          get_or-eq_default (codes k l r) 0 (omega (arith, codes_length)) ∙ sym (above i high)

  -- at every place the digit follows from its code and the remainder
  pub codes_digits_lem : (i : ℕ) → get_or (digits k l r) i (pos 0) ≡ digit_by (get_or (codes k l r) i 0) (remainder_at k l r i)
  codes_digits_lem i =
      digit_at_lem k l i r
      ∙ digit_by_lem (remainder_at k l r i) (remainder_at k l (other r) i)
      ∙ ap (λ (n : ℕ). digit_by n (remainder_at k l r i)) (sym (code_at_lem i))

  -- and the code is the one whose condition holds
  pub codes_held : (i : ℕ) → Held (remainder_at k l r i) (remainder_at k l (other r) i) (get_or (codes k l r) i 0)
  codes_held i = rw (code_at_lem i) (code_held (remainder_at k l r i) (remainder_at k l (other r) i))

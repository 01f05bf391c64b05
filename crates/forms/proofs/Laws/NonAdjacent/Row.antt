-- The row for the window 2^(w−1) − 1 is the width-w form of its number, and no other list is; at w = 2 that is the non-adjacent form.
-- From the row's rule: the residue for w always lies within this window, and a multiple of 2^n has zeros at its n lowest places.
use Rattle.std.specs.Prelude.{◌≡◌, refl, ◌≢◌, ◌↔◌, ◌⊎◌, List, [], ◌∷◌, ℕ, zero, suc, ◌-◌, ◌^◌, ◌≤◌, ◌<◌, length, ℤ, pos, ◌+ℤ◌, ◌-ℤ◌, nat_abs}
use Rattle.std.proofs.Common.{ap, subst, ◌∙◌, inl, inr, ⊎_elim, arith, pow_mono}
use Rattle.std.proofs.Math.Logic.{⊎_map}
use Rattle.std.proofs.Math.Pow.{suc_ones}
use Rattle.digits.specs.Integer.{up, down}
use Rattle.digits.specs.Integer.Parts.{integers, size, sum, difference}
use Rattle.digits.specs.Integer.Congruent.{Congruent, power_step}
use Rattle.digits.specs.Scalar.Length.{length_exact}
use Rattle.digits.specs.Row.{value, Digit, none, odd, Over, empty, more}
use Rattle.forms.specs.Residue.{Residue, width}
use Rattle.forms.specs.Residue.Only.{congruent, divides}
use Rattle.forms.specs.Row.{DigitRule, even, wide, narrow, RowRule, end, place, row}
use Rattle.forms.specs.Row.OddDigit.{halves, half_multiple}
use Rattle.forms.proofs.Laws.Row.Only.{row_meets, row_only}
use Rattle.forms.proofs.Laws.Row.Value.{row_digits, row_value, row_top}
use Rattle.forms.specs.Test.{one_digit}
use Rattle.forms.specs.NonAdjacent.{at, ZeroOrOdd, Sparse, WidthForm, NonAdjacent}

-- what a value leaves above its lowest digit
above : (c d : ℤ) (ds : List ℤ) → value (d ∷ ds) ≡ c → c -ℤ d ≡ value ds +ℤ value ds
unfolding value
above c d ds e =
    let v : ℤ = value ds in omega (integers, difference c d, sum d (v +ℤ v), sum v v)

-- a list that begins with n zeros has a multiple of 2^n as its value
zeros_multiple : (n : ℕ) (ds : List ℤ) → ((i : ℕ) → i < n → at ds i ≡ pos 0) → Congruent (2 ^ n) (value ds) (pos 0)
unfolding value
zeros_multiple zero ds z = record { a = up (value ds); b = down (value ds); parts = omega arith }
zeros_multiple (suc n) [] z = record { a = 0; b = 0; parts = refl }
zeros_multiple (suc n) (d ∷ ds) z =
    let c : ℤ = value (d ∷ ds) in
    subst (λ (x : ℤ). Congruent (2 ^ suc n) c x) (z 0 (omega arith))
    ((half_multiple c d (value ds) (above c d ds refl) n).1 (zeros_multiple n ds (λ i l. z (suc i) (omega arith))))

-- and a row over a window that has such a value begins with n zeros
multiple_zeros : {m : ℕ} {ds : List ℤ} (n : ℕ) → Over m ds → Congruent (2 ^ n) (value ds) (pos 0) → (i : ℕ) → i < n → at ds i ≡ pos 0
multiple_zeros zero o g i l = absurd (omega arith)
multiple_zeros (suc n) empty g i l = refl
multiple_zeros (suc n) (more none o) g zero l = refl
multiple_zeros (suc n) (more {ds = ds} none o) g (suc i) l =
    let c : ℤ = value (pos 0 ∷ ds) in
    multiple_zeros n o ((half_multiple c (pos 0) (value ds) (above c (pos 0) ds refl) n).0 g) i (omega arith)
multiple_zeros (suc n) (more {d = d} {ds = ds} (odd p q) o) g i l =
    let c : ℤ = value (d ∷ ds) in
    absurd (omega (arith, halves c d (value ds) (above c d ds refl), size d, power_step n g.a, power_step n g.b))

-- every digit is within the window, and 0 or odd
over_at : {m : ℕ} {ds : List ℤ} → Over m ds → (i : ℕ) → (nat_abs (at ds i) ≤ m) × ZeroOrOdd (at ds i)
over_at empty i = (omega arith, inl refl)
over_at (more none o) zero = (omega arith, inl refl)
over_at (more (odd p l) o) zero = (l, inr (omega arith))
over_at (more d o) (suc i) = over_at o i

module _ {w m : ℕ} (h : 2 ≤ w) (is : suc m ≡ 2 ^ (w - 1)) where
  window : 1 ≤ m
  window = omega (arith, pow_mono {i = 1} {j = w - 1} (omega arith))

  -- w is the width of the window
  width_of : width m ≡ w
  unfolding width
  width_of = omega (arith, length_exact m (w - 1) (omega arith) (omega arith))

  -- above a digit that is not 0 a multiple of 2^(w−1) is left
  left : (c d c' : ℤ) → c -ℤ d ≡ c' +ℤ c' → DigitRule m c d → (d ≡ pos 0) ⊎ Congruent (2 ^ (w - 1)) c' (pos 0)
  left c d c' e (even p) = inl refl
  left c d c' e (wide p r l) =
      let q : width m ≡ suc (w - 1) = omega (arith, width_of) in inr ((half_multiple c d c' e (w - 1)).0 (rw q at (congruent r)))
  left c d c' e (narrow p r l t) = absurd (omega (arith, rw width_of at r.between))

  -- so the next w − 1 digits are 0
  rule_sparse : {c : ℤ} {ds : List ℤ} → RowRule m c ds → Sparse w ds
  rule_sparse end i j l b = inl refl
  rule_sparse (place n r t s) zero zero l b = absurd (omega arith)
  rule_sparse (place {c = c} {c' = c'} {d = d} {ds = ds} n r t s) zero (suc j) l b = ⊎_map (λ e. e) zeros (left c d c' t r)
    where
      zeros : Congruent (2 ^ (w - 1)) c' (pos 0) → at ds j ≡ pos 0
      zeros g =
          rw (row_only m c' ds window s) (multiple_zeros (w - 1) (row_digits m c' window) (rw (row_value m c' window) g) j (omega arith))
  rule_sparse (place n r t s) (suc i) zero l b = absurd (omega arith)
  rule_sparse (place n r t s) (suc i) (suc j) l b = rule_sparse s i j (omega arith) (omega arith)

  -- the row is the form
  row_form : (c : ℤ) → WidthForm w c (row m c)
  row_form c =
      record {
        reads = row_value m c window;
        small = λ i. omega (arith, (over_at (row_digits m c window) i).0);
        top = row_top m c window;
        sparse = rule_sparse (row_meets m c window);
        odd = λ i. (over_at (row_digits m c window) i).1;
      }

  -- a form without its lowest digit is the form of what is left
  tail : {c d : ℤ} {ds : List ℤ} → WidthForm w c (d ∷ ds) → WidthForm w (value ds) ds
  tail f =
      record {
        reads = refl;
        small = λ i. f.small (suc i);
        top = λ i l. f.top (suc i) (omega arith);
        sparse = λ i j l b. f.sparse (suc i) (suc j) (omega arith) (omega arith);
        odd = λ i. f.odd (suc i);
      }

  -- such a digit is one of the window
  digit_is : {d : ℤ} → nat_abs d < 2 ^ (w - 1) → ZeroOrOdd d → Digit m d
  digit_is l (inl e) = rw e none
  digit_is {d} l (inr p) = odd {d = d} (omega arith) (omega arith)

  -- so a form's digits are the window's
  form_over : {c : ℤ} (ds : List ℤ) → WidthForm w c ds → Over m ds
  form_over [] f = empty
  form_over {c = c} (d ∷ ds) f = more (digit_is (f.small 0) (f.odd 0)) (form_over {c = value ds} ds (tail f))

  -- a form's lowest digit is the rule's
  form_digit : {c d : ℤ} {ds : List ℤ} → Digit m d → WidthForm w c (d ∷ ds) → DigitRule m c d
  form_digit {c} {d} {ds} none f = even (omega (arith, halves c d (value ds) (above c d ds f.reads), size c))
  form_digit {c} {d} {ds} (odd p l) f =
      wide {r = d} (omega (arith, halves c d (value ds) (above c d ds f.reads), size c, size d)) (rw width_of residue) l
    where
      zeros : (i : ℕ) → i < w - 1 → at ds i ≡ pos 0
      zeros i b =
          ⊎_elim (λ e. absurd (omega (arith, ap nat_abs e))) (λ e. e) (f.sparse 0 (suc i) (omega arith) (omega arith))

      residue : Residue w c d
      residue =
          let q : suc (w - 1) ≡ w = omega arith in
          let s = (half_multiple c d (value ds) (above c d ds f.reads) (w - 1)).1 (zeros_multiple (w - 1) ds zeros) in
          record { odd = p; between = f.small 0; divisible = divides (2 ^ w) c d (rw q at s) }

  -- its value is not 0, for its top digit is not
  form_nonzero : {c d : ℤ} {ds : List ℤ} → Over m (d ∷ ds) → WidthForm w c (d ∷ ds) → c ≢ pos 0
  form_nonzero {c} {d} {ds} o f e =
      f.top (length ds) refl
      (multiple_zeros (suc (length ds)) o (rw (f.reads ∙ e) (record { a = 0; b = 0; parts = refl })) (length ds) (omega arith))

  -- so it meets the row's rule
  form_rule : {c : ℤ} {ds : List ℤ} → Over m ds → WidthForm w c ds → RowRule m c ds
  unfolding value
  form_rule empty f = rw (← f.reads) end
  form_rule {c} (more {d = d} {ds = ds} g o) f =
      place (form_nonzero (more g o) f) (form_digit g f) (above c d ds f.reads) (form_rule {c = value ds} {ds = ds} o (tail f))

  -- and is the row
  form_only : (c : ℤ) (ds : List ℤ) → WidthForm w c ds → ds ≡ row m c
  form_only c ds f = row_only m c ds window (form_rule (form_over ds f) f)

-- the row for 2^(w−1) − 1 is the width-w form
pub width_form_row : (w : ℕ) (c : ℤ) → 2 ≤ w → WidthForm w c (row (2 ^ (w - 1) - 1) c)
width_form_row w c h = row_form h (suc_ones (w - 1)) c

-- and the only one
pub width_form_only : (w : ℕ) (c : ℤ) (ds : List ℤ) → 2 ≤ w → WidthForm w c ds → ds ≡ row (2 ^ (w - 1) - 1) c
width_form_only w c ds h = form_only h (suc_ones (w - 1)) c ds

-- the non-adjacent form is the form of width 2
narrowest : {c : ℤ} {ds : List ℤ} → WidthForm 2 c ds ↔ NonAdjacent c ds
narrowest {c} {ds} = (
  λ f.
      record {
        reads = f.reads;
        small = λ i. omega (arith, f.small i);
        top = f.top;
        sparse = λ i. f.sparse i (suc i) (omega arith) (omega arith);
      },
  λ f.
      record {
        reads = f.reads;
        small = λ i. omega (arith, f.small i);
        top = f.top;
        sparse = λ i j l b. let e : j ≡ suc i = omega arith in rw e (f.sparse i);
        odd = λ i. one_digit ZeroOrOdd (inr (omega arith), (inl refl, inr (omega arith))) (at ds i) (f.small i);
      },
)

-- the row for 1 is the non-adjacent form
pub non_adjacent_row : (c : ℤ) → NonAdjacent c (row 1 c)
non_adjacent_row c = narrowest.0 (width_form_row 2 c (omega arith))

-- and the only one
pub non_adjacent_only : (c : ℤ) (ds : List ℤ) → NonAdjacent c ds → ds ≡ row 1 c
non_adjacent_only c ds f = width_form_only 2 c ds (omega arith) (narrowest.1 f)

-- The digits that a plan takes make k and l, and so does for a plan I any pair of rows over its digits: from the laws of the row
-- and of the joint form.
use Rattle.std.specs.Prelude.{◌≡◌, refl, ◌≢◌, Bool, true, false, not, ℕ, suc, ◌+◌, ◌≤◌, ◌<◌, T, leb, pos, ◌+ℤ◌, nat_abs, length, get_or}
use Rattle.std.proofs.Common.{sym, ap, subst, ◌∙◌, arith, leb-true, leb-false}
use mathlib.Core.List.{List, [], ◌∷◌}
use Rattle.std.proofs.Math.IntN.{ℤ}
use Rattle.std.proofs.Math.Facts.{not_T}
use Rattle.digits.specs.Scalar.{bit_length}
use Rattle.digits.specs.Row.{value, none, Over, empty, more}
use Rattle.digits.specs.Row as Rows
use Rattle.digits.specs.Column.{row}
use Rattle.digits.specs.Two.{Column, P, Q, blank, blank_digit, paired}
use Rattle.digits.specs.Two.Paired.{paired_length, paired_at}
use Rattle.forms.specs.Joint.{Topped}
use Rattle.forms.proofs.Laws.Joint.Length.{joint_length}
use Rattle.forms.proofs.Laws.Joint.Negated.{joint_size}
use Rattle.forms.proofs.Laws.Joint.Value.{joint_value, joint_small, joint_top}
use Rattle.forms.specs.Row as Row
use Rattle.forms.proofs.Laws.Row.Length.{row_length}
use Rattle.forms.proofs.Laws.Row.Negated.{row_size}
use Rattle.forms.proofs.Laws.Row.Value.{row_digits, row_value, row_top}
use Rattle.sheet.specs.declared.Plan.{Plan}
use Rattle.sheet.specs.declared.Plan.TheVariants.{I}
use Rattle.sheet.specs.Digits.{row_p, row_q, weight}
use Rattle.sheet.specs.Plan.{point}
use Rattle.written.specs.Makes.{Makes}
use Rattle.written.specs.Valid.{Valid, for_j, for_i, window_positive}
use Rattle.written.specs.Written.{digits}

-- ── two rows over the same places ───────────────────────────────────────────────────────────

zeros_value : (v : ℤ) → v ≡ pos 0 → pos 0 +ℤ (v +ℤ v) ≡ pos 0
zeros_value v e = ap (λ (x : ℤ). pos 0 +ℤ (x +ℤ x)) e

-- each row keeps its value, its digits and its weight
pub paired_value : (xs ys : List ℤ) → (value (row_p (paired xs ys)) ≡ value xs) × (value (row_q (paired xs ys)) ≡ value ys)
unfolding value row paired
paired_value [] [] = (refl, refl)
paired_value (a ∷ xs) [] =
    let r = paired_value xs [] in
    (ap (λ (v : ℤ). a +ℤ (v +ℤ v)) r.0, zeros_value (value (row_q (paired xs []))) r.1)
paired_value [] (b ∷ ys) =
    let r = paired_value [] ys in
    (zeros_value (value (row_p (paired [] ys))) r.0, ap (λ (v : ℤ). b +ℤ (v +ℤ v)) r.1)
paired_value (a ∷ xs) (b ∷ ys) =
    let r = paired_value xs ys in
    (ap (λ (v : ℤ). a +ℤ (v +ℤ v)) r.0, ap (λ (v : ℤ). b +ℤ (v +ℤ v)) r.1)

pub paired_weight : (xs ys : List ℤ)
    → (Rows.weight (row_p (paired xs ys)) ≡ Rows.weight xs) × (Rows.weight (row_q (paired xs ys)) ≡ Rows.weight ys)
unfolding Rows.weight row paired
paired_weight [] [] = (refl, refl)
paired_weight (a ∷ xs) [] = let r = paired_weight xs [] in (omega (arith, r.0), omega (arith, r.1))
paired_weight [] (b ∷ ys) = let r = paired_weight [] ys in (omega (arith, r.0), omega (arith, r.1))
paired_weight (a ∷ xs) (b ∷ ys) = let r = paired_weight xs ys in (omega (arith, r.0), omega (arith, r.1))

paired_over : {m1 m2 : ℕ} (xs ys : List ℤ) → Over m1 xs → Over m2 ys → Over m1 (row_p (paired xs ys)) × Over m2 (row_q (paired xs ys))
unfolding row paired
paired_over [] [] empty empty = (empty, empty)
paired_over (a ∷ xs) [] (more d r) empty = let t = paired_over xs [] r empty in (more d t.0, more none t.1)
paired_over [] (b ∷ ys) empty (more d r) = let t = paired_over [] ys empty r in (more none t.0, more d t.1)
paired_over (a ∷ xs) (b ∷ ys) (more d r) (more e s) = let t = paired_over xs ys r s in (more d t.0, more e t.1)

-- the top digit of the longer row is not 0
paired_top : (xs ys : List ℤ) → ((i : ℕ) → length xs ≡ suc i → get_or xs i (pos 0) ≢ pos 0)
    → ((i : ℕ) → length ys ≡ suc i → get_or ys i (pos 0) ≢ pos 0) → Topped (paired xs ys)
paired_top xs ys f g i e =
    subst (λ (c : Column). T (not (blank c))) (sym (paired_at xs ys i))
    (not_T (blank (point (get_or xs i (pos 0)) (get_or ys i (pos 0)))) (go (leb (length ys) (length xs)) refl))
  where
    go : (b : Bool) → leb (length ys) (length xs) ≡ b → T (blank (point (get_or xs i (pos 0)) (get_or ys i (pos 0)))) → ⊥
    go true l t =
        let h : length ys ≤ length xs = leb-true (length ys) (length xs) l in
        f i (omega (arith, paired_length xs ys)) (blank_digit (point (get_or xs i (pos 0)) (get_or ys i (pos 0))) t P)
    go false l t =
        let h : length xs < length ys = leb-false (length ys) (length xs) l in
        g i (omega (arith, paired_length xs ys)) (blank_digit (point (get_or xs i (pos 0)) (get_or ys i (pos 0))) t Q)

-- ── the digits of a plan ────────────────────────────────────────────────────────────────────

-- two rows over the digits of a plan I, each with a top that is not 0 and at most one place more than its value has bits, make their values
pub rows_make : {m1 m2 : ℕ} {k l : ℤ} (xs ys : List ℤ) → Over m1 xs → Over m2 ys → value xs ≡ k → value ys ≡ l
    → ((i : ℕ) → length xs ≡ suc i → get_or xs i (pos 0) ≢ pos 0) → ((i : ℕ) → length ys ≡ suc i → get_or ys i (pos 0) ≢ pos 0)
    → length xs ≤ bit_length (nat_abs k) + 1 → length ys ≤ bit_length (nat_abs l) + 1 → Makes (I m1 m2) k l (paired xs ys)
rows_make xs ys o u e f t w a b =
    let values = paired_value xs ys in
    record {
      fit = paired_over xs ys o u;
      reads_k = values.0 ∙ e;
      reads_l = values.1 ∙ f;
      top = paired_top xs ys t w;
      few = omega (arith, paired_length xs ys);
    }

module _ (k l : ℤ) where
  -- the digits of a plan make k and l
  pub digits_make : {p : Plan} → Valid p → Makes p k l (digits p k l)
  unfolding digits
  digits_make for_j =
      let values = joint_value k l in
      record { fit = joint_small k l; reads_k = values.0; reads_l = values.1; top = joint_top k l; few = joint_length k l }
  digits_make (for_i {m1} {m2} v w) =
      let a = window_positive v in
      let b = window_positive w in
      rows_make (Row.row m1 k) (Row.row m2 l) (row_digits m1 k a) (row_digits m2 l b) (row_value m1 k a) (row_value m2 l b) (row_top m1 k a) (row_top m2 l b)
      (row_length m1 k a) (row_length m2 l b)

  -- the signs of the scalars change neither how many there are nor what the plan counts
  pub digits_signs : {p : Plan} → Valid p
      → (length (digits p k l) ≡ length (digits p (pos (nat_abs k)) (pos (nat_abs l)))) × (weight p (digits p k l) ≡ weight p (digits p (pos (nat_abs k)) (pos (nat_abs l))))
  unfolding digits
  digits_signs for_j = joint_size k l
  digits_signs (for_i {m1} {m2} v w) =
      let xs : List ℤ = Row.row m1 k in
      let ys : List ℤ = Row.row m2 l in
      let us : List ℤ = Row.row m1 (pos (nat_abs k)) in
      let vs : List ℤ = Row.row m2 (pos (nat_abs l)) in
      let x = row_size m1 k (window_positive v) in
      let y = row_size m2 l (window_positive w) in (
        omega (arith, paired_length xs ys, paired_length us vs, x.0, y.0),
        omega (arith, paired_weight xs ys, paired_weight us vs, x.1, y.1),
      )

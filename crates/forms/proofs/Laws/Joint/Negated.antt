-- Numbers with signs have the joint columns of the plain ones, each row with the sign of its own number; so length and weight are those of
-- their sizes. Along the rule of the columns; one table of all remainders by 8 is computed.
use Rattle.std.specs.Prelude.{◌≡◌, refl, List, [], ◌∷◌, map, ℕ, zero, suc, ◌-◌, ◌%◌, ◌<◌, length, ℤ, pos, ◌+ℤ◌, neg_ℤ, nat_abs}
use Rattle.std.proofs.Common.{sym, ap, ap₂, subst, ◌∙◌, arith}
use Rattle.std.proofs.lemmas.List.{length-map}
use Rattle.digits.specs.Column as Columns
use Rattle.digits.specs.Integer.{rem, signed_by}
use Rattle.digits.specs.Integer.Parts.{rem_lt}
use Rattle.digits.specs.Integer.Sign.{rem_negated, signed_sum, signed_zero, size_signed}
use Rattle.digits.specs.Two.{Column, Two, of, two}
use Rattle.digits.specs.Two.Sign.{signed_column, row_signed, weight_signed}
use Rattle.forms.specs.Residue.{residue}
use Rattle.forms.specs.Joint.{digit, column, joint}
use Rattle.forms.proofs.Laws.Joint.Digit.{digit_rem}
use Rattle.forms.specs.Joint.Rule.{JointRule, end, place}
use Rattle.forms.proofs.Laws.Joint.Rule.{joint_rule, joint_rule_only}
use Rattle.forms.specs.Test.{both, same, every_below}

-- the remainder by 8 of a negated number
abbrev less : ℕ → ℕ
less x = (8 - x) % 8

-- a digit turns with its own number, and not with the other
table : (x : ℕ) → x < 8 → (y : ℕ) → y < 8
    → (digit (pos (less x)) (pos y) ≡ neg_ℤ (digit (pos x) (pos y))) × (digit (pos x) (pos (less y)) ≡ digit (pos x) (pos y))
unfolding digit residue
table =
    (every_below 8 (λ x. every_below 8 (λ y.
    both (same (digit (pos (less x)) (pos y)) (neg_ℤ (digit (pos x) (pos y)))) (same (digit (pos x) (pos (less y))) (digit (pos x) (pos y)))))).tells tt

module _ (c o : ℤ) where
  here :
      let x : ℕ = rem c 8 in
      let y : ℕ = rem o 8 in
      (digit (pos (less x)) (pos y) ≡ neg_ℤ (digit (pos x) (pos y))) × (digit (pos x) (pos (less y)) ≡ digit (pos x) (pos y))
  here = table (rem c 8) (rem_lt c 8 (omega arith)) (rem o 8) (rem_lt o 8 (omega arith))

  digit_negated : digit (neg_ℤ c) o ≡ neg_ℤ (digit c o)
  digit_negated =
      digit_rem (neg_ℤ c) o
      ∙ ap (λ (x : ℕ). digit (pos x) (pos (rem o 8))) (rem_negated c 8 (omega arith))
      ∙ here.0
      ∙ ap neg_ℤ (sym (digit_rem c o))

  other_negated : digit c (neg_ℤ o) ≡ digit c o
  other_negated =
      digit_rem c (neg_ℤ o)
      ∙ ap (λ (y : ℕ). digit (pos (rem c 8)) (pos y)) (rem_negated o 8 (omega arith))
      ∙ here.1
      ∙ sym (digit_rem c o)

digit_signed : (c_sign o_sign : ℕ) (c o : ℤ) → digit (signed_by c_sign c) (signed_by o_sign o) ≡ signed_by c_sign (digit c o)
digit_signed zero zero c o = refl
digit_signed zero (suc n) c o = other_negated c o
digit_signed (suc m) zero c o = digit_negated c o
digit_signed (suc m) (suc n) c o = digit_negated c (neg_ℤ o) ∙ ap neg_ℤ (other_negated c o)

-- a number with a sign is its digit with the sign and twice what is left with it
left_signed : (c_sign o_sign : ℕ) (c o a : ℤ) → c ≡ digit c o +ℤ (a +ℤ a)
    → signed_by c_sign c ≡ digit (signed_by c_sign c) (signed_by o_sign o) +ℤ (signed_by c_sign a +ℤ signed_by c_sign a)
left_signed c_sign o_sign c o a e =
    ap (signed_by c_sign) e
    ∙ signed_sum c_sign (digit c o) (a +ℤ a)
    ∙ ap₂ ◌+ℤ◌ (sym (digit_signed c_sign o_sign c o)) (signed_sum c_sign a a)

-- 0 and 0 have no columns with any signs
nothing : (k_sign l_sign : ℕ) → JointRule (signed_by k_sign (pos 0)) (signed_by l_sign (pos 0)) []
nothing zero zero = end
nothing zero (suc n) = end
nothing (suc m) zero = end
nothing (suc m) (suc n) = end

module _ (k_sign l_sign : ℕ) where
  column_signed : (k l : ℤ) → column (signed_by k_sign k) (signed_by l_sign l) ≡ signed_column k_sign l_sign (column k l)
  unfolding column
  column_signed k l = λ i. record { p = digit_signed k_sign l_sign k l i; q = digit_signed l_sign k_sign l k i }

  rule_signed : {k l : ℤ} {cs : List Column} → JointRule k l cs → JointRule (signed_by k_sign k) (signed_by l_sign l) (map (signed_column k_sign l_sign) cs)
  rule_signed end = nothing k_sign l_sign
  rule_signed (place {k = k} {l = l} {k' = a} {l' = b} {cs = cs} n e f s) =
      subst (λ (c : Column). JointRule (signed_by k_sign k) (signed_by l_sign l) (c ∷ map (signed_column k_sign l_sign) cs)) (column_signed k l)
      (place (λ z. n (signed_zero k_sign k z.0, signed_zero l_sign l z.1)) (left_signed k_sign l_sign k l a e) (left_signed l_sign k_sign l k b f) (rule_signed s))

  joint_signed : (k l : ℤ) → joint (signed_by k_sign k) (signed_by l_sign l) ≡ map (signed_column k_sign l_sign) (joint k l)
  joint_signed k l = sym (joint_rule_only (rule_signed (joint_rule k l)))

-- each row has the sign of its own number
pub joint_negates : (k l : ℤ) (k_sign l_sign : ℕ) (r : Two)
    → Columns.row two r (joint (signed_by k_sign k) (signed_by l_sign l)) ≡ map (signed_by (of k_sign l_sign r)) (Columns.row two r (joint k l))
joint_negates k l k_sign l_sign r =
    ap (Columns.row two r) (joint_signed k_sign l_sign k l) ∙ row_signed k_sign l_sign r (joint k l)

-- length and weight stay
pub joint_signed_size : (k l : ℤ) (k_sign l_sign : ℕ)
    → (length (joint (signed_by k_sign k) (signed_by l_sign l)) ≡ length (joint k l))
    × (Columns.weight two (joint (signed_by k_sign k) (signed_by l_sign l)) ≡ Columns.weight two (joint k l))
joint_signed_size k l k_sign l_sign =
    let e = joint_signed k_sign l_sign k l in (
      ap length e ∙ length-map (joint k l) (signed_column k_sign l_sign),
      ap (Columns.weight two) e ∙ weight_signed k_sign l_sign (joint k l),
    )

-- so they are those of the numbers' sizes
pub joint_size : (k l : ℤ)
    → (length (joint k l) ≡ length (joint (pos (nat_abs k)) (pos (nat_abs l))))
    × (Columns.weight two (joint k l) ≡ Columns.weight two (joint (pos (nat_abs k)) (pos (nat_abs l))))
joint_size k l =
    let (k_sign, e) = size_signed k in
    let (l_sign, f) = size_signed l in
    let same = ap₂ joint e f in
    let signed = joint_signed_size (pos (nat_abs k)) (pos (nat_abs l)) k_sign l_sign in
    (ap length same ∙ signed.0, ap (Columns.weight two) same ∙ signed.1)

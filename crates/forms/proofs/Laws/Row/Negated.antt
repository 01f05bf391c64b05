-- The row of a negated number has each digit negated, so a row's length and weight are those of its number's size. Along the row's rule.
use Rattle.std.specs.Prelude.{◌≡◌, List, map, ℕ, zero, suc, ◌^◌, ◌≤◌, length, ℤ, pos, neg_ℤ, nat_abs}
use Rattle.std.proofs.Common.{sym, ap, ◌∙◌}
use Rattle.std.proofs.lemmas.List.{length-map}
use Rattle.digits.specs.Integer.{signed_by}
use Rattle.digits.specs.Integer.Congruent.{negated}
use Rattle.digits.specs.Integer.Parts.{integers, sum, difference, negation}
use Rattle.digits.specs.Integer.Sign.{negated_size, size_signed, signed_zero}
use Rattle.digits.specs.Row.{weight}
use Rattle.digits.specs.Row.Sign.{plus_row, weight_signed}
use Rattle.forms.specs.Residue.{Residue}
use Rattle.forms.specs.Residue.Only.{congruent, divides}
use Rattle.forms.specs.Row.{DigitRule, even, wide, narrow, RowRule, end, place, row}
use Rattle.forms.proofs.Laws.Row.Only.{row_meets, row_only}

residue_negated : {w : ℕ} {c r : ℤ} → Residue w c r → Residue w (neg_ℤ c) (neg_ℤ r)
residue_negated {w} {c} {r} h =
    record {
      odd = rw (negated_size r) h.odd;
      between = rw (negated_size r) h.between;
      divisible = divides (2 ^ w) (neg_ℤ c) (neg_ℤ r) (negated (congruent h));
    }

digit_negated : {m : ℕ} {c d : ℤ} → DigitRule m c d → DigitRule m (neg_ℤ c) (neg_ℤ d)
digit_negated {c = c} (even p) = even (rw (negated_size c) p)
digit_negated {c = c} (wide {r = r} p h l) = wide (rw (negated_size c) p) (residue_negated h) (rw (negated_size r) l)
digit_negated {c = c} (narrow {s = s} p h l t) =
    narrow (rw (negated_size c) p) (residue_negated h) (rw (negated_size s) l) (residue_negated t)

rule_negated : {m : ℕ} {c : ℤ} {ds : List ℤ} → RowRule m c ds → RowRule m (neg_ℤ c) (map neg_ℤ ds)
rule_negated end = end
rule_negated (place {c = c} {c' = b} {d = d} n r t s) =
    place {c' = neg_ℤ b} (λ e. n (signed_zero 1 c e)) (digit_negated r)
    (omega (integers, t, difference c d, difference (neg_ℤ c) (neg_ℤ d), sum b b, sum (neg_ℤ b) (neg_ℤ b), negation c, negation d, negation b))
    (rule_negated s)

-- the row of a negated number
pub row_negates : (m : ℕ) (c : ℤ) → 1 ≤ m → row m (neg_ℤ c) ≡ map neg_ℤ (row m c)
row_negates m c h = sym (row_only m (neg_ℤ c) (map neg_ℤ (row m c)) h (rule_negated (row_meets m c h)))

-- and of one with a sign
pub row_signed : (m sign : ℕ) (c : ℤ) → 1 ≤ m → row m (signed_by sign c) ≡ map (signed_by sign) (row m c)
row_signed m zero c h = sym (plus_row (row m c))
row_signed m (suc n) c h = row_negates m c h

-- length and weight are those of the number's size
pub row_size : (m : ℕ) (c : ℤ) → 1 ≤ m
    → (length (row m c) ≡ length (row m (pos (nat_abs c)))) × (weight (row m c) ≡ weight (row m (pos (nat_abs c))))
row_size m c h =
    let (sign, e) = size_signed c in
    let ds : List ℤ = row m (pos (nat_abs c)) in
    let same : row m c ≡ map (signed_by sign) ds = ap (row m) e ∙ row_signed m sign (pos (nat_abs c)) h in
    (ap length same ∙ length-map ds (signed_by sign), ap weight same ∙ weight_signed sign ds)

-- A row's digits are those of its window, its value is the number, and its top digit is not 0. Along the row's rule.
use Rattle.std.specs.Prelude.{◌≡◌, refl, ◌≢◌, List, ℕ, zero, suc, ◌≤◌, length, get_or, ℤ, pos, ◌+ℤ◌}
use Rattle.std.proofs.Common.{inl, inr, arith}
use Rattle.digits.specs.Integer.Parts.{integers, sum}
use Rattle.digits.specs.Row.{value, Digit, none, odd, Over, empty, more}
use Rattle.forms.specs.Row.{RowRule, end, place, row}
use Rattle.forms.specs.Row.OddDigit.{Cases, digit_cases, halves}
use Rattle.forms.proofs.Laws.Row.Only.{row_meets}

rule_digit : {m : ℕ} {c d : ℤ} → Cases m c d → Digit m d
rule_digit {m} (inl p) = rw p.1 none
rule_digit (inr o) = odd o.odd o.small

rule_digits : {m : ℕ} {c : ℤ} {ds : List ℤ} → 1 ≤ m → RowRule m c ds → Over m ds
rule_digits h end = empty
rule_digits h (place n r t s) = more (rule_digit (digit_cases h r)) (rule_digits h s)

-- the digits are those of the window
pub row_digits : (m : ℕ) (c : ℤ) → 1 ≤ m → Over m (row m c)
row_digits m c h = rule_digits h (row_meets m c h)

rule_value : {m : ℕ} {c : ℤ} {ds : List ℤ} → RowRule m c ds → value ds ≡ c
unfolding value
rule_value end = refl
rule_value (place {c = c} {c' = b} {d = d} {ds = ds} n r t s) =
    let v : value ds ≡ b = rule_value s in
    omega (integers, halves c d b t, sum d (value ds +ℤ value ds), sum (value ds) (value ds))

-- the value is the number
pub row_value : (m : ℕ) (c : ℤ) → 1 ≤ m → value (row m c) ≡ c
row_value m c h = rule_value (row_meets m c h)

rule_top : {m : ℕ} {c : ℤ} {ds : List ℤ} → RowRule m c ds → (i : ℕ) → length ds ≡ suc i → get_or ds i (pos 0) ≢ pos 0
rule_top end i l = absurd (omega arith)
rule_top (place {c = c} {c' = b} {d = d} n r t end) zero l = λ e. n (omega (integers, halves c d b t))
rule_top (place n r t end) (suc i) l = absurd (omega arith)
rule_top (place n r t (place n' r' t' s)) zero l = absurd (omega arith)
rule_top (place n r t (place n' r' t' s)) (suc i) l = rule_top (place n' r' t' s) i (omega arith)

-- the top digit is not 0
pub row_top : (m : ℕ) (c : ℤ) → 1 ≤ m → (i : ℕ) → length (row m c) ≡ suc i → get_or (row m c) i (pos 0) ≢ pos 0
row_top m c h = rule_top (row_meets m c h)

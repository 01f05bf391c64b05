-- The joint sparse form of k and l has the values k and l, its digits are −1, 0 and 1, and its top column is not zero: from
-- the rule of its columns.
use Rattle.std.specs.Prelude.{◌≡◌, refl, List, zero, suc, ℤ, pos, ◌+ℤ◌}
use Rattle.std.proofs.Common.{sym, ap, ◌∙◌, arith}
use Rattle.std.proofs.Math.Facts.{not_T}
use Rattle.digits.specs.Row.{value}
use Rattle.digits.specs.Column.{row, Small, empty, more}
use Rattle.digits.specs.Two as Two
use Rattle.digits.specs.Two.{Column, Two, P, Q, of, two, blank, blank_digit}
use Rattle.forms.specs.Joint.{Topped, column, digit, joint}
use Rattle.forms.proofs.Laws.Joint.Digit.{digit_fits}
use Rattle.forms.specs.Joint.Rule.{JointRule, end, place}
use Rattle.forms.proofs.Laws.Joint.Rule.{joint_rule}

-- the digit of the column in each row
pub column_digit : (k l : ℤ) (r : Two) → Two.digit (column k l) r ≡ digit (of k l r) (of l k r)
unfolding column
column_digit k l P = refl
column_digit k l Q = refl

rule_value : {k l : ℤ} {cs : List Column} → JointRule k l cs → (r : Two) → value (row two r cs) ≡ of k l r
unfolding value row column
rule_value end P = refl
rule_value end Q = refl
rule_value (place n e f s) P = rw (rule_value s P) (sym e)
rule_value (place n e f s) Q = rw (rule_value s Q) (sym f)

-- the rows have the values k and l
pub joint_value : (k l : ℤ) → (value (row two P (joint k l)) ≡ k) × (value (row two Q (joint k l)) ≡ l)
joint_value k l = (rule_value (joint_rule k l) P, rule_value (joint_rule k l) Q)

rule_small : {k l : ℤ} {cs : List Column} → JointRule k l cs → Small two cs
rule_small end = empty
rule_small (place {k = k} {l = l} n e f s) =
    more {c = column k l} (λ r. rw (column_digit k l r) (digit_fits (of k l r) (of l k r)).0) (rule_small s)

-- the digits are −1, 0 and 1
pub joint_small : (k l : ℤ) → Small two (joint k l)
joint_small k l = rule_small (joint_rule k l)

-- a column with nothing left above it
lone : (k d : ℤ) → k ≡ d +ℤ (pos 0 +ℤ pos 0) → d ≡ pos 0 → k ≡ pos 0
lone k d e z = e ∙ ap (λ d. d +ℤ pos 0) z

rule_top : {k l : ℤ} {cs : List Column} → JointRule k l cs → Topped cs
unfolding column
rule_top end i h = absurd (omega arith)
rule_top (place {k = k} {l = l} n e f end) zero h = not_T (blank (column k l))
    (λ t. n (lone k (digit k l) e (blank_digit (column k l) t P), lone l (digit l k) f (blank_digit (column k l) t Q)))
rule_top (place n e f end) (suc i) h = absurd (omega arith)
rule_top (place n e f (place m g j s)) zero h = absurd (omega arith)
rule_top (place n e f (place m g j s)) (suc i) h = rule_top (place m g j s) i (omega arith)

-- the top column is not zero
pub joint_top : (k l : ℤ) → Topped (joint k l)
joint_top k l = rule_top (joint_rule k l)

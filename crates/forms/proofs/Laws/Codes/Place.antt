-- At each place of a joint form the equation of 02 holds of the remainder, and the columns from there on are those of the remainders. From the
-- rule of the columns.
use Rattle.std.specs.Prelude.{◌≡◌, refl, ◌↔◌, List, [], ◌∷◌, ℕ, zero, suc, ◌+◌, ◌^◌, ℤ, pos, ◌+ℤ◌, ◌*ℤ◌, get_or, take, drop}
use Rattle.std.proofs.Common.{sym, ap, ap₂, subst, ◌∙◌, ⊎_elim, arith, get_or-drop}
use Rattle.std.proofs.Math.ListN.{get_or-map}
use Rattle.digits.specs.Column as Columns
use Rattle.digits.specs.Integer.{up, down, half}
use Rattle.digits.specs.Integer.Congruent.{power_step}
use Rattle.digits.specs.Integer.Parts.{integers, sum, times}
use Rattle.digits.specs.Row.{value}
use Rattle.digits.specs.Two as Two
use Rattle.digits.specs.Two.{Column, Two, P, Q, other, of, two, blank_column}
use Rattle.forms.specs.Codes.{Leaves, digits, remainder_at}
use Rattle.forms.specs.Codes.Remainder.{remainder_only}
use Rattle.forms.specs.Joint.{digit, column, rest, joint}
use Rattle.forms.specs.Joint.Rule.{BothZero, JointRule, end, place}
use Rattle.forms.proofs.Laws.Joint.Rule.{zero_or_not, joint_rule, joint_rule_only, joint_unfold, joint_zero}
use Rattle.forms.proofs.Laws.Joint.Value.{column_digit}
use Rattle.forms.specs.Test.{rows}

-- at place 0 all of c is left; of 0 nothing is; and what is left at a place of (c − d)/2 is left at the next place of c
leaves_all : (c : ℤ) (ds : List ℤ) → Leaves c ds 0 c
unfolding value
leaves_all c ds = omega (integers, sum (pos 0) (pos 1 *ℤ c), times 1 c)

leaves_none : (i : ℕ) → Leaves (pos 0) [] (suc i) (pos 0)
unfolding value
leaves_none i = omega (integers, sum (pos 0) (pos (2 ^ suc i) *ℤ pos 0), times (2 ^ suc i) (pos 0))

leaves_more : (c d a : ℤ) (ds : List ℤ) (i : ℕ) (z : ℤ) → c ≡ d +ℤ (a +ℤ a) → Leaves a ds i z → Leaves c (d ∷ ds) (suc i) z
unfolding value
leaves_more c d a ds i z e f =
    let v : ℤ = value (take i ds) in
    let x : ℤ = pos (2 ^ i) *ℤ z in
    let y : ℤ = pos (2 ^ suc i) *ℤ z in
    omega (
      integers,
      e,
      f,
      sum d (a +ℤ a),
      sum a a,
      sum v x,
      sum d (v +ℤ v),
      sum v v,
      sum (d +ℤ (v +ℤ v)) y,
      times (2 ^ i) z,
      times (2 ^ suc i) z,
      power_step i (up z),
      power_step i (down z),
    )

-- what is left of k and l at the place i of their columns
record From (k l : ℤ) (cs : List Column) (i : ℕ) : Type 0 where
  left : Two → ℤ
  leaves : (r : Two) → Leaves (of k l r) (Columns.row two r cs) i (left r)
  rule : JointRule (left P) (left Q) (drop i cs)

rule_from : {k l : ℤ} {cs : List Column} → JointRule k l cs → (i : ℕ) → From k l cs i
unfolding Columns.row column
rule_from {k} {l} {cs} r zero =
    record { left = of k l; leaves = λ r. leaves_all (of k l r) (Columns.row two r cs); rule = r }
rule_from end (suc i) = record { left = λ _. pos 0; leaves = rows _ (leaves_none i, leaves_none i); rule = end }
rule_from (place {k = k} {l = l} {k' = a} {l' = b} {cs = cs} n e f s) (suc i) =
    let next = rule_from {k = a} {l = b} {cs = cs} s i in
    record {
      left = next.left;
      leaves =
          rows _ (
            leaves_more k (digit k l) a (Columns.row two P cs) i (next.left P) e (next.leaves P),
            leaves_more l (digit l k) b (Columns.row two Q cs) i (next.left Q) f (next.leaves Q),
          );
      rule = next.rule;
    }

module _ (k l : ℤ) (i : ℕ) where
  from : From k l (joint k l) i
  from = rule_from (joint_rule k l) i

  left_is : (r : Two) → from.left r ≡ remainder_at k l r i
  left_is r = remainder_only (of k l r) (digits k l r) i (from.left r) (from.leaves r)

  -- the digits below a place and 2^place times the remainder there are the number, and nothing else is the remainder
  pub remainder_is : (r : Two) (z : ℤ) → (z ≡ remainder_at k l r i) ↔ Leaves (of k l r) (digits k l r) i z
  remainder_is r z = (
    λ e. subst (Leaves (of k l r) (digits k l r) i) (left_is r ∙ sym e) (from.leaves r),
    remainder_only (of k l r) (digits k l r) i z,
  )

  -- the columns from a place on are those of the remainders there
  pub joint_from : drop i (joint k l) ≡ joint (remainder_at k l P i) (remainder_at k l Q i)
  joint_from = joint_rule_only from.rule ∙ ap₂ joint (left_is P) (left_is Q)

-- a digit of a row, by its column
row_at : (r : Two) (cs : List Column) (i : ℕ) → get_or (Columns.row two r cs) i (pos 0) ≡ Two.digit (get_or cs i blank_column) r
unfolding Columns.row
row_at P cs i = get_or-map (λ c. Two.digit c P) cs i blank_column
row_at Q cs i = get_or-map (λ c. Two.digit c Q) cs i blank_column

-- the columns of 0 and 0, and of other numbers
nothing : (r : Two) (i : ℕ) → get_or (digits (pos 0) (pos 0) r) i (pos 0) ≡ pos 0
unfolding Columns.row
nothing r i = rw joint_zero

some : (k l : ℤ) (r : Two) (i : ℕ) → ¬ (BothZero k l)
    → get_or (digits k l r) i (pos 0) ≡ get_or (digit (of k l r) (of l k r) ∷ digits (rest k l) (rest l k) r) i (pos 0)
unfolding Columns.row
some k l r i n = rw (joint_unfold k l n, ← column_digit k l r)

-- the lowest digit of a joint form, and the others
first : (k l : ℤ) (r : Two) → get_or (digits k l r) 0 (pos 0) ≡ digit (of k l r) (of l k r)
unfolding digit
first k l r = ⊎_elim (λ z. rw (z.0, z.1) (nothing r 0 ∙ zeros r)) (some k l r 0) (zero_or_not k l)
  where
    zeros : (r : Two) → pos 0 ≡ digit (of (pos 0) (pos 0) r) (of (pos 0) (pos 0) r)
    zeros P = refl
    zeros Q = refl

others : (k l : ℤ) (r : Two) (i : ℕ) → get_or (digits k l r) (suc i) (pos 0) ≡ get_or (digits (rest k l) (rest l k) r) i (pos 0)
unfolding rest digit half
others k l r i = ⊎_elim (λ z. rw (z.0, z.1) (nothing r (suc i) ∙ sym (nothing r i))) (some k l r (suc i)) (zero_or_not k l)

module _ (k l : ℤ) (i : ℕ) where
  -- the digits from a place on are those of the remainders there
  digits_from : (r : Two) (j : ℕ) → get_or (digits k l r) (i + j) (pos 0) ≡ get_or (digits (remainder_at k l P i) (remainder_at k l Q i) r) j (pos 0)
  digits_from r j =
      row_at r (joint k l) (i + j)
      ∙ ap (λ (c : Column). Two.digit c r) (sym (get_or-drop i (joint k l) j blank_column) ∙ ap (λ (cs : List Column). get_or cs j blank_column) (joint_from k l i))
      ∙ sym (row_at r (joint (remainder_at k l P i) (remainder_at k l Q i)) j)

  here : (r : Two) → get_or (digits k l r) i (pos 0) ≡ digit (of (remainder_at k l P i) (remainder_at k l Q i) r) (of (remainder_at k l Q i) (remainder_at k l P i) r)
  here r = ap (λ (j : ℕ). get_or (digits k l r) j (pos 0)) (omega arith) ∙ digits_from r 0 ∙ first (remainder_at k l P i) (remainder_at k l Q i) r

  after : (r : Two) → get_or (digits k l r) (suc i) (pos 0)
      ≡ digit (of (rest (remainder_at k l P i) (remainder_at k l Q i)) (rest (remainder_at k l Q i) (remainder_at k l P i)) r)
      (of (rest (remainder_at k l Q i) (remainder_at k l P i)) (rest (remainder_at k l P i) (remainder_at k l Q i)) r)
  after r =
      let z : ℤ = remainder_at k l P i in
      let w : ℤ = remainder_at k l Q i in
      ap (λ (j : ℕ). get_or (digits k l r) j (pos 0)) (omega arith) ∙ digits_from r 1 ∙ others z w r 0 ∙ first (rest z w) (rest w z) r

  -- the digit at a place is that of the remainders there
  pub digit_at_lem : (r : Two) → get_or (digits k l r) i (pos 0) ≡ digit (remainder_at k l r i) (remainder_at k l (other r) i)
  digit_at_lem P = here P
  digit_at_lem Q = here Q

  -- and the next one that of what they leave
  pub digit_after : (r : Two) → get_or (digits k l r) (suc i) (pos 0)
      ≡ digit (rest (remainder_at k l r i) (remainder_at k l (other r) i)) (rest (remainder_at k l (other r) i) (remainder_at k l r i))
  digit_after P = after P
  digit_after Q = after Q

-- A list of columns that keeps the joint sparse rules and has a top column that is not zero is the joint sparse form of its
-- values (`joint_only`), so two of them for one pair are the same (`joint_unique`). One table of all triples of columns is computed.
use Rattle.std.specs.Prelude.{◌≡◌, refl, List, [], ◌∷◌, ℤ, pos, ◌+ℤ◌, nat_abs, length, drop}
use Rattle.std.proofs.Math.Path.{sym}
use Rattle.std.proofs.Common.{ap, subst, ◌∙◌, arith}
use Prim.Native.Nat.{ℕ, suc, ◌≤◌}
use Rattle.digits.specs.Integer.{up, down, rem}
use Rattle.digits.specs.Integer.Parts.{integers, sum, one_side}
use Rattle.digits.specs.Row.{value}
use Rattle.digits.specs.Column.{row}
use Rattle.digits.specs.Two as Two
use Rattle.digits.specs.Two.{Column, Two, P, Q, other, two, blank_column}
use Rattle.forms.specs.Residue.{residue}
use Rattle.forms.specs.Joint.{Keeps, Topped, at, digit_at, digit, column, joint}
use Rattle.forms.specs.Joint.Digit.{Split}
use Rattle.forms.proofs.Laws.Joint.Digit.{alike_rem, digit_mod}
use Rattle.forms.specs.Joint.Rule.{BothZero, JointRule, end, place}
use Rattle.forms.proofs.Laws.Joint.Rule.{joint_rule_only, joint_zero}
use Rattle.forms.specs.Joint.Triple.{Triple, triple, keeps_triple}
use Rattle.forms.specs.Test.{Test, implies, same, every_digit, every_row, rows}

-- all columns of digits −1, 0, 1
abbrev SmallColumn : Column → Type 0
SmallColumn c = (r : Two) → nat_abs (Two.digit c r) ≤ 1

abbrev every_column : {A : Column → Type 0} → ((c : Column) → Test (A c)) → Test ((c : Column) → SmallColumn c → A c)
every_column t =
    let all = every_digit (λ p. every_digit (λ q. t (record { p = p; q = q }))) in
    record {
      test = all.test;
      tells = λ h c s. all.tells h c.p (s P) c.q (s Q);
      shows = λ f. all.shows (λ p s q t. f (record { p = p; q = q }) (rows (λ r. nat_abs (Two.digit (record { p = p; q = q }) r) ≤ 1) (s, t)));
    }

-- the number that three columns have in a row
abbrev low : Column → Column → Column → Two → ℤ
low c h g r =
    let m : ℤ = Two.digit h r +ℤ (Two.digit g r +ℤ Two.digit g r) in
    Two.digit c r +ℤ (m +ℤ m)

-- the lowest of three columns that keep the rules is that of their numbers
abbrev Lowest : Column → Column → Column → Two → Type 0
Lowest c h g r = digit (low c h g r) (low c h g (other r)) ≡ Two.digit c r

abbrev lowest : (c h g : Column) (r : Two) → Test (Lowest c h g r)
lowest c h g r = same (digit (low c h g r) (low c h g (other r))) (Two.digit c r)

table : (c : Column) → SmallColumn c → (h : Column) → SmallColumn h → (g : Column) → SmallColumn g → Triple c h g → (r : Two) → Lowest c h g r
unfolding digit residue
table = (every_column (λ c. every_column (λ h. every_column (λ g. implies (triple c h g) (every_row (lowest c h g)))))).tells tt

-- the value of a list in a row is its lowest digit, and twice the value of what stands above
value_over : (cs : List Column) (r : Two) → Split (value (row two r cs)) (digit_at cs 0 r) (value (row two r (drop 1 cs)))
unfolding value row
value_over [] P = omega arith
value_over [] Q = omega arith
value_over (c ∷ cs) r =
    let w : ℤ = value (row two r cs) in
    omega (arith, sum (Two.digit c r) (w +ℤ w), sum w w)

at_drop : (cs : List Column) (i : ℕ) → at (drop 1 cs) i ≡ at cs (suc i)
at_drop [] i = refl
at_drop (c ∷ cs) i = refl

-- modulo 8 it is that of the three lowest columns
value_low : (cs : List Column) (r : Two) → rem (value (row two r cs)) 8 ≡ rem (low (at cs 0) (at cs 1) (at cs 2) r) 8
value_low cs r =
    let x : ℤ = digit_at cs 0 r in
    let y : ℤ = digit_at cs 1 r in
    let z : ℤ = digit_at cs 2 r in
    let m : ℤ = y +ℤ (z +ℤ z) in
    let w : ℤ = value (row two r (drop 1 (drop 1 (drop 1 cs)))) in
    let o : Split (value (row two r (drop 1 cs))) y (value (row two r (drop 1 (drop 1 cs)))) = rw (at_drop cs 0) at (value_over (drop 1 cs) r) in
    let t : Split (value (row two r (drop 1 (drop 1 cs)))) z w = rw (at_drop (drop 1 cs) 0, at_drop cs 1) at (value_over (drop 1 (drop 1 cs)) r) in
    alike_rem 8 (value (row two r cs)) (x +ℤ (m +ℤ m)) (up w) (down w) (omega arith)
    (omega (arith, value_over cs r, sum x (m +ℤ m), sum m m, sum y (z +ℤ z), sum z z))

-- the lowest column of a list that keeps the rules is that of its values
keeps_lowest : (cs : List Column) → Keeps cs → (r : Two) → digit (value (row two r cs)) (value (row two (other r) cs)) ≡ digit_at cs 0 r
keeps_lowest cs k r =
    let c : Column = at cs 0 in
    let h : Column = at cs 1 in
    let g : Column = at cs 2 in
    digit_mod (value (row two r cs)) (low c h g r) (value (row two (other r) cs)) (low c h g (other r)) (value_low cs r) (value_low cs (other r))
    ∙ table c (k.small 0) h (k.small 1) g (k.small 2) (keeps_triple k 0) r

keeps_tail : {c : Column} {cs : List Column} → Keeps (c ∷ cs) → Keeps cs
keeps_tail k =
    record { small = λ i. k.small (suc i); a = λ i. k.a (suc i); b = λ i. k.b (suc i); c = λ i. k.c (suc i) }

module _ (c : Column) (cs : List Column) (k : Keeps (c ∷ cs)) where
  keeps_column : column (value (row two P (c ∷ cs))) (value (row two Q (c ∷ cs))) ≡ c
  unfolding column
  keeps_column = λ i. record { p = keeps_lowest (c ∷ cs) k P i; q = keeps_lowest (c ∷ cs) k Q i }

  -- under a top column that is not zero the values are not both 0
  keeps_some : Topped (c ∷ cs) → JointRule (value (row two P cs)) (value (row two Q cs)) cs
      → ¬ (BothZero (value (row two P (c ∷ cs))) (value (row two Q (c ∷ cs))))
  unfolding digit residue column
  keeps_some t s z = rw blank_c at (t 0 (ap (λ cs. suc (length cs)) nothing))
    where
      blank_c : c ≡ blank_column
      blank_c = sym keeps_column ∙ rw (z.0, z.1)

      above : (r : Two) → value (row two r (c ∷ cs)) ≡ pos 0 → Two.digit c r ≡ pos 0 → value (row two r cs) ≡ pos 0
      above r e f = omega (integers, value_over (c ∷ cs) r, one_side (value (row two r cs)))

      nothing : cs ≡ []
      nothing = joint_rule_only s ∙ rw (above P z.0 (ap (λ c. c.p) blank_c), above Q z.1 (ap (λ c. c.q) blank_c)) joint_zero

rule_of : (cs : List Column) → Keeps cs → Topped cs → JointRule (value (row two P cs)) (value (row two Q cs)) cs
unfolding value row
rule_of [] k t = end
rule_of (c ∷ cs) k t =
    let s = rule_of cs (keeps_tail k) (λ i h. t (suc i) (ap suc h)) in
    let v : ℤ = value (row two P (c ∷ cs)) in
    let w : ℤ = value (row two Q (c ∷ cs)) in
    subst (λ x. JointRule v w (x ∷ cs)) (keeps_column c cs k)
    (place (keeps_some c cs k t s) (rw (keeps_lowest (c ∷ cs) k P)) (rw (keeps_lowest (c ∷ cs) k Q)) s)

-- a list that keeps the rules, with a top column that is not zero, is the joint sparse form of its values
pub joint_only : (cs : List Column) → Keeps cs → Topped cs → cs ≡ joint (value (row two P cs)) (value (row two Q cs))
joint_only cs k t = joint_rule_only (rule_of cs k t)

-- two such lists with the same values are the same
pub joint_unique : (cs ds : List Column) → Keeps cs → Topped cs → Keeps ds → Topped ds
    → value (row two P cs) ≡ value (row two P ds) → value (row two Q cs) ≡ value (row two Q ds) → cs ≡ ds
joint_unique cs ds k t k' t' p q = joint_only cs k t ∙ (rw (p, q) (sym (joint_only ds k' t')))

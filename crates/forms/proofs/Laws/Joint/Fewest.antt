-- No columns of digits −1, 0, 1 with the values k and l have fewer that are not zero than the joint sparse form. By the
-- rule of its columns, from what columns cost (`drop`, `above`, `mend`) and one table of all remainders by 8.
use Rattle.std.specs.Prelude.{◌≡◌, refl, ◌≢◌, ◌⊎◌, List, ℕ, ◌+◌, ◌*◌, ◌/◌, ◌%◌, ◌≤◌, ◌<◌, ℤ, negsuc, ◌-ℤ◌, nat_abs}
use Rattle.std.proofs.Common.{◌∙◌, arith}
use Rattle.std.proofs.Math.Logic.{⊎_elim}
use Rattle.std.proofs.Math.IntN.{pos}
use Rattle.digits.specs.Integer.{up, down, rem, quo, half}
use Rattle.digits.specs.Integer.Parts.{read_eq, integers, difference, size, one_side, rem_lt, division}
use Rattle.digits.specs.Row.{value}
use Rattle.digits.specs.Column.{row, weight, Small, counted}
use Rattle.digits.specs.Column.Adding as Adding
use Rattle.digits.specs.Column.Adding.{Has, Above}
use Rattle.digits.specs.Two.{Column, Two, P, Q, two, blank, of}
use Rattle.forms.specs.Residue.{residue}
use Rattle.forms.specs.Joint.{digit, column, rest, joint}
use Rattle.forms.specs.Joint.Digit.{Split}
use Rattle.forms.proofs.Laws.Joint.Digit.{rem_two, rest_rem, rest_only, rest_parts, digit_fits}
use Rattle.forms.specs.Joint.Rule.{JointRule, end, place}
use Rattle.forms.proofs.Laws.Joint.Rule.{joint_rule}
use Rattle.forms.specs.Test.{Test, both, either, fails, equal, every_below, every_row, some_row, rows}

-- x and y are the remainders of two numbers by 8, t and s those of what is left of them by 4: both numbers are even; or one is
-- odd, and what is left is even in both rows, or it is odd in a row with an even number and in neither row 2 modulo 4
abbrev Kinds : ℕ → ℕ → ℕ → ℕ → Type 0
Kinds x y t s =
    ((r : Two) → of x y r % 2 ≡ 0)
    ⊎ (((o : Two) × (of x y o % 2 ≡ 1))
    × (((r : Two) → of t s r % 2 ≡ 0) ⊎ (((r : Two) → of t s r ≢ 2) × ((q : Two) × ((of x y q % 2 ≡ 0) × (of t s q % 2 ≡ 1))))))

abbrev kinds : (x y t s : ℕ) → Test (Kinds x y t s)
kinds x y t s =
    either (every_row (λ r. equal (of x y r % 2) 0))
    (both (some_row (λ o. equal (of x y o % 2) 1))
    (either (every_row (λ r. equal (of t s r % 2) 0))
    (both (every_row (λ r. fails (equal (of t s r) 2))) (some_row (λ q. both (equal (of x y q % 2) 0) (equal (of t s q % 2) 1))))))

table : (x : ℕ) → x < 8 → (y : ℕ) → y < 8 → Kinds x y (rem (rest (pos x) (pos y)) 4) (rem (rest (pos y) (pos x)) 4)
unfolding digit residue rest half
table = (every_below 8 (λ x. every_below 8 (λ y. kinds x y (rem (rest (pos x) (pos y)) 4) (rem (rest (pos y) (pos x)) 4)))).tells tt

kinds_of : (k l : ℤ) → Kinds (rem k 8) (rem l 8) (rem (rest k l) 4) (rem (rest l k) 4)
kinds_of k l = rw (rest_rem k l, rest_rem l k) (table (rem k 8) (rem_lt k 8 (omega arith)) (rem l 8) (rem_lt l 8 (omega arith)))

-- a number that is not 2 modulo 4 is a digit −1, 0 or 1 and a multiple of 4
record Quarter (z : ℤ) : Type 0 where
  low : ℤ
  p : ℕ
  n : ℕ
  small : nat_abs low ≤ 1
  is : up z + (down low + 4 * n) ≡ down z + (up low + 4 * p)
  parity : nat_abs low % 2 ≡ rem z 4 % 2

quarter : (z : ℤ) → rem z 4 ≢ 2 → Quarter z
quarter z h =
    let m : ℕ = rem z 4 in
    let q : ℕ = (m + 1) / 4 in
    let l : m < 4 = rem_lt z 4 (omega arith) in
    let x : ℤ = pos m -ℤ pos (4 * q) in
    let d = difference (pos m) (pos (4 * q)) in
    record {
      low = x;
      p = up (quo z 4) + q;
      n = down (quo z 4);
      small = omega (arith, size x, one_side x);
      is = omega (arith, division z 4 (omega arith));
      parity = omega (arith, size x);
    }

even_parts : (z : ℤ) → rem z 4 % 2 ≡ 0 → (2 * (up z / 2) ≡ up z) × (2 * (down z / 2) ≡ down z)
even_parts (pos n) h = omega arith
even_parts (negsuc n) h = omega arith

of_ap : (f : ℤ → ℕ) (k l : ℤ) (r : Two) → of (f k) (f l) r ≡ f (of k l r)
of_ap f k l P = refl
of_ap f k l Q = refl

-- columns for the numbers of two rows
abbrev Columns : ℤ → ℤ → ℕ → Type 0
Columns k l w = Has two (λ r. up (of k l r)) (λ r. down (of k l r)) w

-- columns of k and l give columns of what is left, without the column of k and l
record Next (k l : ℤ) (w : ℕ) : Type 0 where
  left : ℕ
  has : Columns (rest k l) (rest l k) left
  falls : counted (blank (column k l)) + left ≤ w

module _ (k l : ℤ) where
  -- the digits, and what is left
  u : Two → ℤ
  u r = digit (of k l r) (of l k r)

  e : Two → ℤ
  e r = of (rest k l) (rest l k) r

  parts : (r : Two) → Split (of k l r) (u r) (e r)
  unfolding u e
  parts P = rest_parts k l
  parts Q = rest_parts l k

  fits : (r : Two) → (nat_abs (u r) ≤ 1) × ((nat_abs (of k l r) + nat_abs (u r)) % 2 ≡ 0)
  unfolding u
  fits r = digit_fits (of k l r) (of l k r)

  -- the remainders
  x : Two → ℕ
  x r = of (rem k 8) (rem l 8) r

  t : Two → ℕ
  t r = of (rem (rest k l) 4) (rem (rest l k) 4) r

  parity : (r : Two) → x r % 2 ≡ nat_abs (of k l r) % 2
  unfolding x
  parity r = rw (of_ap (λ z. rem z 8) k l r, rem_two (of k l r))

  left_rem : (r : Two) → t r ≡ rem (e r) 4
  unfolding e t
  left_rem r = of_ap (λ z. rem z 4) (rest k l) (rest l k) r

  module _ (w : ℕ) (h : Columns k l w) where
    over : Has two (λ r. up (u r) + 2 * up (e r)) (λ r. down (u r) + 2 * down (e r)) w
    over = Adding.same two h (λ r. omega (arith, parts r)) (omega arith)

    -- both numbers are even
    all_even : ((r : Two) → x r % 2 ≡ 0) → Next k l w
    unfolding column u e
    all_even z =
        record {
          left = w;
          has = Adding.drop two u (λ r. (fits r).0) over;
          falls = omega (arith, Adding.zero_counted (blank (column k l)) (Adding.zeros two u zero));
        }
      where
        zero : (r : Two) → u r ≡ pos 0
        zero r = omega (integers, z r, parity r, fits r, size (u r))

    -- one is odd
    module _ (o : Two) (odd : x o % 2 ≡ 1) where
      lower : Above two u (λ r. up (e r)) (λ r. down (e r)) w
      lower = Adding.above two u (λ r. (fits r).0) o (omega (arith, parity o, fits o)) over

      next : Has two (λ r. up (e r)) (λ r. down (e r)) lower.left → Next k l w
      unfolding e
      next g = record { left = lower.left; has = g; falls = omega (arith, lower.falls, Adding.counted_le (blank (column k l))) }

      -- what is left is even
      left_even : ((r : Two) → t r % 2 ≡ 0) → Next k l w
      left_even z = next (Adding.same two (Adding.put two (λ r. pos 0) (λ r. omega arith) g) (λ r. omega (arith, half r)) (omega arith))
        where
          half : (r : Two) → (2 * (up (e r) / 2) ≡ up (e r)) × (2 * (down (e r) / 2) ≡ down (e r))
          half r = even_parts (e r) (omega (arith, left_rem r, z r))

          g : Has two (λ r. up (e r) / 2) (λ r. down (e r) / 2) lower.left
          g = Adding.drop two lower.move lower.small (Adding.same two lower.has (λ r. omega (arith, half r)) (omega arith))

      -- what is left of an even number is odd
      left_odd : ((r : Two) → t r ≢ 2) → (q : Two) → x q % 2 ≡ 0 → t q % 2 ≡ 1 → Next k l w
      left_odd z q even odd = next (Adding.same two g (λ r. omega (arith, (c r).is)) (omega arith))
        where
          c : (r : Two) → Quarter (e r)
          c r = quarter (e r) (λ m. z r (left_rem r ∙ m))

          g : Has two (λ r. up (c r).low + 4 * (c r).p) (λ r. down (c r).low + 4 * (c r).n) lower.left
          g =
              Adding.mend two (λ r. (c r).p) (λ r. (c r).n) (λ r. (c r).low) lower.move (λ r. (c r).small) lower.small q
              (omega (arith, (c q).parity, left_rem q, lower.still q, fits q, parity q))
              (Adding.same two lower.has (λ r. omega (arith, (c r).is)) (omega arith))

    step : Next k l w
    unfolding x t
    step =
        ⊎_elim all_even
        (λ b. ⊎_elim (left_even b.0.0 b.0.1) (λ c. left_odd b.0.0 b.0.1 c.0 c.1.0 c.1.1.0 c.1.1.1) b.1)
        (kinds_of k l)

rule_fewest : {k l : ℤ} {cs : List Column} → JointRule k l cs → (w : ℕ) → Columns k l w → weight two cs ≤ w
unfolding weight
rule_fewest end w h = omega arith
rule_fewest (place {k = k} {l = l} {k' = k'} {l' = l'} n p q s) w h =
    let g = step k l w h in
    let above : Columns k' l' g.left = rw (rest_only k l k' p, rest_only l k l' q) g.has in
    omega (arith, g.falls, rule_fewest s g.left above)

-- no columns with the values k and l have fewer that are not zero
pub joint_fewest : (k l : ℤ) (cs : List Column) → Small two cs → value (row two P cs) ≡ k → value (row two Q cs) ≡ l
    → weight two (joint k l) ≤ weight two cs
joint_fewest k l cs s p q = rule_fewest (joint_rule k l) (weight two cs) (Adding.same two (Adding.own two s) reads (omega arith))
  where
    values : (r : Two) → value (row two r cs) ≡ of k l r
    values = rows (λ r. value (row two r cs) ≡ of k l r) (p, q)

    reads : (r : Two) → up (value (row two r cs)) + down (of k l r) ≡ up (of k l r) + down (value (row two r cs))
    reads r = read_eq (value (row two r cs)) (of k l r) (values r)

-- Columns of digits −1, 0, 1 and what their numbers cost: adding a column costs at most one column (`add`), taking off the
-- lowest place costs none (`drop`), nor does moving by a column that is odd in a row (`mend`). For any number of rows.
use Rattle.std.specs.Prelude.{◌≡◌, refl, Bool, true, false, List, [], ◌∷◌, ℕ, ◌+◌, ◌*◌, ◌/◌, ◌%◌, ◌≤◌, ◌<◌, T, pos, negsuc, ◌+ℤ◌, nat_abs}
use Rattle.std.proofs.Common.{ap}
use native.Mathlib.Omega.{arith}
use Rattle.std.proofs.Math.IntN.{ℤ, neg_ℤ}
use Rattle.digits.specs.Integer.{up, down}
use Rattle.digits.specs.Integer.Parts.{integers, sum, negation, size, one_side}
use Rattle.digits.specs.Integer.Sign.{negated_size}
use Rattle.digits.specs.Row.{value}
use Rattle.digits.specs.Row.Parts.{plus, minus, value_parts}
use Rattle.digits.specs.Column.{Kind, counted, row, weight, Small, empty, more}

-- the sum of two digits: the digit that is kept, and the digit that is carried to the next place. 1 + 1 keeps 0 and
-- carries 1, −1 − 1 keeps 0 and carries −1, and any other sum is kept
abbrev kept : ℤ → ℤ → ℤ
kept (pos v) (pos a) = pos ((v + a) % 2)
kept (pos v) (negsuc a) = pos v +ℤ negsuc a
kept (negsuc v) (pos a) = negsuc v +ℤ pos a
kept (negsuc v) (negsuc a) = pos 0

abbrev carried : ℤ → ℤ → ℤ
carried (pos v) (pos a) = pos ((v + a) / 2)
carried (pos v) (negsuc a) = pos 0
carried (negsuc v) (pos a) = pos 0
carried (negsuc v) (negsuc a) = negsuc 0

record Carry (v a k c : ℤ) : Type 0 where
  sums : up v + up a + (down k + 2 * down c) ≡ down v + down a + (up k + 2 * up c)
  single : nat_abs k + nat_abs c ≤ 1
  from_v : nat_abs c ≤ nat_abs v
  from_a : nat_abs c ≤ nat_abs a
  from_any : nat_abs k ≤ nat_abs v + nat_abs a

carry : (v a : ℤ) → nat_abs v ≤ 1 → nat_abs a ≤ 1 → Carry v a (kept v a) (carried v a)
carry (pos v) (pos a) p q = omega arith
carry (pos v) (negsuc a) p q =
    let z : ℤ = pos v +ℤ negsuc a in
    omega (arith, sum (pos v) (negsuc a), size z, one_side z)
carry (negsuc v) (pos a) p q =
    let z : ℤ = negsuc v +ℤ pos a in
    omega (arith, sum (negsuc v) (pos a), size z, one_side z)
carry (negsuc v) (negsuc a) p q = omega arith

-- a zero column counts 0
pub zero_counted : (b : Bool) → T b → counted b ≡ 0
zero_counted true t = refl
zero_counted false t = absurd t

-- any other counts 1
pub full_counted : (b : Bool) → ¬ (T b) → counted b ≡ 1
full_counted true f = absurd (f tt)
full_counted false f = refl

-- a column counts at most 1
pub counted_le : (b : Bool) → counted b ≤ 1
counted_le true = omega arith
counted_le false = omega arith

-- two columns cost no more than two others, if they are zero where those are
pay : (x y v a : Bool) → (T v → T a → T x) → (T v → T y) → (T a → T y) → counted x + counted y ≤ counted v + counted a
pay x y true true p q s = omega (arith, zero_counted x (p tt tt), zero_counted y (q tt))
pay x y true false p q s = omega (arith, counted_le x, zero_counted y (q tt))
pay x y false true p q s = omega (arith, counted_le x, zero_counted y (s tt))
pay x y false false p q s = omega (arith, counted_le x, counted_le y)

pay_one : (x v : Bool) → (T v → T x) → counted x ≤ counted v
pay_one x true p = omega (arith, zero_counted x (p tt))
pay_one x false p = counted_le x

zero_size : (z : ℤ) → nat_abs z ≤ 0 → z ≡ pos 0
zero_size z h = omega (integers, size z)

sum_size : (a b : ℤ) → nat_abs (a +ℤ b) ≤ nat_abs a + nat_abs b
sum_size a b = omega (arith, sum a b, size a, size b, size (a +ℤ b), one_side (a +ℤ b))

module _ (K : Kind) where
  -- a digit for each row
  abbrev pub Digits : (K.Row → ℤ) → Type 0
  Digits a = (r : K.Row) → nat_abs (a r) ≤ 1

  -- 1 for digits that are not all 0
  abbrev pub cost : (K.Row → ℤ) → ℕ
  cost a = counted (K.blank (K.column a))

  -- some columns have the number p r − n r in each row r, and at most w of them are not zero
  pub record Has (p n : K.Row → ℕ) (w : ℕ) : Type 0 where
    pub cols : List K.Column
    pub small : Small K cols
    pub reads : (r : K.Row) → plus (row K r cols) + n r ≡ minus (row K r cols) + p r
    pub light : weight K cols ≤ w

  -- the same numbers, written another way
  pub same : {p n p' n' : K.Row → ℕ} {w w' : ℕ} → Has p n w → ((r : K.Row) → p r + n' r ≡ p' r + n r) → w ≤ w' → Has p' n' w'
  same h e l =
      record { cols = h.cols; small = h.small; reads = λ r. omega (arith, h.reads r, e r); light = omega arith }

  filled : (b : Bool) (c : K.Column) → K.blank c ≡ b → ((r : K.Row) → K.digit c r ≡ pos 0) → T b
  filled true c e z = tt
  filled false c e z = let f = K.full_digit c (rw e tt) in f.1 (z f.0)

  -- digits that are all 0 make a zero column
  pub zeros : (a : K.Row → ℤ) → ((r : K.Row) → a r ≡ pos 0) → T (K.blank (K.column a))
  zeros a z = filled (K.blank (K.column a)) (K.column a) refl (λ r. rw (K.digit_column a r) (z r))

  -- the columns of a list have their own values, at their own weight
  pub own : {cs : List K.Column} → Small K cs
      → Has (λ r. up (value (row K r cs))) (λ r. down (value (row K r cs))) (weight K cs)
  own {cs} s =
      record { cols = cs; small = s; reads = λ r. omega (arith, value_parts (row K r cs)); light = omega arith }

  -- columns with a place put below them: twice the numbers, and the digits a
  pub put : {p n : K.Row → ℕ} {w : ℕ} (a : K.Row → ℤ) → Digits a → Has p n w
      → Has (λ r. up (a r) + 2 * p r) (λ r. down (a r) + 2 * n r) (cost a + w)
  unfolding row weight plus minus
  put a s h =
      record {
        cols = K.column a ∷ h.cols;
        small = more {c = K.column a} (λ r. rw (K.digit_column a r) (s r)) h.small;
        reads = λ r. rw (K.digit_column a r) (omega (arith, h.reads r));
        light = omega arith;
      }

  nothing : Has (λ r. 0) (λ r. 0) 0
  unfolding row weight plus minus
  nothing = record { cols = []; small = empty; reads = λ r. refl; light = omega arith }

  -- the digits of a zero column, and those that it was made of
  blank_size : (c : K.Column) → T (K.blank c) → (r : K.Row) → nat_abs (K.digit c r) ≡ 0
  blank_size c t r = ap nat_abs (K.blank_digit c t r)

  made_size : (a : K.Row → ℤ) → T (K.blank (K.column a)) → (r : K.Row) → nat_abs (a r) ≡ 0
  made_size a t r = rw (K.digit_column a r) at (blank_size (K.column a) t r)

  -- the sum of a column and digits: what is kept, and what is carried
  keep : K.Column → (K.Row → ℤ) → K.Row → ℤ
  keep c a r = kept (K.digit c r) (a r)

  pass : K.Column → (K.Row → ℤ) → K.Row → ℤ
  pass c a r = carried (K.digit c r) (a r)

  module _ (c : K.Column) (v : Digits (K.digit c)) (a : K.Row → ℤ) (s : Digits a) where
    carry_at : (r : K.Row) → Carry (K.digit c r) (a r) (keep c a r) (pass c a r)
    unfolding keep pass
    carry_at r = carry (K.digit c r) (a r) (v r) (s r)

    carry_keeps : Digits (keep c a)
    carry_keeps r = omega (arith, (carry_at r).single)

    carry_passes : Digits (pass c a)
    carry_passes r = omega (arith, (carry_at r).single)

    -- nothing is carried out of a zero column
    pass_blank : T (K.blank c) → T (K.blank (K.column (pass c a)))
    pass_blank t = zeros (pass c a) (λ r. zero_size (pass c a r) (omega (arith, carry_at r, blank_size c t r)))

    pass_cost : cost (pass c a) ≤ counted (K.blank c)
    pass_cost = pay_one (K.blank (K.column (pass c a))) (K.blank c) pass_blank

    carry_cost : cost (keep c a) + cost (pass c a) ≤ counted (K.blank c) + cost a
    carry_cost = pay (K.blank (K.column (keep c a))) (K.blank (K.column (pass c a))) (K.blank c) (K.blank (K.column a))
        (λ t u. zeros (keep c a) (λ r. zero_size (keep c a r) (omega (arith, carry_at r, blank_size c t r, made_size a u r))))
        pass_blank
        (λ u. zeros (pass c a) (λ r. zero_size (pass c a r) (omega (arith, carry_at r, made_size a u r))))

  add_to : {cs : List K.Column} → Small K cs → (a : K.Row → ℤ) → Digits a
      → Has (λ r. plus (row K r cs) + up (a r)) (λ r. minus (row K r cs) + down (a r)) (weight K cs + cost a)
  unfolding row weight plus minus
  add_to empty a s = same (put a s nothing) (λ r. omega arith) (omega arith)
  add_to (more {c = c} v vs) a s =
      same (put (keep c a) (carry_keeps c v a s) (add_to vs (pass c a) (carry_passes c v a s)))
      (λ r. omega (arith, (carry_at c v a s r).sums)) (omega (arith, carry_cost c v a s))

  -- adding a digit in each row: one column more at most, and none if the digits are all 0
  pub add : {p n : K.Row → ℕ} {w : ℕ} → Has p n w → (a : K.Row → ℤ) → Digits a
      → Has (λ r. p r + up (a r)) (λ r. n r + down (a r)) (w + cost a)
  add h a s = same (add_to h.small a s) (λ r. omega (arith, h.reads r)) (omega arith)

  drop_from : {cs : List K.Column} → Small K cs → (e : K.Row → ℤ) → Digits e → (p n : K.Row → ℕ)
      → ((r : K.Row) → plus (row K r cs) + (down (e r) + 2 * n r) ≡ minus (row K r cs) + (up (e r) + 2 * p r)) → Has p n (weight K cs)
  unfolding row weight plus minus
  drop_from empty e s p n eq = same nothing (λ r. omega (arith, eq r, s r, size (e r))) (omega arith)
  drop_from (more {c = c} v vs) e s p n eq =
      same (add_to vs (pass c a) (carry_passes c v a m))
      (λ r. omega (arith, eq r, carry_at c v a m r, negation (e r), size (keep c a r))) (omega (arith, pass_cost c v a m))
    where
      a : K.Row → ℤ
      a r = neg_ℤ (e r)

      m : Digits a
      m r = omega (arith, s r, negated_size (e r))

  -- taking off the lowest place: e + 2 (p − n) has at least the columns of p − n
  pub drop : {p n : K.Row → ℕ} {w : ℕ} (e : K.Row → ℤ) → Digits e → Has (λ r. up (e r) + 2 * p r) (λ r. down (e r) + 2 * n r) w → Has p n w
  drop {p} {n} e s h = same (drop_from h.small e s p n h.reads) (λ r. omega arith) h.light

  -- columns of u + 2 (p − n), without the lowest: p − n moved by a digit in each row, which is 0 where u is
  pub record Above (u : K.Row → ℤ) (p n : K.Row → ℕ) (w : ℕ) : Type 0 where
    pub move : K.Row → ℤ
    pub small : Digits move
    pub still : (r : K.Row) → nat_abs (move r) ≤ nat_abs (u r)
    pub left : ℕ
    pub has : Has (λ r. p r + up (move r)) (λ r. n r + down (move r)) left
    pub falls : left < w

  above_from : {cs : List K.Column} {w : ℕ} → Small K cs → (u : K.Row → ℤ) → Digits u → (p n : K.Row → ℕ) → (o : K.Row) → nat_abs (u o) ≡ 1
      → ((r : K.Row) → plus (row K r cs) + (down (u r) + 2 * n r) ≡ minus (row K r cs) + (up (u r) + 2 * p r))
      → weight K cs ≤ w → Above u p n w
  unfolding row weight plus minus
  above_from empty u s p n o odd eq l = absurd (omega (arith, eq o, size (u o)))
  above_from (more {c = c} {cs = cs} v vs) u s p n o odd eq l =
      record {
        move = λ r. carried (u r) (a r);
        small = λ r. omega (arith, (at r).single);
        still = λ r. (at r).from_v;
        left = weight K cs;
        has = record { cols = cs; small = vs; reads = reads; light = omega arith };
        falls = omega (arith, full_counted (K.blank c) full);
      }
    where
      a : K.Row → ℤ
      a r = neg_ℤ (K.digit c r)

      at : (r : K.Row) → Carry (u r) (a r) (kept (u r) (a r)) (carried (u r) (a r))
      at r = carry (u r) (a r) (s r) (omega (arith, v r, negated_size (K.digit c r)))

      reads : (r : K.Row) → plus (row K r cs) + (n r + down (carried (u r) (a r))) ≡ minus (row K r cs) + (p r + up (carried (u r) (a r)))
      reads r = omega (arith, eq r, at r, negation (K.digit c r), size (kept (u r) (a r)))

      full : T (K.blank c) → ⊥
      full t = omega (arith, blank_size c t o, eq o, size (K.digit c o), size (u o))

  -- where u is odd in a row, the lowest column is not zero
  pub above : {p n : K.Row → ℕ} {w : ℕ} (u : K.Row → ℤ) → Digits u → (o : K.Row) → nat_abs (u o) ≡ 1
      → Has (λ r. up (u r) + 2 * p r) (λ r. down (u r) + 2 * n r) w → Above u p n w
  above {p} {n} u s o odd h = above_from h.small u s p n o odd h.reads h.light

  -- moving x + 4 (p − n) by digits a costs nothing to undo, if x + a is odd in a row
  pub mend : {w : ℕ} (p n : K.Row → ℕ) (x a : K.Row → ℤ) → Digits x → Digits a
      → (o : K.Row) → (nat_abs (x o) + nat_abs (a o)) % 2 ≡ 1
      → Has (λ r. up (x r) + up (a r) + 4 * p r) (λ r. down (x r) + down (a r) + 4 * n r) w
      → Has (λ r. up (x r) + 4 * p r) (λ r. down (x r) + 4 * n r) w
  mend {w} p n x a sx sa o odd h =
      same (put x sx (put (λ r. pos 0) (λ r. omega arith) (drop e small higher))) (λ r. omega arith)
      (omega (arith, lower.falls, counted_le (K.blank (K.column x)), zero_counted (K.blank (K.column (λ r. pos 0))) (zeros (λ r. pos 0) (λ r. refl))))
    where
      k : K.Row → ℤ
      k r = kept (x r) (a r)

      c : K.Row → ℤ
      c r = carried (x r) (a r)

      at : (r : K.Row) → Carry (x r) (a r) (k r) (c r)
      at r = carry (x r) (a r) (sx r) (sa r)

      lower : Above k (λ r. 2 * p r + up (c r)) (λ r. 2 * n r + down (c r)) w
      lower =
          above k (λ r. omega (arith, (at r).single)) o (omega (arith, at o, size (x o), size (a o), size (k o)))
          (same h (λ r. omega (arith, (at r).sums)) (omega arith))

      e : K.Row → ℤ
      e r = c r +ℤ lower.move r

      small : Digits e
      small r = omega (arith, sum_size (c r) (lower.move r), lower.still r, (at r).single)

      higher : Has (λ r. up (e r) + 2 * p r) (λ r. down (e r) + 2 * n r) lower.left
      higher = same lower.has (λ r. omega (arith, sum (c r) (lower.move r))) (omega arith)

-- The joint sparse form keeps the joint sparse rules. Three neighbouring columns depend on the two numbers modulo 32 only:
-- one table of all remainders by 32 is computed.
use Rattle.std.specs.Prelude.{◌≡◌, ℕ, zero, suc, ◌*◌, ◌<◌, ℤ, pos}
use Rattle.std.proofs.Common.{⊎_elim, arith}
use Rattle.digits.specs.Integer.{up, down, rem, quo, half}
use Rattle.digits.specs.Integer.Parts.{rem_lt, division}
use Rattle.forms.specs.Residue.{residue}
use Rattle.forms.specs.Joint.{Keeps, at, digit, column, rest, joint}
use Rattle.forms.specs.Joint.Digit.{Alike}
use Rattle.forms.proofs.Laws.Joint.Digit.{alike_rem, alike_rest, digit_mod}
use Rattle.forms.proofs.Laws.Joint.Rule.{zero_or_not, joint_unfold, joint_zero}
use Rattle.forms.specs.Joint.Triple.{Triple, triple, triple_keeps}
use Rattle.forms.specs.Test.{Test, every_below}

-- the columns of k and l, of what is left, and of what is left of that
abbrev Three : ℤ → ℤ → Type 0
Three k l =
    Triple (column k l) (column (rest k l) (rest l k))
    (column (rest (rest k l) (rest l k)) (rest (rest l k) (rest k l)))

abbrev three : (k l : ℤ) → Test (Three k l)
three k l =
    triple (column k l) (column (rest k l) (rest l k))
    (column (rest (rest k l) (rest l k)) (rest (rest l k) (rest k l)))

table : (x : ℕ) → x < 32 → (y : ℕ) → y < 32 → Three (pos x) (pos y)
unfolding digit residue rest half column
table = (every_below 32 (λ x. every_below 32 (λ y. three (pos x) (pos y)))).tells tt

-- pairs that differ by multiples of 8 have the same column, and what is left of them differs by multiples of 4
record Step (k l x y : ℤ) (a b c d : ℕ) : Type 0 where
  col : column k l ≡ column x y
  left : Alike (rest k l) (rest x y) (4 * a) (4 * b)
  right : Alike (rest l k) (rest y x) (4 * c) (4 * d)

step : (k l x y : ℤ) (a b c d : ℕ) → Alike k x (8 * a) (8 * b) → Alike l y (8 * c) (8 * d) → Step k l x y a b c d
unfolding column
step k l x y a b c d p q =
    let s : rem k 8 ≡ rem x 8 = alike_rem 8 k x a b (omega arith) p in
    let t : rem l 8 ≡ rem y 8 = alike_rem 8 l y c d (omega arith) q in
    let e : digit k l ≡ digit x y = digit_mod k x l y s t in
    let f : digit l k ≡ digit y x = digit_mod l y k x t s in
    record { col = rw (e, f); left = alike_rest k x l y a b e p; right = alike_rest l y k x c d f q }

-- the rules hold at the three lowest columns
three_first : (k l : ℤ) → Three k l
three_first k l =
    let x : ℤ = pos (rem k 32) in
    let y : ℤ = pos (rem l 32) in
    let a : ℕ = up (quo k 32) in
    let b : ℕ = down (quo k 32) in
    let c : ℕ = up (quo l 32) in
    let d : ℕ = down (quo l 32) in
    let p = division k 32 (omega arith) in
    let q = division l 32 (omega arith) in
    let s = step k l x y (4 * a) (4 * b) (4 * c) (4 * d) (omega arith) (omega arith) in
    let t = step (rest k l) (rest l k) (rest x y) (rest y x) (2 * a) (2 * b) (2 * c) (2 * d) (omega arith) (omega arith) in
    let k'' : ℤ = rest (rest k l) (rest l k) in
    let l'' : ℤ = rest (rest l k) (rest k l) in
    let u = step k'' l'' (rest (rest x y) (rest y x)) (rest (rest y x) (rest x y)) a b c d (omega arith) (omega arith) in
    rw (s.col, t.col, u.col) (table (rem k 32) (rem_lt k 32 (omega arith)) (rem l 32) (rem_lt l 32 (omega arith)))

-- the columns of the joint sparse form, place by place
at_zero : (k l : ℤ) → at (joint k l) 0 ≡ column k l
unfolding digit residue column
at_zero k l = ⊎_elim (λ z. rw (z.0, z.1, joint_zero)) (λ n. rw (joint_unfold k l n)) (zero_or_not k l)

at_suc : (k l : ℤ) (i : ℕ) → at (joint k l) (suc i) ≡ at (joint (rest k l) (rest l k)) i
unfolding digit residue rest half
at_suc k l i = ⊎_elim (λ z. rw (z.0, z.1, joint_zero)) (λ n. rw (joint_unfold k l n)) (zero_or_not k l)

places : (i : ℕ) (k l : ℤ) → Triple (at (joint k l) i) (at (joint k l) (suc i)) (at (joint k l) (suc (suc i)))
places zero k l = rw (at_suc k l 0, at_suc k l 1, at_suc (rest k l) (rest l k) 0) (simp at_zero (three_first k l))
places (suc i) k l = rw (at_suc k l i, at_suc k l (suc i), at_suc k l (suc (suc i))) (places i (rest k l) (rest l k))

-- the joint sparse form keeps the rules
pub joint_keeps : (k l : ℤ) → Keeps (joint k l)
joint_keeps k l = triple_keeps (joint k l) (λ i. places i k l)

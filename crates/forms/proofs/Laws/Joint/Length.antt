-- The joint sparse form of two numbers has at most one column more than the longer of them has bits: from the
-- rule of its columns.
use Rattle.std.specs.Prelude.{List, ℕ, zero, suc, ◌+◌, ◌/◌, ◌^◌, ◌≤◌, ◌<◌, max, ℤ, nat_abs, length}
use Rattle.std.proofs.Common.{pow-suc, arith, pow_mono}
use Rattle.digits.specs.Integer.Parts.{integers, size}
use Rattle.digits.specs.Scalar.{bit_length, bit_length_in}
use Rattle.digits.specs.Two.{Column}
use Rattle.forms.specs.Joint.{rest, joint}
use Rattle.forms.proofs.Laws.Joint.Digit.{digit_fits, rest_only, rest_size, rest_falls}
use Rattle.forms.specs.Joint.Rule.{JointRule, end, place}
use Rattle.forms.proofs.Laws.Joint.Rule.{joint_rule}

-- a number is below the power of its bit length
bits_in : (f n : ℕ) → n ≤ f → n < 2 ^ bit_length_in f n
unfolding bit_length_in
bits_in zero n h = omega arith
bits_in (suc f) zero h = omega arith
bits_in (suc f) (suc n) h =
    omega (arith, pow-suc 2 (bit_length_in f (suc n / 2)), bits_in f (suc n / 2) (omega arith))

-- a number is at most 2 ^ b, where b is no shorter than its bits
bits : (n b : ℕ) → bit_length n ≤ b → n ≤ 2 ^ b
unfolding bit_length
bits n b h = omega (arith, bits_in n n (omega arith), pow_mono h)

-- what is left of a number up to 2 ^ (b + 1) is at most 2 ^ b
rest_bits : (c o : ℤ) (b : ℕ) → nat_abs c ≤ 2 ^ suc b → nat_abs (rest c o) ≤ 2 ^ b
rest_bits c o b h = omega (arith, pow-suc 2 b, rest_size c o, digit_fits c o)

-- 0 and 0 have no columns
rule_none : {k l : ℤ} {cs : List Column} → JointRule k l cs → nat_abs k ≤ 0 → nat_abs l ≤ 0 → length cs ≤ 0
rule_none end p q = omega arith
rule_none (place {k = k} {l = l} n e f s) p q = absurd (n (omega (integers, size k, size l)))

-- numbers up to 2 ^ b have at most b + 1 columns
rule_length : {k l : ℤ} {cs : List Column} → JointRule k l cs → (b : ℕ) → nat_abs k ≤ 2 ^ b → nat_abs l ≤ 2 ^ b → length cs ≤ suc b
rule_length end b p q = omega arith
rule_length (place {k = k} {l = l} {k' = a} {l' = b} n e f s) zero p q =
    let h : nat_abs a ≤ 0 = rw (rest_only k l a e) (omega (arith, rest_falls k l)) in
    let g : nat_abs b ≤ 0 = rw (rest_only l k b f) (omega (arith, rest_falls l k)) in
    omega (arith, rule_none s h g)
rule_length (place {k = k} {l = l} {k' = a} {l' = b} n e f s) (suc m) p q =
    let h : nat_abs a ≤ 2 ^ m = rw (rest_only k l a e) (rest_bits k l m p) in
    let g : nat_abs b ≤ 2 ^ m = rw (rest_only l k b f) (rest_bits l k m q) in
    omega (arith, rule_length s m h g)

-- at most one column more than the longer number has bits
pub joint_length : (k l : ℤ) → length (joint k l) ≤ max (bit_length (nat_abs k)) (bit_length (nat_abs l)) + 1
joint_length k l =
    let b : ℕ = max (bit_length (nat_abs k)) (bit_length (nat_abs l)) in
    omega (arith, rule_length (joint_rule k l) b (bits (nat_abs k) b (omega arith)) (bits (nat_abs l) b (omega arith)))

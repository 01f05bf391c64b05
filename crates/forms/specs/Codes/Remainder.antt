-- The remainder at a place is the only number that, times 2^place, makes up the number with the digits below. From the division with
-- remainder.
use Rattle.std.specs.Prelude.{◌≡◌, List, ℕ, ◌+◌, ◌*◌, ◌^◌, ◌<◌, ℤ, pos, ◌-ℤ◌, ◌*ℤ◌, take}
use Rattle.std.proofs.Common.{sym, mul-add, arith, pow_pos}
use Rattle.std.proofs.Math.Nat.{eq_of_mul-eq-mul_left}
use Rattle.digits.specs.Integer.{up, down, quo, rem}
use Rattle.digits.specs.Integer.Parts.{integers, sum, difference, division, rem_only, times}
use Rattle.digits.specs.Row.{value}
use Rattle.forms.specs.Codes.{Leaves, remainder}

-- a multiple of M is divided exactly
exact : (M : ℕ) (z : ℤ) → 0 < M → quo (pos M *ℤ z) M ≡ z
exact M z h =
    let x : ℤ = pos M *ℤ z in
    let q : ℤ = quo x M in
    let e = times M z in
    let none : rem x M ≡ 0 = rem_only x M 0 (up z) (down z) h h (omega arith) in
    let same : M * (up q + down z) ≡ M * (up z + down q) =
    omega (arith, division x M h, mul-add M (up q) (down z), mul-add M (up z) (down q))
    in
    omega (integers, eq_of_mul-eq-mul_left M h (up q + down z) (up z + down q) same)

-- a number that makes up c with the digits below is the remainder
pub remainder_only : (c : ℤ) (digits : List ℤ) (i : ℕ) (z : ℤ) → Leaves c digits i z → z ≡ remainder c digits i
unfolding remainder
remainder_only c digits i z e =
    let v : ℤ = value (take i digits) in
    let x : ℤ = pos (2 ^ i) *ℤ z in
    let left : c -ℤ v ≡ x = omega (integers, e, sum v x, difference c v) in
    rw left (sym (exact (2 ^ i) z (pow_pos i)))

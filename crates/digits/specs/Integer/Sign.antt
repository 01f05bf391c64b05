-- A number with a sign has its size, and the sign of a sum is that of its parts; a negated number has the remainder that makes up M. Assumes nothing.
use Rattle.std.specs.Prelude.{◌≡◌, refl, ℕ, zero, suc, ◌-◌, ◌%◌, ◌<◌, ℤ, pos, negsuc, ◌+ℤ◌, neg_ℤ, nat_abs}
use Rattle.std.proofs.Common.{sym, ◌∙◌, mod-eq_of_lt, mul-suc, arith}
use Rattle.std.proofs.Math.Nat.{sub-zero, mod_self}
use Rattle.digits.specs.Integer.{up, down, quo, rem, signed_by}
use Rattle.digits.specs.Integer.Parts.{integers, size, sum, negation, division, rem_lt, rem_only}

pub negated_size : (z : ℤ) → nat_abs (neg_ℤ z) ≡ nat_abs z
negated_size z = omega (arith, size z, size (neg_ℤ z), negation z)

pub signed_size : (sign : ℕ) (z : ℤ) → nat_abs (signed_by sign z) ≡ nat_abs z
signed_size zero z = refl
signed_size (suc n) z = negated_size z

-- a number is its size with a sign
pub size_signed : (z : ℤ) → (sign : ℕ) × (z ≡ signed_by sign (pos (nat_abs z)))
size_signed (pos n) = (0, refl)
size_signed (negsuc n) = (1, refl)

pub signed_sum : (sign : ℕ) (a b : ℤ) → signed_by sign (a +ℤ b) ≡ signed_by sign a +ℤ signed_by sign b
signed_sum zero a b = refl
signed_sum (suc n) a b =
    omega (integers, negation (a +ℤ b), sum a b, sum (neg_ℤ a) (neg_ℤ b), negation a, negation b)

-- only zero is zero with a sign
pub signed_zero : (sign : ℕ) (z : ℤ) → signed_by sign z ≡ pos 0 → z ≡ pos 0
signed_zero zero z e = e
signed_zero (suc n) z e = omega (integers, e, negation z)

pub rem_negated : (z : ℤ) (M : ℕ) → 0 < M → rem (neg_ℤ z) M ≡ (M - rem z M) % M
rem_negated z M h = go (rem z M) refl
  where
    q : ℤ
    q = quo z M

    go : (r : ℕ) → rem z M ≡ r → rem (neg_ℤ z) M ≡ (M - r) % M
    go zero e = rem_only (neg_ℤ z) M 0 (down q) (up q) h h (omega (arith, division z M h, negation z)) ∙ sym (rw sub-zero (mod_self M))
    go (suc r) e =
        let less : M - suc r < M = omega (arith, h) in
        rem_only (neg_ℤ z) M (M - suc r) (down q) (suc (up q)) h less
        (omega (arith, division z M h, negation z, rem_lt z M h, mul-suc M (up q)))
        ∙ sym (mod-eq_of_lt less)

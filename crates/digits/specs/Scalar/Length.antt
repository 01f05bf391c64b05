-- The laws of the bit length, from its halving: below 2^length, and the least such; and what each halving takes off it.
use Rattle.std.specs.Prelude.{◌≡◌, refl, ℕ, zero, suc, ◌+◌, ◌*◌, ◌/◌, ◌^◌, ◌≤◌, ◌<◌}
use Rattle.std.proofs.Common.{sym, ap, ◌∙◌, arith, pow_pos}
use Rattle.std.proofs.Math.Arith.{bin_ind}
use Rattle.digits.specs.Scalar.{bit_length, bit_length_in, BitsOf}

-- the bound on the halvings does not matter
enough : (f g n : ℕ) → n ≤ f → n ≤ g → bit_length_in f n ≡ bit_length_in g n
unfolding bit_length_in
enough zero zero n p q = refl
enough zero (suc g) zero p q = refl
enough zero (suc g) (suc n) p q = absurd (omega arith)
enough (suc f) zero zero p q = refl
enough (suc f) zero (suc n) p q = absurd (omega arith)
enough (suc f) (suc g) zero p q = refl
enough (suc f) (suc g) (suc n) p q = ap suc (enough f g (suc n / 2) (omega arith) (omega arith))

-- zero has no bits
pub length_zero : bit_length 0 ≡ 0
unfolding bit_length bit_length_in
length_zero = refl

-- halving takes one bit off
pub length_step : (n : ℕ) → 0 < n → bit_length n ≡ suc (bit_length (n / 2))
unfolding bit_length bit_length_in
length_step zero h = absurd (omega arith)
length_step (suc n) h = ap suc (enough n (suc n / 2) (suc n / 2) (omega arith) (omega arith))

-- n has bit_length n bits
pub below_length : (n : ℕ) → n < 2 ^ bit_length n
below_length = bin_ind (λ (n : ℕ). n < 2 ^ bit_length n) (pow_pos (bit_length 0)) step
  where
    step : (n : ℕ) → n / 2 < 2 ^ bit_length (n / 2) → n < 2 ^ bit_length n
    step zero h = pow_pos (bit_length 0)
    step (suc n) h = rw (length_step (suc n) (omega arith)) (omega arith)

-- and no fewer
least_step : (n k : ℕ) → bit_length (n / 2) ≤ k → bit_length n ≤ suc k
least_step zero k h = omega (arith, length_zero)
least_step (suc n) k h = omega (arith, length_step (suc n) (omega arith))

pub length_least : (n k : ℕ) → n < 2 ^ k → bit_length n ≤ k
length_least n zero h = let e : n ≡ 0 = omega arith in rw e (omega (arith, length_zero))
length_least n (suc k) h = least_step n k (length_least (n / 2) k (omega arith))

-- the top one bit gives the length
pub length_only : (n j : ℕ) → 2 ^ j ≤ n → n < 2 ^ suc j → bit_length n ≡ suc j
length_only n zero p q = omega (arith, length_least n 1 q, length_step n (omega arith))
length_only n (suc j) p q =
    length_step n (omega (arith, pow_pos (suc j))) ∙ ap suc (length_only (n / 2) j (omega arith) (omega arith))

-- the length from both of its bounds at once, zero among them
pub length_exact : (n k : ℕ) → n < 2 ^ k → 2 ^ k ≤ 2 * n + 1 → bit_length n ≡ k
length_exact n zero h l = let e : n ≡ 0 = omega arith in rw e length_zero
length_exact n (suc k) h l = length_only n k (omega arith) h

-- a bit length has its two parts in one way
pub bits_only : {n a b c d : ℕ} → BitsOf n a b → BitsOf n c d → (a ≡ c) × (b ≡ d)
bits_only {n} {a} {b} {c} {d} p q = go b d (p.all ∙ sym q.all) p.most q.most p.none q.none
  where
    go : (b d : ℕ) → 8 * a + b ≡ 8 * c + d → b ≤ 8 → d ≤ 8 → (b ≡ 0 → a ≡ 0) → (d ≡ 0 → c ≡ 0) → (a ≡ c) × (b ≡ d)
    go zero zero e h l f g = (f refl ∙ sym (g refl), refl)
    go zero (suc d) e h l f g = absurd (omega (arith, f refl))
    go (suc b) zero e h l f g = absurd (omega (arith, g refl))
    go (suc b) (suc d) e h l f g = (omega arith, omega arith)

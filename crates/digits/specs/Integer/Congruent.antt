-- Congruence of whole numbers, in the parts that `omega` reads: it takes a product of two unknowns as one. Assumes nothing.
use Rattle.std.specs.Prelude.{◌≡◌, ◌≢◌, ◌⊎◌, ℕ, zero, suc, ◌+◌, ◌*◌, ◌-◌, ◌^◌, ◌≤◌, ◌<◌, ℤ, neg_ℤ, nat_abs}
use Rattle.std.proofs.Common.{ap, subst, ◌∙◌, inl, inr, mul-add, mul-zero, mul-suc, mul_assoc, arith, pow-add}
use Rattle.std.proofs.Math.Nat.{pow-succ'}
use Rattle.digits.specs.Integer.{up, down, quo, rem}
use Rattle.digits.specs.Integer.Parts.{division, integers, size, negation}

-- r and s differ by a multiple of M: r + M b = s + M a
pub record Congruent (M : ℕ) (r s : ℤ) : Type 0 where
  pub a : ℕ
  pub b : ℕ
  pub parts : up r + down s + M * b ≡ up s + down r + M * a

-- a multiple of 2^(k+1) is twice one of 2^k
pub power_step : (k a : ℕ) → 2 ^ suc k * a ≡ 2 * (2 ^ k * a)
power_step k a = rw (pow-succ' 2 k) (mul_assoc 2 (2 ^ k) a)

-- congruence goes both ways
pub turned : {M : ℕ} {r s : ℤ} → Congruent M r s → Congruent M s r
turned h = record { a = h.b; b = h.a; parts = omega (arith, h.parts) }

-- and on
pub joined : {M : ℕ} {r s t : ℤ} → Congruent M r s → Congruent M s t → Congruent M r t
joined {M} h l =
    record {
      a = h.a + l.a;
      b = h.b + l.b;
      parts = omega (arith, h.parts, l.parts, mul-add M h.a l.a, mul-add M h.b l.b);
    }

-- and to the negated numbers
pub negated : {M : ℕ} {r s : ℤ} → Congruent M r s → Congruent M (neg_ℤ r) (neg_ℤ s)
negated {M} {r} {s} h = record { a = h.b; b = h.a; parts = omega (arith, h.parts, negation r, negation s) }

-- and to each divisor of M
pub coarser : (M N : ℕ) {r s : ℤ} → Congruent (M * N) r s → Congruent M r s
coarser M N h =
    record { a = N * h.a; b = N * h.b; parts = omega (arith, h.parts, mul_assoc M N h.a, mul_assoc M N h.b) }

-- a lower power of two divides a higher one
pub power_split : (j k : ℕ) → j ≤ k → 2 ^ k ≡ 2 ^ j * 2 ^ (k - j)
power_split j k h = ap (λ (n : ℕ). 2 ^ n) (omega arith) ∙ pow-add 2 j (k - j)

-- so to each lower power of two
pub coarser_power : (j k : ℕ) {r s : ℤ} → j ≤ k → Congruent (2 ^ k) r s → Congruent (2 ^ j) r s
coarser_power j k {r} {s} h c = coarser (2 ^ j) (2 ^ (k - j)) (subst (λ (M : ℕ). Congruent M r s) (power_split j k h) c)

-- numbers with equal remainders are congruent
pub rem_congruent : (M : ℕ) (r s : ℤ) → 0 < M → rem r M ≡ rem s M → Congruent M r s
rem_congruent M r s h e =
    record {
      a = up (quo r M) + down (quo s M);
      b = up (quo s M) + down (quo r M);
      parts =
          omega (arith, division r M h, division s M h, mul-add M (up (quo r M)) (down (quo s M)), mul-add M (up (quo s M)) (down (quo r M)));
    }

-- x and y are equal, or at least M apart
abbrev pub Apart : ℕ → ℕ → ℕ → Type 0
Apart M x y = (x ≡ y) ⊎ ((x + M ≤ y) ⊎ (y + M ≤ x))

-- so are two multiples of M
pub apart : (M a b : ℕ) → Apart M (M * a) (M * b)
apart M zero zero = inl (omega arith)
apart M zero (suc b) = inr (inl (omega (arith, mul-suc M b, mul-zero M)))
apart M (suc a) zero = inr (inr (omega (arith, mul-suc M a, mul-zero M)))
apart M (suc a) (suc b) = next (apart M a b)
  where
    next : Apart M (M * a) (M * b) → Apart M (M * suc a) (M * suc b)
    next (inl e) = inl (omega (arith, mul-suc M a, mul-suc M b))
    next (inr (inl e)) = inr (inl (omega (arith, mul-suc M a, mul-suc M b)))
    next (inr (inr e)) = inr (inr (omega (arith, mul-suc M a, mul-suc M b)))

-- and so are congruent numbers
pub congruent_apart : {M : ℕ} {r s : ℤ} → Congruent M r s → Apart M (up r + down s) (up s + down r)
congruent_apart {M} {r} {s} h = pick (apart M h.a h.b)
  where
    pick : Apart M (M * h.a) (M * h.b) → Apart M (up r + down s) (up s + down r)
    pick (inl p) = inl (omega (arith, h.parts))
    pick (inr (inl p)) = inr (inl (omega (arith, h.parts)))
    pick (inr (inr p)) = inr (inr (omega (arith, h.parts)))

-- congruent numbers whose sizes add up to less than M are equal
pub near_only : {M : ℕ} {r s : ℤ} → Congruent M r s → nat_abs r + nat_abs s < M → r ≡ s
near_only {M} {r} {s} h l = pick (congruent_apart h)
  where
    pick : Apart M (up r + down s) (up s + down r) → r ≡ s
    pick (inl p) = omega integers
    pick (inr (inl p)) = absurd (omega (arith, size r, size s))
    pick (inr (inr p)) = absurd (omega (arith, size r, size s))

-- no third number fits beside two that are M apart
outside : {M : ℕ} {r s t : ℤ} → nat_abs r < M → nat_abs s < M → nat_abs t < M → up r + down t + M ≤ up t + down r
    → Apart M (up s + down r) (up r + down s) → Apart M (up s + down t) (up t + down s) → s ≢ r → s ≢ t → ⊥
outside h l p w (inl e) x u v = u (omega integers)
outside h l p w (inr e) (inl x) u v = v (omega integers)
outside {M} {r} {s} {t} h l p w (inr (inl e)) (inr x) u v = omega (arith, size r, size s, size t)
outside {M} {r} {s} {t} h l p w (inr (inr e)) (inr (inl x)) u v = omega (arith, size r, size s, size t)
outside {M} {r} {s} {t} h l p w (inr (inr e)) (inr (inr x)) u v = omega (arith, size r, size s, size t)

-- of three congruent numbers below M in size two are equal
pub two_of_three : {M : ℕ} {r s t : ℤ} → Congruent M s r → Congruent M s t → nat_abs r < M → nat_abs s < M → nat_abs t < M → s ≢ r → s ≢ t → r ≡ t
two_of_three {M} {r} {s} {t} h l p q o u v = pick (congruent_apart (joined (turned h) l))
  where
    pick : Apart M (up r + down t) (up t + down r) → r ≡ t
    pick (inl e) = omega integers
    pick (inr (inl w)) = absurd (outside {r = r} p q o w (congruent_apart h) (congruent_apart l) u v)
    pick (inr (inr w)) = absurd (outside {r = t} o q p w (congruent_apart l) (congruent_apart h) v u)

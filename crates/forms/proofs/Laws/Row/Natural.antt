-- Rows of natural numbers: what is left above a digit stays natural, and doubling puts a 0 in front. From the row's rule.
use Rattle.std.specs.Prelude.{◌≡◌, refl, ◌∷◌, ◌++◌, ℕ, zero, suc, ◌*◌, ◌^◌, ◌≤◌, ◌<◌, replicate, ℤ, pos, ◌+ℤ◌, ◌-ℤ◌}
use Rattle.std.proofs.Common.{sym, ap, inl, inr, mul-pos, one-mul, arith, pow_pos}
use Rattle.digits.specs.Integer.{up, down}
use Rattle.digits.specs.Integer.Parts.{integers, one_side, size, difference}
use Rattle.digits.specs.Integer.Congruent.{power_step, Apart}
use Rattle.forms.specs.Row.{DigitRule, even, place, digit, rest, row}
use Rattle.forms.proofs.Laws.Row.Digit.{digit_meets}
use Rattle.forms.specs.Row.OddDigit.{OddDigit, Cases, digit_cases, halves, rest_apart}
use Rattle.forms.proofs.Laws.Row.Only.{rest_twice, row_meets, row_only}

module _ {m : ℕ} (c d c' : ℤ) (e : c -ℤ d ≡ c' +ℤ c') (h : 1 ≤ m) (natural : down c ≡ 0) where
  -- what is left above the digit of a natural number has no negative part
  pub rest_natural : DigitRule m c d → down c' ≡ 0
  rest_natural r = pick (digit_cases h r)
    where
      far : (o : OddDigit m c d) → Apart (2 ^ o.j) (up c') (down c') → down c' ≡ 0
      far o (inl p) = omega (arith, one_side c')
      far o (inr (inl p)) = absurd (omega (arith, halves c d c' e, o.below, size d))
      far o (inr (inr p)) = omega (arith, one_side c', pow_pos o.j)

      pick : Cases m c d → down c' ≡ 0
      pick (inl p) = omega (integers, p.1, halves c d c' e, one_side c')
      pick (inr o) = far o (rest_apart c d c' e o)

-- the remainders of a natural number stay natural
pub rest_pos : (m n : ℕ) → 1 ≤ m → (k : ℕ) × (rest m (pos n) ≡ pos k)
rest_pos m n h = (
  up (rest m (pos n)),
  omega (integers, rest_natural (pos n) (digit m (pos n)) (rest m (pos n)) (rest_twice m (pos n) h) h refl (digit_meets m (pos n) h)),
)

row_double : (m n : ℕ) → 1 ≤ m → 0 < n → row m (pos (2 * n)) ≡ pos 0 ∷ row m (pos n)
row_double m n h p =
    sym (row_only m (pos (2 * n)) (pos 0 ∷ row m (pos n)) h
    (place (λ e. omega (arith, ap up e)) (even (omega arith)) (omega (integers, difference (pos (2 * n)) (pos 0))) (row_meets m (pos n) h)))

-- each doubling puts a 0 in front
pub row_zeros : (m z n : ℕ) → 1 ≤ m → 0 < n → row m (pos (2 ^ z * n)) ≡ replicate z (pos 0) ++ row m (pos n)
row_zeros m zero n h p = ap (λ (x : ℕ). row m (pos x)) (one-mul n)
row_zeros m (suc z) n h p = rw (power_step z n, row_double m (2 ^ z * n) h (mul-pos (pow_pos z) p), row_zeros m z n h p)

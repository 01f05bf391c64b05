-- A row has at most one place more than the scalar has bits. Along the row's rule: a natural number up to 2^(b+1) leaves one up to 2^b,
-- and a negated number's row is as long.
use Rattle.std.specs.Prelude.{◌≡◌, refl, Bool, true, false, not, List, ℕ, zero, suc, ◌+◌, ◌-◌, ◌^◌, ◌≤◌, ◌<◌, T, leb, length, ℤ, pos, ◌+ℤ◌, ◌-ℤ◌, nat_abs}
use Rattle.std.proofs.Common.{inl, inr, mul-zero, arith, leb→le, pow_mono}
use Rattle.std.proofs.Math.Dec.{nleb→lt}
use Rattle.digits.specs.Integer.{up, down}
use Rattle.digits.specs.Integer.Parts.{integers, one_side, size}
use Rattle.digits.specs.Integer.Congruent.{Congruent, power_split, turned, joined, Apart, congruent_apart}
use Rattle.digits.specs.Scalar.{bit_length}
use Rattle.digits.specs.Scalar.Length.{below_length}
use Rattle.forms.specs.Row.{DigitRule, RowRule, end, place, row}
use Rattle.forms.specs.Row.OddDigit.{OddDigit, Cases, digit_cases, halves, rest_multiple, rest_apart, falls}
use Rattle.forms.proofs.Laws.Row.Only.{row_meets}
use Rattle.forms.proofs.Laws.Row.Natural.{rest_natural}
use Rattle.forms.proofs.Laws.Row.Negated.{row_size}

-- 2^b is a multiple of each lower power of two
power_multiple : (j b : ℕ) → j ≤ b → Congruent (2 ^ j) (pos (2 ^ b)) (pos 0)
power_multiple j b h = record { a = 2 ^ (b - j); b = 0; parts = omega (arith, power_split j b h, mul-zero (2 ^ j)) }

-- of numbers that are equal or M apart, x is not above y where it is less than M above it
at_most : (M x y : ℕ) → Apart M x y → x < y + M → x ≤ y
at_most M x y (inl p) l = omega arith
at_most M x y (inr (inl p)) l = omega arith
at_most M x y (inr (inr p)) l = absurd (omega arith)

module _ {m : ℕ} (c d c' : ℤ) (e : c -ℤ d ≡ c' +ℤ c') (h : 1 ≤ m) (natural : down c ≡ 0) where
  -- at most half of a power of two is left
  rest_half : (b : ℕ) → up c ≤ 2 ^ suc b → DigitRule m c d → up c' ≤ 2 ^ b
  rest_half b l r = pick (digit_cases h r)
    where
      side : (o : OddDigit m c d) (t : Bool) → (T t → o.j ≤ b) → (T (not t) → b < o.j) → up c' ≤ 2 ^ b
      side o true p q =
          omega (
            arith,
            rest_natural c d c' e h natural r,
            at_most (2 ^ o.j) (up c' + 0) (2 ^ b + down c')
                (congruent_apart (joined (rest_multiple c d c' e o) (turned (power_multiple o.j b (p tt)))))
                (omega (arith, halves c d c' e, o.below, size d)),
          )
      side o false p q =
          omega (
            arith,
            rest_natural c d c' e h natural r,
            at_most (2 ^ o.j) (up c') (down c') (rest_apart c d c' e o)
                (omega (arith, halves c d c' e, o.below, size d, pow_mono (q tt))),
          )

      pick : Cases m c d → up c' ≤ 2 ^ b
      pick (inl p) = omega (integers, p.1, halves c d c' e, one_side c')
      pick (inr o) = side o (leb o.j b) (leb→le o.j b) (nleb→lt o.j b)

-- up to 2^b there are at most b + 1 places
rule_length : {m : ℕ} {c : ℤ} {ds : List ℤ} (b : ℕ) → 1 ≤ m → down c ≡ 0 → up c ≤ 2 ^ b → RowRule m c ds → length ds ≤ suc b
rule_length b h z l end = omega arith
rule_length zero h z l (place {c = c} {c' = c'} {d = d} n r t end) = omega arith
rule_length zero h z l (place {c = c} {c' = c'} {d = d} n r t (place n' r' t' s)) = absurd (n' (omega (integers, falls c d c' t h n r, size c, size c')))
rule_length (suc b) h z l (place {c = c} {c' = c'} {d = d} n r t s) =
    omega (arith, rule_length b h (rest_natural c d c' t h z r) (rest_half c d c' t h z b l r) s)

-- a row has at most one place more than the scalar has bits
pub row_length : (m : ℕ) (c : ℤ) → 1 ≤ m → length (row m c) ≤ bit_length (nat_abs c) + 1
row_length m c h =
    let n : ℕ = nat_abs c in
    omega (arith, row_size m c h, rule_length (bit_length n) h refl (omega (arith, below_length n)) (row_meets m (pos n) h))

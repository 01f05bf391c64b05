-- The row of a number meets its rule, and is the only list that does; so it unfolds place by place. From the same of the digit.
use Rattle.std.specs.Prelude.{◌≡◌, refl, ◌≢◌, List, [], ◌∷◌, ℤ, negsuc, ◌+ℤ◌, ◌-ℤ◌, nat_abs}
use Rattle.std.proofs.Math.Path.{sym, ap}
use Rattle.std.proofs.Common.{ap₂, inl, inr, arith}
use Prim.Native.Nat.{ℕ, zero, suc, ◌%◌, ◌≤◌}
use Rattle.std.proofs.Math.IntN.{pos, pos-ne-negsuc}
use Rattle.digits.specs.Integer.{up, half}
use Rattle.digits.specs.Integer.Parts.{half_even, integers, size, difference, sum}
use Rattle.digits.specs.Integer.Congruent.{power_step}
use Rattle.forms.specs.Row.{RowRule, end, place, digit, rest, row_in, row}
use Rattle.forms.proofs.Laws.Row.Digit.{digit_meets, digit_only}
use Rattle.forms.specs.Row.OddDigit.{Cases, digit_cases, halves, falls}

-- c less its digit is twice what is left
pub rest_twice : (m : ℕ) (c : ℤ) → 1 ≤ m → c -ℤ digit m c ≡ rest m c +ℤ rest m c
unfolding rest
rest_twice m c h = omega (integers, half_even z (pick (digit_cases h (digit_meets m c h))), sum (half z) (half z))
  where
    z : ℤ
    z = c -ℤ digit m c

    pick : Cases m c (digit m c) → nat_abs z % 2 ≡ 0
    pick (inl p) = omega (integers, p.0, p.1, difference c (digit m c), size c, size z)
    pick (inr o) =
        omega (arith, o.odd, o.same.parts, power_step o.j o.same.a, power_step o.j o.same.b, difference c (digit m c), size (digit m c), size z)

module _ (m : ℕ) (h : 1 ≤ m) where
  next : (f : ℕ) (c : ℤ) → c ≢ pos 0 → nat_abs c ≤ suc f → ((b : ℤ) → nat_abs b ≤ f → RowRule m b (row_in f m b))
      → RowRule m c (digit m c ∷ row_in f m (rest m c))
  next f c n l r =
      place n (digit_meets m c h) (rest_twice m c h)
      (r (rest m c) (omega (arith, falls c (digit m c) (rest m c) (rest_twice m c h) h n (digit_meets m c h))))

  row_in_meets : (f : ℕ) (c : ℤ) → nat_abs c ≤ f → RowRule m c (row_in f m c)
  unfolding row_in
  row_in_meets zero (pos zero) l = end
  row_in_meets zero (pos (suc n)) l = absurd (omega arith)
  row_in_meets zero (negsuc n) l = absurd (omega arith)
  row_in_meets (suc f) (pos zero) l = end
  row_in_meets (suc f) (pos (suc n)) l = next f (pos (suc n)) (λ e. omega (arith, ap up e)) l (row_in_meets f)
  row_in_meets (suc f) (negsuc n) l = next f (negsuc n) (λ e. pos-ne-negsuc 0 n (sym e)) l (row_in_meets f)

-- the row meets the rule
pub row_meets : (m : ℕ) (c : ℤ) → 1 ≤ m → RowRule m c (row m c)
unfolding row
row_meets m c h = row_in_meets m h (nat_abs c) c (omega arith)

rule_only : {m : ℕ} {c b : ℤ} {ds es : List ℤ} → 1 ≤ m → c ≡ b → RowRule m c ds → RowRule m b es → ds ≡ es
rule_only h q end end = refl
rule_only h q end (place n r t s) = absurd (n (sym q))
rule_only h q (place n r t s) end = absurd (n q)
rule_only {m} h q (place {c = c} {c' = x} {d = d} n r t s) (place {c = b} {c' = y} {d = e} n' r' t' s') =
    let p : d ≡ e = digit_only m c d e h r (rw (← q) at r') in
    ap₂ ◌∷◌ p (rule_only h (omega (integers, halves c d x t, halves b e y t')) s s')

-- no other list meets it
pub row_only : (m : ℕ) (c : ℤ) (ds : List ℤ) → 1 ≤ m → RowRule m c ds → ds ≡ row m c
row_only m c ds h r = rule_only h refl r (row_meets m c h)

-- zero has the empty row
pub row_zero : (m : ℕ) → row m (pos 0) ≡ []
unfolding row row_in
row_zero m = refl

-- any other number has its digit, and then the row of what is left
pub row_unfold : (m : ℕ) (c : ℤ) → 1 ≤ m → c ≢ pos 0 → row m c ≡ digit m c ∷ row m (rest m c)
row_unfold m c h n =
    sym (row_only m c (digit m c ∷ row m (rest m c)) h
    (place n (digit_meets m c h) (rest_twice m c h) (row_meets m (rest m c) h)))

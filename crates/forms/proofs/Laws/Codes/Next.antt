-- The digits tell the codes: the sign is turned exactly where the row's next digit is not 0 either. The digit and the parity of what
-- is left depend on the remainders by 8 only: one table of them is computed.
use Rattle.std.specs.Prelude.{◌≡◌, cond, ℕ, zero, suc, ◌%◌, ◌≤◌, ◌<◌, eqb, ℤ, pos, negsuc, nat_abs, get_or}
use Rattle.std.proofs.Common.{sym, ap₂, ◌∙◌, arith}
use Rattle.digits.specs.Integer.{rem, half}
use Rattle.digits.specs.Integer.Parts.{rem_lt}
use Rattle.digits.specs.Two.{Two, other, is_zero}
use Rattle.forms.specs.Codes.{code, digits, remainder_at, code_at}
use Rattle.forms.proofs.Laws.Codes.Place.{digit_at_lem, digit_after}
use Rattle.forms.specs.Joint.{digit, rest}
use Rattle.forms.proofs.Laws.Joint.Digit.{rem_two, rem_four, rem_eight, digit_rem, digit_fits, rest_rem}
use Rattle.forms.specs.Residue.{residue}
use Rattle.forms.specs.Test.{equal, every_below}
use Rattle.forms.specs.Codes.Next.{by_next}

-- the same, by the remainder of what is left
abbrev by_rest : ℤ → ℕ → ℕ
by_rest d r = cond (is_zero d) 0 (cond (eqb (r % 2) 0) 1 2)

table : (x : ℕ) → x < 8 → (y : ℕ) → y < 8 → code (pos x) (pos y) ≡ by_rest (digit (pos x) (pos y)) (rem (rest (pos x) (pos y)) 4)
unfolding code digit residue rest half
table = (every_below 8 (λ x. every_below 8 (λ y. equal (code (pos x) (pos y)) (by_rest (digit (pos x) (pos y)) (rem (rest (pos x) (pos y)) 4))))).tells tt

-- the code is that of the remainders by 8
code_rem : (c o : ℤ) → code c o ≡ code (pos (rem c 8)) (pos (rem o 8))
unfolding code
code_rem c o = rw (rem_two c, rem_four o, rem_eight c)

-- a digit is 0 exactly for an even number
zero_even : (c o : ℤ) → is_zero (digit c o) ≡ eqb (rem c 4 % 2) 0
zero_even c o = go (digit c o) (digit_fits c o).0 (omega (arith, digit_fits c o, rem_two c, rem_four c))
  where
    go : (d : ℤ) → nat_abs d ≤ 1 → rem c 4 % 2 ≡ nat_abs d → is_zero d ≡ eqb (rem c 4 % 2) 0
    go (pos zero) h e = rw e
    go (pos (suc zero)) h e = rw e
    go (pos (suc (suc n))) h e = absurd (omega arith)
    go (negsuc zero) h e = rw e
    go (negsuc (suc n)) h e = absurd (omega arith)

code_next : (c o : ℤ) → code c o ≡ by_next (digit c o) (digit (rest c o) (rest o c))
code_next c o =
    code_rem c o
    ∙ table (rem c 8) (rem_lt c 8 (omega arith)) (rem o 8) (rem_lt o 8 (omega arith))
    ∙ rw (digit_rem c o, zero_even (rest c o) (rest o c), rest_rem c o)

-- at every place of a joint form
pub codes_next : (k l : ℤ) (r : Two) (i : ℕ) → code_at k l r i ≡ by_next (get_or (digits k l r) i (pos 0)) (get_or (digits k l r) (suc i) (pos 0))
codes_next k l r i = code_next (remainder_at k l r i) (remainder_at k l (other r) i) ∙ ap₂ by_next (sym (digit_at_lem k l i r)) (sym (digit_after k l i r))

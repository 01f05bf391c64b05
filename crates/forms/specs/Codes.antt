-- The rule behind every digit of a joint sparse form: the remainder of each number at a place, and a code for the rule by which
-- the digit follows from it.
pub mod Remainder
pub mod Rule
pub mod Next
use Rattle.std.specs.Prelude.{◌≡◌, ◌↔◌, ◌⊎◌, cond, List, [], ◌∷◌, ℕ, zero, suc, ◌%◌, ◌^◌, eqb, ℤ, pos, ◌+ℤ◌, ◌-ℤ◌, ◌*ℤ◌, neg_ℤ, nat_abs, length, take}
use Rattle.digits.specs.Column as Columns
use Rattle.digits.specs.Integer.{rem, quo}
use Rattle.digits.specs.Row.{value}
use Rattle.digits.specs.Two.{Two, other, of, two}
use Rattle.forms.specs.Joint.{turns, joint}
use Rattle.forms.specs.Residue.{residue}

-- ── the remainder at a place ────────────────────────────────────────────────────────────────

-- c is the value of its digits below the place i and 2^i times z
abbrev pub Leaves : ℤ → List ℤ → ℕ → ℤ → Type 0
Leaves c digits i z = c ≡ value (take i digits) +ℤ (pos (2 ^ i) *ℤ z)

-- c less its digits below the place i, divided by 2^i
unfoldable pub remainder : ℤ → List ℤ → ℕ → ℤ
remainder c digits i = quo (c -ℤ value (take i digits)) (2 ^ i)

-- ── the code of a remainder c beside the other one, o ───────────────────────────────────────

-- c is 3 or 5 modulo 8 beside an o that is 2 modulo 4: the sign is turned
abbrev pub Turned : ℤ → ℤ → Type 0
Turned c o = ((rem c 8 ≡ 3) ⊎ (rem c 8 ≡ 5)) × (rem o 4 ≡ 2)

-- 0 for an even c; for an odd one 2 where the sign is turned, else 1
unfoldable pub code : ℤ → ℤ → ℕ
code c o = cond (eqb (nat_abs c % 2) 0) 0 (cond (turns c o) 2 1)

-- each code stands exactly where its condition holds
pub record Held (c o : ℤ) (n : ℕ) : Type 0 where
  pub even : (n ≡ 0) ↔ (nat_abs c % 2 ≡ 0)
  pub plain : (n ≡ 1) ↔ ((nat_abs c % 2 ≡ 1) × (¬ (Turned c o)))
  pub turned : (n ≡ 2) ↔ ((nat_abs c % 2 ≡ 1) × Turned c o)

-- the digit of c by its code: 0; the residue by four; its negative
abbrev pub digit_by : ℕ → ℤ → ℤ
digit_by zero c = pos 0
digit_by (suc zero) c = residue 2 c
digit_by (suc (suc n)) c = neg_ℤ (residue 2 c)

-- ── the codes of a joint form ───────────────────────────────────────────────────────────────

-- the digits of a row, and the remainder of its number at a place
abbrev pub digits : ℤ → ℤ → Two → List ℤ
digits k l r = Columns.row two r (joint k l)

abbrev pub remainder_at : ℤ → ℤ → Two → ℕ → ℤ
remainder_at k l r i = remainder (of k l r) (digits k l r) i

abbrev pub code_at : ℤ → ℤ → Two → ℕ → ℕ
code_at k l r i = code (remainder_at k l r i) (remainder_at k l (other r) i)

-- what f gives for the places below n
unfoldable pub below : {A : Type 0} → (ℕ → A) → ℕ → List A
below f zero = []
below f (suc n) = f 0 ∷ below (λ i. f (suc i)) n

-- the codes of a row, place by place
unfoldable pub codes : ℤ → ℤ → Two → List ℕ
codes k l r = below (code_at k l r) (length (joint k l))

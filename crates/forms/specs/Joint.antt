-- The joint sparse form of two numbers: Solinas's rules, as 01 words them, and the function that finds the columns.
pub mod Digit
pub mod Rule
pub mod Triple
use Rattle.std.specs.Prelude.{◌≡◌, ◌≢◌, ◌⊎◌, Bool, true, false, not, ◌&&◌, ◌||◌, cond, List, [], ◌∷◌, ℕ, zero, suc, ◌+◌, ◌%◌, ◌≤◌, T, eqb, length, get_or, ℤ, pos, negsuc, ◌-ℤ◌, ◌*ℤ◌, neg_ℤ, nat_abs}
use Rattle.digits.specs.Integer.{rem, half}
use Rattle.digits.specs.Two as Two
use Rattle.digits.specs.Two.{Column, other, blank, blank_column}
use Rattle.forms.specs.Residue.{residue}

-- the column at a place; above the top there are zero columns
abbrev pub at : List Column → ℕ → Column
at cs i = get_or cs i blank_column

abbrev pub digit_at : List Column → ℕ → Two.Two → ℤ
digit_at cs i r = Two.digit (at cs i) r

-- the joint sparse rules, at all places
pub record Keeps (cs : List Column) : Type 0 where
  -- the digits are −1, 0 or 1
  pub small : (i : ℕ) (r : Two.Two) → nat_abs (digit_at cs i r) ≤ 1
  -- (a) of any three neighbouring columns one is zero
  pub a : (i : ℕ) → T (blank (at cs i)) ⊎ (T (blank (at cs (suc i))) ⊎ T (blank (at cs (suc (suc i)))))
  -- (b) neighbouring digits of a row never have product −1
  pub b : (i : ℕ) (r : Two.Two) → digit_at cs i r *ℤ digit_at cs (suc i) r ≢ negsuc 0
  -- (c) where a row has two neighbouring non-zero digits, the other row is non-zero at the higher place and 0 at the lower
  pub c : (i : ℕ) (r : Two.Two) → digit_at cs i r ≢ pos 0 → digit_at cs (suc i) r ≢ pos 0
      → (digit_at cs (suc i) (other r) ≢ pos 0) × (digit_at cs i (other r) ≡ pos 0)

-- the top column is not zero; the empty list has none
abbrev pub Topped : List Column → Type 0
Topped cs = (i : ℕ) → length cs ≡ suc i → T (not (blank (at cs i)))

-- c is 3 or 5 modulo 8 beside an o that is 2 modulo 4
abbrev pub turns : ℤ → ℤ → Bool
turns c o = (eqb (rem c 8) 3 || eqb (rem c 8) 5) && eqb (rem o 4) 2

-- the digit of the remainder c beside the other remainder o: 0 for an even c; else the residue by four, its sign turned
-- where the next place is to be filled
unfoldable pub digit : ℤ → ℤ → ℤ
digit c o = cond (eqb (nat_abs c % 2) 0) (pos 0) (cond (turns c o) (neg_ℤ (residue 2 c)) (residue 2 c))

unfoldable pub column : ℤ → ℤ → Column
column k l = record { p = digit k l; q = digit l k }

-- what is left of c above its digit
unfoldable pub rest : ℤ → ℤ → ℤ
rest c o = half (c -ℤ digit c o)

-- the columns of k and l; the first number bounds how many there are
unfoldable pub joint_in : ℕ → ℤ → ℤ → List Column
joint_in zero k l = []
joint_in (suc f) k l = elim (eqb (nat_abs k + nat_abs l) 0) [ true ↦ [] | false ↦ column k l ∷ joint_in f (rest k l) (rest l k) ]

unfoldable pub joint : ℤ → ℤ → List Column
joint k l = joint_in (nat_abs k + nat_abs l) k l

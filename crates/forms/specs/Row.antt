-- The row of a scalar for a window, as 01 words it: the digit of a remainder, what it leaves, and the row of all digits.
-- The rule stands beside the function as a `data`.
pub mod OddDigit
use Rattle.std.specs.Prelude.{◌≡◌, ◌≢◌, cond, List, [], ◌∷◌, ℕ, zero, suc, ◌-◌, ◌%◌, ◌≤◌, ◌<◌, eqb, leb, ℤ, pos, negsuc, ◌+ℤ◌, ◌-ℤ◌, nat_abs}
use Rattle.digits.specs.Integer.{half}
use Rattle.forms.specs.Residue.{Residue, residue, width}

-- d is the digit of the remainder c
pub data DigitRule (m : ℕ) (c : ℤ) : ℤ → Type 0 where
  -- an even c gives digit 0
  even : nat_abs c % 2 ≡ 0 → DigitRule m c (pos 0)
  -- an odd c gives r
  wide : {r : ℤ} → nat_abs c % 2 ≡ 1 → Residue (width m) c r → nat_abs r ≤ m → DigitRule m c r
  -- if |r| > m, r is taken by the same rule with W − 1
  narrow : {s r : ℤ} → nat_abs c % 2 ≡ 1 → Residue (width m) c s → m < nat_abs s → Residue (width m - 1) c r → DigitRule m c r

-- ds is the row of c: while c is not 0, its digit d, and then c is (c − d)/2
pub data RowRule (m : ℕ) : ℤ → List ℤ → Type 0 where
  end : RowRule m (pos 0) []
  place : {c c' d : ℤ} {ds : List ℤ} → c ≢ pos 0 → DigitRule m c d → c -ℤ d ≡ c' +ℤ c' → RowRule m c' ds → RowRule m c (d ∷ ds)

-- the digit of an odd c, of which r is the residue for W
abbrev pub within : ℕ → ℤ → ℤ → ℤ
within m c r = cond (leb (nat_abs r) m) r (residue (width m - 1) c)

unfoldable pub digit : ℕ → ℤ → ℤ
digit m c = cond (eqb (nat_abs c % 2) 0) (pos 0) (within m c (residue (width m) c))

-- what is left of c above its digit
unfoldable pub rest : ℕ → ℤ → ℤ
rest m c = half (c -ℤ digit m c)

-- the row of c; the first number bounds how many places it has
unfoldable pub row_in : ℕ → ℕ → ℤ → List ℤ
row_in zero m c = []
row_in (suc f) m (pos zero) = []
row_in (suc f) m (pos (suc n)) = digit m (pos (suc n)) ∷ row_in f m (rest m (pos (suc n)))
row_in (suc f) m (negsuc n) = digit m (negsuc n) ∷ row_in f m (rest m (negsuc n))

unfoldable pub row : ℕ → ℤ → List ℤ
row m c = row_in (nat_abs c) m c

-- The width-w form of a number, as source document 003 words it (definition 4.2, with the odd digits that it forgets), and the
-- non-adjacent form, which is its case w = 2 (remark 3).
use Rattle.std.specs.Prelude.{◌≡◌, ◌≢◌, ◌⊎◌, List, ℕ, suc, ◌+◌, ◌-◌, ◌%◌, ◌^◌, ◌≤◌, ◌<◌, length, get_or, ℤ, pos, nat_abs}
use Rattle.digits.specs.Row.{value}

-- the digit at a place; above the top there are zeros
abbrev pub at : List ℤ → ℕ → ℤ
at ds i = get_or ds i (pos 0)

-- d is 0 or odd
abbrev pub ZeroOrOdd : ℤ → Type 0
ZeroOrOdd d = (d ≡ pos 0) ⊎ (nat_abs d % 2 ≡ 1)

-- the top digit is not 0; the empty list has none
abbrev pub Topped : List ℤ → Type 0
Topped ds = (i : ℕ) → length ds ≡ suc i → at ds i ≢ pos 0

-- of any w neighbouring digits at most one is not 0: of any two of them one is 0
abbrev pub Sparse : ℕ → List ℤ → Type 0
Sparse w ds = (i j : ℕ) → i < j → j < i + w → (at ds i ≡ pos 0) ⊎ (at ds j ≡ pos 0)

-- ds is the width-w form of c
pub record WidthForm (w : ℕ) (c : ℤ) (ds : List ℤ) : Type 0 where
  -- c is the sum of digit × 2^place
  pub reads : value ds ≡ c
  -- the digits lie between −2^(w−1) and 2^(w−1)
  pub small : (i : ℕ) → nat_abs (at ds i) < 2 ^ (w - 1)
  pub top : Topped ds
  pub sparse : Sparse w ds
  -- every digit is 0 or odd
  pub odd : (i : ℕ) → ZeroOrOdd (at ds i)

-- ds is the non-adjacent form of c
pub record NonAdjacent (c : ℤ) (ds : List ℤ) : Type 0 where
  -- c is the sum of digit × 2^place
  pub reads : value ds ≡ c
  -- the digits are −1, 0 or 1
  pub small : (i : ℕ) → nat_abs (at ds i) ≤ 1
  pub top : Topped ds
  -- of two neighbouring digits one is 0
  pub sparse : (i : ℕ) → (at ds i ≡ pos 0) ⊎ (at ds (suc i) ≡ pos 0)

-- Rows: lists of signed digits, place 0 first.
pub mod Parts
pub mod Adding
pub mod Weight
pub mod Window
pub mod Sign
use Rattle.std.specs.Prelude.{◌≡◌, Bool, ◌&&◌, List, [], ◌∷◌, eqb, leb, ℕ, zero, suc, ◌+◌, ◌%◌, ◌≤◌, ℤ, pos, negsuc, ◌+ℤ◌, nat_abs}

-- the sum of digit × 2^place
unfoldable pub value : List ℤ → ℤ
value [] = pos 0
value (d ∷ ds) = d +ℤ (value ds +ℤ value ds)

-- how many of the digits are not 0
abbrev pub count : ℤ → ℕ
count (pos zero) = 0
count (pos (suc n)) = 1
count (negsuc n) = 1

unfoldable pub weight : List ℤ → ℕ
weight [] = 0
weight (d ∷ ds) = count d + weight ds

-- a window is an odd number from 1 to 31
abbrev pub widest : ℕ
widest = 31

abbrev pub is_window : ℕ → Bool
is_window m = eqb (m % 2) 1 && leb m widest

-- the digits of a window m: 0 and the odd numbers from −m to m
pub data Digit (m : ℕ) : ℤ → Type 0 where
  none : Digit m (pos 0)
  odd : {d : ℤ} → nat_abs d % 2 ≡ 1 → nat_abs d ≤ m → Digit m d

-- every digit of the row is one of the window's
pub data Over (m : ℕ) : List ℤ → Type 0 where
  empty : Over m []
  more : {d : ℤ} {ds : List ℤ} → Digit m d → Over m ds → Over m (d ∷ ds)

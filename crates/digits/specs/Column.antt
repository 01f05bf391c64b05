-- Columns of digits −1, 0, 1 for any number of rows, place 0 first. `Kind` says what a column is; everything else is for
-- every kind.
pub mod Adding
pub mod Weight
pub mod Length
use Rattle.std.specs.Prelude.{◌≡◌, ◌≢◌, Bool, true, false, not, List, [], ◌∷◌, map, ℕ, ◌+◌, ◌≤◌, T, ℤ, pos, nat_abs}

-- a kind of column: its rows, the digit that a column has in each of them, and the test whether all of them are 0
pub record Kind : Type 1 where
  pub Row : Type 0
  pub Column : Type 0
  pub digit : Column → Row → ℤ
  pub column : (Row → ℤ) → Column
  pub digit_column : (f : Row → ℤ) (r : Row) → digit (column f) r ≡ f r
  pub blank : Column → Bool
  pub blank_digit : (c : Column) → T (blank c) → (r : Row) → digit c r ≡ pos 0
  pub full_digit : (c : Column) → T (not (blank c)) → (r : Row) × (digit c r ≢ pos 0)

-- 1 for a column that is not zero
abbrev pub counted : Bool → ℕ
counted true = 0
counted false = 1

module _ (K : Kind) where
  -- one row of a column list
  unfoldable pub row : K.Row → List K.Column → List ℤ
  row r cs = map (λ c. K.digit c r) cs

  -- how many of the columns are not zero
  unfoldable pub weight : List K.Column → ℕ
  weight [] = 0
  weight (c ∷ cs) = counted (K.blank c) + weight cs

  -- every digit is −1, 0 or 1
  pub data Small : List K.Column → Type 0 where
    empty : Small []
    more : {c : K.Column} {cs : List K.Column} → ((r : K.Row) → nat_abs (K.digit c r) ≤ 1) → Small cs → Small (c ∷ cs)

-- How many columns two rows have below n, and their rows; and the byte of a column and the digits of a byte at a place below n. From the
-- laws of two rows as columns.
use Rattle.std.specs.Prelude.{◌≡◌, List, map, ℕ, ◌≤◌, ◌<◌, ℤ, pos, length, get_or, take}
use Rattle.std.proofs.Common.{sym, ap₂, ◌∙◌, arith, get_or-take}
use Rattle.std.proofs.Math.Path.{ap}
use Rattle.std.proofs.lemmas.List.{length-map}
use Rattle.std.proofs.Math.ListN.{get_or-map}
use Rattle.std.proofs.Math.Seq.{length-take-le}
use Rattle.digits.specs.Buffer.{row_below, columns_below}
use Rattle.digits.specs.Buffer.Mapped.{map_at}
use Rattle.digits.specs.Byte.{byte_of, signed}
use Rattle.digits.specs.Column.{row}
use Rattle.digits.specs.Column.Length.{row_length}
use Rattle.digits.specs.Two.{Column, Two, P, Q, of, two, digit, blank_column}
use Rattle.digits.specs.Two.Paired.{paired_length, paired_at, rows_paired}
use Rattle.packing.specs.Body.{column_of}
use Rattle.packing.specs.Packing.{byte_of_column, column_of_byte, packed_columns, unpacked_row}

row_length_below : (n : ℕ) (s : List ℕ) → n ≤ length s → length (row_below n s) ≡ n
unfolding row_below
row_length_below n s h = length-map (take n s) signed ∙ length-take-le n s h

columns_length : (n : ℕ) (k l : List ℕ) → n ≤ length k → n ≤ length l → length (columns_below n k l) ≡ n
unfolding columns_below
columns_length n k l h g =
    omega (arith, paired_length (row_below n k) (row_below n l), row_length_below n k h, row_length_below n l g)

-- the rows of the columns
pub columns_rows : (n : ℕ) (k l : List ℕ) → n ≤ length k → n ≤ length l → (r : Two) → row two r (columns_below n k l) ≡ row_below n (of k l r)
unfolding columns_below
columns_rows n k l h g P = rows_paired (row_below n k) (row_below n l) (row_length_below n k h ∙ sym (row_length_below n l g)) P
columns_rows n k l h g Q = rows_paired (row_below n k) (row_below n l) (row_length_below n k h ∙ sym (row_length_below n l g)) Q

digit_below : (n : ℕ) (s : List ℕ) (i : ℕ) → i < n → get_or (row_below n s) i (pos 0) ≡ signed (get_or s i 0)
unfolding row_below
digit_below n s i h = get_or-map signed (take n s) i 0 ∙ ap signed (get_or-take n s i 0 h)

columns_at : (n : ℕ) (k l : List ℕ) (i : ℕ) → i < n → get_or (columns_below n k l) i blank_column ≡ column_of (get_or k i 0) (get_or l i 0)
unfolding columns_below
columns_at n k l i h =
    paired_at (row_below n k) (row_below n l) i
    ∙ ap₂ (λ (a b : ℤ). record { p = a; q = b }) (digit_below n k i h) (digit_below n l i h)

-- the bytes of columns
pub packed_length : (n : ℕ) (k l : List ℕ) → n ≤ length k → n ≤ length l → length (packed_columns n k l) ≡ n
packed_length n k l h g = length-map (columns_below n k l) byte_of_column ∙ columns_length n k l h g

pub packed_at : (n : ℕ) (k l : List ℕ) (i : ℕ) → n ≤ length k → n ≤ length l → i < n
    → get_or (packed_columns n k l) i 0 ≡ byte_of_column (column_of (get_or k i 0) (get_or l i 0))
packed_at n k l i h g j =
    map_at byte_of_column (columns_below n k l) i blank_column 0 (omega (arith, columns_length n k l h g)) ∙ ap byte_of_column (columns_at n k l i j)

-- the bytes of a row
module _ (r : Two) (n : ℕ) (packed : List ℕ) (h : n ≤ length packed) where
  abbrev columns : List Column
  columns = map column_of_byte (take n packed)

  unpacked : length columns ≡ n
  unpacked = length-map (take n packed) column_of_byte ∙ length-take-le n packed h

  pub unpacked_length : length (unpacked_row r n packed) ≡ n
  unpacked_length = length-map (row two r columns) byte_of ∙ row_length two r columns ∙ unpacked

  pub unpacked_at : (i : ℕ) → i < n → get_or (unpacked_row r n packed) i 0 ≡ byte_of (digit (column_of_byte (get_or packed i 0)) r)
  unfolding row
  unpacked_at i j =
      map_at byte_of (row two r columns) i (pos 0) 0 (omega (arith, row_length two r columns, unpacked))
      ∙ ap byte_of (map_at (λ c. digit c r) columns i blank_column (pos 0) (omega (arith, unpacked))
      ∙ ap (λ (c : Column). digit c r) (map_at column_of_byte (take n packed) i 0 blank_column (omega (arith, length-take-le n packed h)) ∙ ap column_of_byte (get_or-take n packed i 0 j)))

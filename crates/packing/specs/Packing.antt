-- A column of two digits −1, 0, 1 as one byte, and the column of a byte; and which bytes store such digits, and which such columns.
pub mod Places
use Rattle.std.specs.Prelude.{Bool, List, map, ℕ, ◌+◌, ◌*◌, ◌/◌, ◌%◌, leb, pos, ◌+ℤ◌, ◌-ℤ◌, nat_abs, take}
use Rattle.digits.specs.Buffer.{columns_below}
use Rattle.digits.specs.Byte.{byte_of, signed}
use Rattle.digits.specs.Column.{row}
use Rattle.digits.specs.Integer.{up}
use Rattle.digits.specs.Two.{Column, Two, two}

-- the byte of a column (a, b): 3 × (a + 1) + (b + 1)
unfoldable pub byte_of_column : Column → ℕ
byte_of_column c = 3 * up (c.p +ℤ pos 1) + up (c.q +ℤ pos 1)

-- the column of a byte: by 3, the quotient less 1 and the remainder less 1
unfoldable pub column_of_byte : ℕ → Column
column_of_byte b = record { p = pos (b / 3) -ℤ pos 1; q = pos (b % 3) -ℤ pos 1 }

-- the byte stores a digit −1, 0 or 1, in two's complement
abbrev pub stores_digit : ℕ → Bool
stores_digit b = leb (nat_abs (signed b)) 1

-- the byte stores a column: it is not above 8
abbrev pub stores_column : ℕ → Bool
stores_column b = leb b 8

-- the bytes of the n columns of two rows
abbrev pub packed_columns : ℕ → List ℕ → List ℕ → List ℕ
packed_columns n k l = map byte_of_column (columns_below n k l)

-- the bytes of one row of the columns of the first n bytes
abbrev pub unpacked_row : Two → ℕ → List ℕ → List ℕ
unpacked_row r n packed = map byte_of (row two r (map column_of_byte (take n packed)))

-- What a private contract of the code speaks of: the column of two digits, from their bytes.
use Rattle.std.specs.Prelude.{ℕ}
use Rattle.digits.specs.Byte.{signed}
use Rattle.digits.specs.Two.{Column}

-- the column of the digits that two bytes store
abbrev pub column_of : ℕ → ℕ → Column
column_of a b = record { p = signed a; q = signed b }

-- The digits that stand in buffers, a byte each, at the places below a length.
pub mod Zeros
pub mod Mapped
use Rattle.std.specs.Prelude.{List, map, ℕ, ℤ, take}
use Rattle.digits.specs.Byte.{signed}
use Rattle.digits.specs.Two.{Column, paired}

-- the row at the places below n
unfoldable pub row_below : ℕ → List ℕ → List ℤ
row_below n buffer = map signed (take n buffer)

-- the columns at the places below n: the row of one buffer over that of the other
unfoldable pub columns_below : ℕ → List ℕ → List ℕ → List Column
columns_below n k l = paired (row_below n k) (row_below n l)

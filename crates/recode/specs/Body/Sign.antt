-- A row of bytes that is given a sign.
use Rattle.std.specs.Prelude.{List, ◌++◌, map, ℕ, zero, suc, take, drop}
use Rattle.digits.specs.Byte.{turned}

-- the first places of a row with a sign: a plus leaves them, a minus turns the digit at each
abbrev pub signed_below : ℕ → ℕ → List ℕ → List ℕ
signed_below zero places row = row
signed_below (suc n) places row = map turned (take places row) ++ drop places row

-- What the private contracts of the code speak of: numbers whose bits are pairs 10.
use Rattle.std.specs.Prelude.{ℕ, zero, suc, ◌+◌, ◌*◌}

-- the number of so many pairs
unfoldable pub pairs : ℕ → ℕ
pairs zero = 0
pairs (suc n) = 4 * pairs n + 2

-- Each digit so far is its column's.
use Rattle.std.proofs.Common.{◌≡◌, ℕ, ◌<◌, get_or}
use Rattle.digits.specs.Byte.{byte_of}
use Rattle.digits.specs.Two.{P, Q, digit}
use Rattle.packing.specs.Packing.{column_of_byte}
use Rattle.packing.proofs.columns.unpack_all.Given as goal

abbrev pub invariant-loop-i : goal.invariant-loop-i
invariant-loop-i l =
    ((j : ℕ) → j < l.i → get_or l.k_digits j 0 ≡ byte_of (digit (column_of_byte (get_or l.packed j 0)) P))
    × ((j : ℕ) → j < l.i → get_or l.l_digits j 0 ≡ byte_of (digit (column_of_byte (get_or l.packed j 0)) Q))

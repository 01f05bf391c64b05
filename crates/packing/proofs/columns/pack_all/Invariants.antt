-- Each byte so far is its column's.
use Rattle.std.proofs.Common.{◌≡◌, ℕ, ◌<◌, get_or}
use Rattle.packing.specs.Body.{column_of}
use Rattle.packing.specs.Packing.{byte_of_column}
use Rattle.packing.proofs.columns.pack_all.Given as goal

abbrev pub invariant-loop-i : goal.invariant-loop-i
invariant-loop-i l = (j : ℕ) → j < l.i → get_or l.packed j 0 ≡ byte_of_column (column_of (get_or l.k_digits j 0) (get_or l.l_digits j 0))

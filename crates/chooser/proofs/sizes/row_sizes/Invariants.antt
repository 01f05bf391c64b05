-- `row_sizes` meets its contract. The loop's invariant: the sizes of the first i windows stand.
use Rattle.std.proofs.Common.{◌≡◌, ℕ, ◌+◌, ◌*◌, ◌<◌, length, get_or}
use Rattle.digits.specs.Scalar.{scalar}
use Rattle.chooser.specs.Body.Sizes.{none, row_size}
use Rattle.chooser.proofs.sizes.row_sizes.Given as goal

abbrev pub invariant-loop-i : goal.invariant-loop-i
invariant-loop-i l = (length l.size-items ≡ 16) × ((i : ℕ) → i < l.i → get_or l.size-items i none ≡ row_size l.limit (scalar l.k.scalar.bytes.now) (2 * i + 1))

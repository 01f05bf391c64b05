-- What was found holds of the bytes asked so far.
use Rattle.std.proofs.Common.{◌≡◌, ℕ, ◌<◌, Bool, take}
use Rattle.std.specs.List.{list_all}
use Rattle.packing.proofs.stored.all_store.Given as goal

abbrev pub invariant-loop-byte : goal.invariant-loop-byte
invariant-loop-byte g l =
    (p : ℕ → Bool) → ((b : ℕ) (r : Bool) → b < 256 → g.F.Fn.post l.stores (b, tt) r → r ≡ p b) → l.good ≡ list_all p (take l.byte-index l.bytes)

-- The running remainder as the code holds it: its low bits in a number, and the bytes above them.
use Rattle.std.specs.Prelude.{◌≡◌, List, ℕ, ◌+◌, ◌*◌, ◌^◌, ◌<◌, drop}
use Rattle.digits.specs.Scalar.{little}
use Rattle.recode.specs.declared.low.Low.{Low}

-- low + 2^bits × the bytes from `at` on
unfoldable pub remaining : List ℕ → Low → ℕ
remaining bytes s = s.low + 2 ^ s.bits * little (drop s.at bytes)

-- w is the four bytes from `at` on, with zeros past the end, as one number
abbrev pub Word : List ℕ → ℕ → ℕ → Type 0
Word bytes at w = (w < 2 ^ 32) × (w + 2 ^ 32 * little (drop (at + 4) bytes) ≡ little (drop at bytes))

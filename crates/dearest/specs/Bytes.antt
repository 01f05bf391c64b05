-- A number in so many bytes, the most significant first, zeros in front.
pub mod Scalar
use Rattle.std.specs.Prelude.{List, [], ◌∷◌, ◌++◌, ℕ, zero, suc, ◌/◌, ◌%◌}

-- the last byte is the remainder by 256, and the others are those of the quotient
unfoldable pub in_bytes : ℕ → ℕ → List ℕ
in_bytes zero c = []
in_bytes (suc n) c = in_bytes n (c / 256) ++ (c % 256 ∷ [])

-- Scalars: numbers in bytes, the most significant first, with a sign beside them, and their bit length.
pub mod Length
pub mod Value
pub mod Sized
pub mod Zeros
use Rattle.std.specs.Prelude.{◌≡◌, Bool, ◌&&◌, List, [], ◌∷◌, reverse, ℕ, zero, suc, ◌+◌, ◌*◌, ◌/◌, ◌≤◌, ◌<◌, ltb, leb, ℤ, pos, length, get_or}
use Rattle.digits.specs.Integer.{signed_by}
use Rattle.digits.specs.declared.limits.Limits.{Limits}

-- every element is a byte
abbrev pub Bytes : List ℕ → Type 0
Bytes s = (i : ℕ) → get_or s i 0 < 256

-- the number of a list of bytes, the least significant first
unfoldable pub little : List ℕ → ℕ
little [] = 0
little (b ∷ bs) = b + 256 * little bs

-- the number of a scalar's bytes
unfoldable pub scalar : List ℕ → ℕ
scalar s = little (reverse s)

-- the whole number of a scalar's bytes and of the sign beside them; zero bytes are zero with either sign
unfoldable pub signed_scalar : List ℕ → ℕ → ℤ
signed_scalar s sign = signed_by sign (pos (scalar s))

-- question 1: a scalar has 1 byte at least, and no more than the limits allow
abbrev pub sized : Limits → List ℕ → Bool
sized limits s = ltb 0 (length s) && leb (length s) limits.bytes

-- the bit length of n: the place of its top one bit plus 1, and 0 for zero. Halving n takes one off it; the first number
-- bounds how often
unfoldable pub bit_length_in : ℕ → ℕ → ℕ
bit_length_in zero n = 0
bit_length_in (suc f) zero = 0
bit_length_in (suc f) (suc n) = suc (bit_length_in f (suc n / 2))

unfoldable pub bit_length : ℕ → ℕ
bit_length n = bit_length_in n n

-- the bit length of n in two parts: 8 for each byte below its top one, and the bits of that one; for zero both are 0
pub record BitsOf (n below top : ℕ) : Type 0 where
  pub all : 8 * below + top ≡ bit_length n
  pub most : top ≤ 8
  pub none : top ≡ 0 → below ≡ 0

-- The byte of a digit, in two's complement, and the digit of a byte.
use Rattle.std.specs.Prelude.{cond, ℕ, ◌-◌, ◌%◌, ltb, ℤ, pos, negsuc}
use Rattle.digits.specs.Integer.{rem}

-- the byte of a digit: the digit itself, or 256 more where it is negative
unfoldable pub byte_of : ℤ → ℕ
byte_of d = rem d 256

-- the byte of the digit with its sign turned
abbrev pub turned : ℕ → ℕ
turned b = (256 - b) % 256

-- the digit of a byte: the byte itself, or 256 less from 128 on
abbrev pub signed : ℕ → ℤ
signed b = cond (ltb b 128) (pos b) (negsuc (255 - b))

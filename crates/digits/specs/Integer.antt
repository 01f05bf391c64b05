-- Whole numbers: their two parts, their sign, division by a natural number, and halving.
pub mod Parts
pub mod Congruent
pub mod Machine
pub mod Sign
use Rattle.std.specs.Prelude.{Bool, true, false, ℕ, zero, suc, ◌-◌, ◌/◌, ◌%◌, ℤ, pos, negsuc, neg_ℤ}

-- what z has above 0, and below it
abbrev pub up : ℤ → ℕ
up (pos n) = n
up (negsuc n) = 0

abbrev pub down : ℤ → ℕ
down (pos n) = 0
down (negsuc n) = suc n

-- z with a sign: 0 is plus and leaves it, any other number is minus and negates it
abbrev pub signed_by : ℕ → ℤ → ℤ
signed_by zero z = z
signed_by (suc n) z = neg_ℤ z

-- z is below 0
abbrev pub is_negative : ℤ → Bool
is_negative (pos n) = false
is_negative (negsuc n) = true

-- z divided by M, rounded down, and the remainder, from 0 to M − 1
abbrev pub quo : ℤ → ℕ → ℤ
quo (pos n) M = pos (n / M)
quo (negsuc n) M = negsuc (n / M)

abbrev pub rem : ℤ → ℕ → ℕ
rem (pos n) M = n % M
rem (negsuc n) M = M - suc (n % M)

-- half of z, rounded down
unfoldable pub half : ℤ → ℤ
half z = quo z 2

-- The code by a row's digit and its next one.
use Rattle.std.specs.Prelude.{cond, ℕ, ℤ}
use Rattle.digits.specs.Two.{is_zero}

-- the code of a digit, by the row's next one: 0 for the digit 0, else 1, and 2 where the next is not 0 either
abbrev pub by_next : ℤ → ℤ → ℕ
by_next d next = cond (is_zero d) 0 (cond (is_zero next) 1 2)

-- The window that bits make below equal ones, and where its digit stands.
use Rattle.std.specs.Prelude.{◌≡◌, cond, ℕ, ◌+◌, ◌-◌, ◌*◌, ◌/◌, ◌%◌, ◌^◌, ◌≤◌, ◌<◌, pos}
use Rattle.digits.specs.Byte.{byte_of}
use Rattle.digits.specs.Integer.{signed_by}
use Rattle.forms.specs.Residue.{width}
use Rattle.down.specs.declared.window.WindowDigit.{WindowDigit}
use Rattle.down.specs.Down.{beyond}

-- half of the w top bits of x, which has b bits, rounded up
abbrev pub size_of : ℕ → ℕ → ℕ → ℕ
size_of x b w = (x / 2 ^ (b - w) + 1) / 2

-- how many places the window m takes of them: W, or one fewer where the size is odd and not in the window
abbrev pub width_of : ℕ → ℕ → ℕ → ℕ
width_of m x b = cond (beyond m (pos (size_of x b (width m)))) (width m - 1) (width m)

-- the window r of the b bits of x among n: it is taken with the equal bits above it
pub record WindowOf (n m x b : ℕ) (r : WindowDigit) : Type 0 where
  pub taken : r.taken + b ≡ n + width_of m x b
  pub size : size_of x b (width_of m x b) ≡ 2 ^ r.zeros * r.odd
  pub odd : r.odd % 2 ≡ 1

-- where the digit of a window stands whose equal bits begin at a place
abbrev pub place_of : ℕ → WindowDigit → ℕ
place_of place r = place + 1 + r.zeros - r.taken

-- its byte
abbrev pub byte_for : WindowDigit → ℕ → ℕ
byte_for r sign = byte_of (signed_by sign (pos r.odd))

-- what is asked before it is stored in n places
pub record Placed (place : ℕ) (r : WindowDigit) (n : ℕ) : Type 0 where
  pub above : r.taken ≤ place + 1 + r.zeros
  pub within : place_of place r < n
  pub small : (1 ≤ r.odd) × (r.odd ≤ 32)
  pub near : place + 1 + r.zeros ≤ 1031

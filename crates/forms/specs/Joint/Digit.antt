-- Numbers that are alike but for a multiple, and a number as its digit and twice what is left.
use Rattle.std.specs.Prelude.{◌≡◌, ℕ, ◌+◌, ◌*◌, ℤ}
use Rattle.digits.specs.Integer.{up, down}

-- k is x and a − b
abbrev pub Alike : ℤ → ℤ → ℕ → ℕ → Type 0
Alike k x a b = up k + down x + b ≡ down k + up x + a

-- v is the digit d and twice w
abbrev pub Split : ℤ → ℤ → ℤ → Type 0
Split v d w = up v + (down d + 2 * down w) ≡ down v + (up d + 2 * up w)

-- The signed residue of an odd number: the odd r with −2^(w−1) < r < 2^(w−1) that leaves c − r divisible by 2^w.
pub mod Only
pub mod Width
use Rattle.std.specs.Prelude.{◌≡◌, cond, ℕ, suc, ◌+◌, ◌-◌, ◌%◌, ◌^◌, ◌<◌, ltb, ℤ, pos, ◌-ℤ◌, ◌*ℤ◌, neg_ℤ, nat_abs}
use Rattle.digits.specs.Integer.{rem}
use Rattle.digits.specs.Scalar.{bit_length}

-- z is divisible by M
abbrev pub Divides : ℕ → ℤ → Type 0
Divides M z = (q : ℤ) × (z ≡ pos M *ℤ q)

-- r is a residue of c for the width w, as 01 words it
pub record Residue (w : ℕ) (c r : ℤ) : Type 0 where
  pub odd : nat_abs r % 2 ≡ 1
  pub between : nat_abs r < 2 ^ (w - 1)
  pub divisible : Divides (2 ^ w) (c -ℤ r)

-- a remainder x by M, brought between −M/2 and M/2
abbrev pub centred : ℕ → ℕ → ℤ
centred M x = cond (ltb (x + x) M) (pos x) (neg_ℤ (pos (M - x)))

unfoldable pub residue : ℕ → ℤ → ℤ
residue w c = centred (2 ^ w) (rem c (2 ^ w))

-- W of a window m: the smallest number with m < 2^(W−1)
unfoldable pub width : ℕ → ℕ
width m = suc (bit_length m)

-- The width W of a window m, from the laws of the bit length.
use Rattle.std.specs.Prelude.{◌≡◌, ℕ, zero, suc, ◌-◌, ◌/◌, ◌^◌, ◌≤◌, ◌<◌}
use Rattle.std.proofs.Common.{ap, lt_of_not-le, sub-one, arith}
use Rattle.digits.specs.Scalar.{bit_length}
use Rattle.digits.specs.Scalar.Length.{below_length, length_least, length_step}
use Rattle.forms.specs.Residue.{width}

-- W is the smallest number with m < 2^(W−1)
pub width_least : (m : ℕ) → 1 ≤ m → (m < 2 ^ (width m - 1)) × ((v : ℕ) → m < 2 ^ (v - 1) → width m ≤ v)
unfolding width
width_least m h = (rw sub-one (below_length m), least)
  where
    least : (v : ℕ) → m < 2 ^ (v - 1) → suc (bit_length m) ≤ v
    least zero l = absurd (omega arith)
    least (suc v) l =
        let b : m < 2 ^ v = rw sub-one at l in omega (arith, length_least m v b)

-- k with W = k + 2: 2^k is the highest power of two within the window
pub record WidthIs (m : ℕ) : Type 0 where
  pub k : ℕ
  pub is : width m ≡ suc (suc k)
  pub within : 2 ^ k ≤ m
  pub past : m < 2 ^ suc k

-- every window has it
pub width_is : (m : ℕ) → 1 ≤ m → WidthIs m
unfolding width
width_is m h =
    record {
      k = bit_length (m / 2);
      is = ap suc step;
      within = omega (arith, lt_of_not-le {n = suc m} {m = 2 ^ bit_length (m / 2)} (λ l. few l));
      past = rw step at (below_length m);
    }
  where
    step : bit_length m ≡ suc (bit_length (m / 2))
    step = length_step m h

    few : m < 2 ^ bit_length (m / 2) → ⊥
    few l = omega (arith, step, length_least m (bit_length (m / 2)) l)

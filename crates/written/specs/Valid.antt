-- A valid plan: J, or I with two windows.
use Rattle.std.specs.Prelude.{ℕ, ◌≤◌}
use Rattle.std.proofs.Common.{arith}
use Rattle.sheet.specs.declared.Plan.{Plan}
use Rattle.sheet.specs.declared.Plan.TheVariants.{J, I}
use Rattle.sheet.specs.Sound.{Window}

-- the windows are odd, 1 to 31
pub data Valid : Plan → Type 0 where
  for_j : Valid J
  for_i : {m1 m2 : ℕ} → Window m1 → Window m2 → Valid (I m1 m2)

pub valid_rows : {m1 m2 : ℕ} → Valid (I m1 m2) → Window m1 × Window m2
valid_rows (for_i v w) = (v, w)

pub window_positive : {m : ℕ} → Window m → 1 ≤ m
window_positive w = omega (arith, w.odd)

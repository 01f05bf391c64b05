-- The places in use.
use Rattle.std.specs.Prelude.{◌≡◌, ◌≢◌, List, ℕ, ◌-◌, ◌≤◌, ◌<◌, length, get_or}

-- the places of s from n on hold 0, and the one below them does not
pub record UpTo (s : List ℕ) (n : ℕ) : Type 0 where
  pub most : n ≤ length s
  pub none : (i : ℕ) → n ≤ i → get_or s i 0 ≡ 0
  pub some : 0 < n → get_or s (n - 1) 0 ≢ 0

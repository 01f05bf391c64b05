-- The room that a call asks for.
use Rattle.std.specs.Prelude.{ℕ, ◌≤◌}

-- ── what stands where no question is missed ─────────────────────────────────────────────────

-- three buffers have room
pub record Rooms (n places places' room : ℕ) : Type 0 where
  pub first : n ≤ places
  pub second : n ≤ places'
  pub third : n ≤ room

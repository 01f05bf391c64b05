-- What the digits of a window come to, from its bits.
use Rattle.std.specs.Prelude.{ℤ, pos, ◌-ℤ◌}
use Prim.Native.Nat.{ℕ, ◌*◌, ◌^◌}
use Rattle.down.specs.Down.Bits.{near}

-- ── the digits of a window ──────────────────────────────────────────────────────────────────

-- what is left of u below place n
unfoldable pub low : ℕ → ℕ → ℤ
low u n = pos u -ℤ pos (2 ^ n * near u n)

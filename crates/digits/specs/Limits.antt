-- The sizes that 01 and 02 set, as one record, the code's own: an argument of every definition that has a limit.
use Rattle.std.specs.Prelude.{ℕ, ◌*◌, ◌≤◌}
use Rattle.std.proofs.Common.{arith}
use Rattle.digits.specs.declared.limits.Limits.{Limits}

-- the limits of the card
abbrev pub card : Limits
card = record { bytes = 66; figures = 132; doublings = 528; sheet = 16384 }

-- the limits of the gateway
abbrev pub gateway : Limits
gateway = record { bytes = 128; figures = 256; doublings = 1024; sheet = 32768 }

-- the bits of a scalar at most
abbrev pub bits : Limits → ℕ
bits limits = 8 * limits.bytes

-- limits that allow all that others allow
pub record Wider (narrow wide : Limits) : Type 0 where
  pub bytes : narrow.bytes ≤ wide.bytes
  pub figures : narrow.figures ≤ wide.figures
  pub doublings : narrow.doublings ≤ wide.doublings
  pub sheet : narrow.sheet ≤ wide.sheet

-- the gateway allows all that the card allows
pub gateway_wider : Wider card gateway
gateway_wider = record { bytes = omega arith; figures = omega arith; doublings = omega arith; sheet = omega arith }

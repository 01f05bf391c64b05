-- Limits that are large enough for the scalars that they allow: every written sheet can be spelled, read and accepted under them.
use Rattle.std.specs.Prelude.{◌+◌, ◌*◌, ◌^◌, ◌≤◌, ◌<◌}
use Rattle.std.proofs.Common.{le_refl, arith}
use Rattle.digits.specs.declared.limits.Limits.{Limits}
use Rattle.digits.specs.Limits.{card, gateway, bits}

pub record Enough (limits : Limits) : Type 0 where
  -- a scalar can be spelled
  pub some_figures : 1 ≤ limits.figures
  pub scalars : 2 ^ bits limits ≤ 16 ^ limits.figures
  -- its digits have a place more than its bits, and a D line for each but the top one
  pub doublings : bits limits ≤ limits.doublings
  -- the counts have at most four figures: 30 additions and 2 doublings in the table, two additions and a doubling for each place
  pub counts : 2 * bits limits + 32 < 10000
  -- the longest sheet has room
  pub sheet : 22 * bits limits + 2 * limits.figures + 385 ≤ limits.sheet

-- the card's limits are, for 528 bits
pub card_enough : Enough card
card_enough =
    record { some_figures = omega arith; scalars = le_refl (2 ^ 528); doublings = omega arith; counts = omega arith; sheet = omega arith }

-- and the gateway's, for 1,024
pub gateway_enough : Enough gateway
gateway_enough =
    record { some_figures = omega arith; scalars = le_refl (2 ^ 1024); doublings = omega arith; counts = omega arith; sheet = omega arith }

-- `new` meets its contract: the leading zeros and the bit length make 16.
use Rattle.std.specs.Prelude.{◌≤◌}
use Rattle.std.proofs.Common.{arith}
use Rattle.recode.proofs.Window.{half_shifted, window_length}
use Rattle.recode.proofs.digit.DigitRule.new.Goals.{After-get-m}
use Rattle.recode.proofs.digit.DigitRule.new.Goals as goal

most : (c : After-get-m) → c.get-m.result ≤ 31
most c = omega (arith, c.get-m.ensures.most, c.get-m.ensures.number)

pub overflow_shl-result : goal.overflow_shl-result
overflow_shl-result c = omega (arith, window_length c.get-m.result (most (goal.at.overflow_shl-result c).After-get-m))

pub invariant_of-result : goal.invariant_of-result
invariant_of-result c =
    let few = most (goal.at.invariant_of-result c).After-get-m in
    record { some = omega (arith, c.get-m.ensures.odd, c.get-m.ensures.number); most = few; is_half = half_shifted c.get-m.result few }

-- `word_at` meets its contract: four bytes, of which at least the last is 0 where the end is near.
use mathlib.Core.Path.{◌≡◌}
use Prim.Native.Nat.{◌+◌}
use native.Mathlib.Omega.{arith}
use lib.ListN.{get_or, get_or-eq_default}
use Rattle.recode.proofs.LowBits.{four_bytes}
use Rattle.recode.proofs.bits.word_at.Goals as goal

pub returns : goal.returns
returns c =
    let a = c.args in
    let past : get_or a.bytes.now (a.at + 3) 0 ≡ 0 = get_or-eq_default a.bytes.now 0 (omega (arith, c.if-at-bytes.false)) in
    (omega arith, four_bytes a.bytes.now a.at _ (omega (arith, past)))

-- `negate` meets its contract. The loop's invariant: the digits so far are turned.
use Rattle.std.specs.Prelude.{◌≡◌, ℕ, get_or}
use Rattle.std.proofs.Common.{arith}
use Rattle.std.proofs.lemmas.List.{get_or_default}
use Rattle.std.proofs.lemmas.List.Edits.{map_over_more}
use Rattle.digits.specs.Byte.{turned}
use Rattle.recode.proofs.sign.negate.Goals as goal

pub loop-byte-preserved : goal.loop-byte-preserved
loop-byte-preserved c =
    let byte : ℕ = get_or c.loop-byte.row c.loop-byte.byte-index 0 in
    let is : c.wrapping_neg.result ≡ turned byte = omega (arith, c.wrapping_neg.ensures) in
    rw is (map_over_more turned c.args.row.now c.loop-byte.row c.loop-byte.byte-index byte (omega arith) c.loop-byte.invariant (get_or_default c.loop-byte.row c.loop-byte.byte-index 0 byte (omega arith)))

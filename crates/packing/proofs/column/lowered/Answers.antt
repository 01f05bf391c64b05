-- `lowered` meets its contract: 255 more than n is 256 more than n less one.
use Rattle.std.proofs.Common.{◌+◌, ◌/◌, ◌%◌, pos, ◌-ℤ◌, sym, arith}
use Rattle.digits.specs.Byte.{byte_of}
use Rattle.digits.specs.Integer.Parts.{rem_only, difference}
use Rattle.packing.proofs.column.lowered.Goals as goal

pub returns : goal.returns
unfolding byte_of
returns c =
    let up = c.args.part + 255 in
    sym (rem_only (pos c.args.part -ℤ pos 1) 256 (up % 256) (up / 256) 1 (omega arith) (omega arith) (omega (arith, difference (pos c.args.part) (pos 1))))

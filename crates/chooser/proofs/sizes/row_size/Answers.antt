-- `row_size` meets its contract: the row call tells the size of the row (Measuring).
use Rattle.std.proofs.Common.{◌∙◌}
use Rattle.chooser.proofs.Measuring.{row_fits, row_measured}
use Rattle.chooser.proofs.sizes.row_size.Goals as goal

pub size_told-requires : goal.size_told-requires
size_told-requires c =
    let k = c.args.k.scalar in
    row_fits k.bytes.now c.args.m c.args.digits.now (rw (c.unsigned.ensures.0, c.unsigned.ensures.1) at c.row.ensures.answer) k.are_bytes

pub returns : goal.returns
returns c =
    let k = c.args.k in
    let window = c.requires.window in
    c.size_told.ensures
    ∙ row_measured k.scalar.bytes.now c.args.m c.args.digits.now (rw (c.unsigned.ensures.0, c.unsigned.ensures.1) at c.row.ensures.answer) k.some k.few window.0 window.1 c.requires.room

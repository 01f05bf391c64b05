-- `additions_of` meets its contract: the call for the plan's sheet tells them.
use Rattle.std.proofs.Common.{length, sym, ap, ◌∙◌, arith}
use Rattle.writer.specs.Call.{additions}
use Rattle.changes.proofs.Additions.{sheet_told}
use Rattle.changes.proofs.old.additions_of.Goals as goal

pub returns-in-Ok : goal.returns-in-Ok
returns-in-Ok c =
    let a = c.args in
    ap additions (sym c.in-Ok.is ∙ c.sheet_of.ensures.answer ∙ sheet_told a.k.bytes.now a.k.sign a.l.bytes.now a.l.sign (length a.buffer.now) c.requires.1 (omega arith) c.requires.0)

pub returns-in-Err : goal.returns-in-Err
returns-in-Err c =
    let a = c.args in
    ap additions (sym c.in-Err.is ∙ c.sheet_of.ensures.answer ∙ sheet_told a.k.bytes.now a.k.sign a.l.bytes.now a.l.sign (length a.buffer.now) c.requires.1 (omega arith) c.requires.0)

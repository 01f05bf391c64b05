-- `cheapest` meets its contract: the plan's question missed, or the sheet of the plan (CallAnswers).
use Rattle.std.specs.Prelude.{Err}
use Rattle.std.proofs.Common.{◌≡◌, rules, sym}
use Rattle.chooser.specs.Call.Met.{all_met}
use Rattle.chooser.proofs.CallAnswers.{refused, by_plan}
use Rattle.chooser.proofs.call.cheapest.Goals as goal

pub returns-in_err-plan : goal.returns-in_err-plan
returns-in_err-plan g c =
    let a = c.args in
    let is : c.from_residual.result ≡ Err c.in_err-plan.field-0.0 = search rules in
    let old = refused g.M.Machine.LIMITS a.k.bytes.now a.k.sign a.l.bytes.now a.l.sign a.sheet.now a.limit (sym c.in_err-plan.ensures.answer) in
    rw is (record { answer = old.answer; buffer = old.left_is; promised = old.promised; question = old.question })

pub returns : goal.returns
returns g c =
    let a = c.args in
    let limits = g.M.Machine.LIMITS in
    let (sizes, (low, chosen)) = all_met limits a.k.bytes.now a.l.bytes.now a.limit (sym c.in_ok-plan.ensures.answer) in
    let old =
    by_plan limits a.k.bytes.now a.k.sign a.l.bytes.now a.l.sign a.sheet.now a.limit g.met.M.WriteSheet.enough a.k.are_bytes a.l.are_bytes sizes low chosen
    c.sheet_of.ensures.answer c.sheet_of.ensures.buffer in
    record { answer = old.answer; buffer = old.left_is; promised = old.promised; question = old.question }

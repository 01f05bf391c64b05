-- `joint_within` meets its contract: the questions in order, and then each row of the bytes' columns is given its sign.
use Rattle.std.specs.Prelude.{Ok, pos, length}
use Rattle.std.proofs.Common.{ap, ◌∙◌, arith, leb-true}
use Rattle.digits.specs.Column.{row}
use Rattle.digits.specs.Column.Length.{row_length}
use Rattle.digits.specs.Scalar.{scalar}
use Rattle.digits.specs.Two.{P, Q, two}
use Rattle.forms.specs.Joint.{joint}
use Rattle.recode.specs.declared.answer.Written.{Written}
use Rattle.recode.specs.Body.Sign.{signed_below}
use Rattle.recode.proofs.Laws.Call.Joint.{written}
use Rattle.recode.proofs.Signed.{filled_holds, signed_columns, wrote_signed_columns}
use Rattle.recode.proofs.columns.joint_within.Goals as goal

pub give_sign-requires : goal.give_sign-requires
give_sign-requires c =
    let columns = joint (pos (scalar c.args.k.bytes.now)) (pos (scalar c.args.l.bytes.now)) in
    let w = c.write_joint-written in
    omega (arith, ap (λ (s : Written). s.length) w.ensures.answer, ap length w.ensures.first, row_length two P columns, filled_holds (row two P columns) c.args.k_digits.now)

pub give_sign-requires-2 : goal.give_sign-requires-2
give_sign-requires-2 c =
    let columns = joint (pos (scalar c.args.k.bytes.now)) (pos (scalar c.args.l.bytes.now)) in
    let w = c.write_joint-written in
    omega (arith, ap (λ (s : Written). s.length) w.ensures.answer, ap length w.ensures.second, row_length two Q columns, filled_holds (row two Q columns) c.args.l_digits.now)

pub returns : goal.returns
returns c =
    let k = c.args.k in
    let l = c.args.l in
    let w = c.write_joint-written in
    let n = w.result.length in
    let same = ap (λ (s : Written). s.length) w.ensures.answer in
    let signed = signed_columns k.bytes.now k.sign l.bytes.now l.sign in
    let old = written c.args.limits k.bytes.now k.sign l.bytes.now l.sign c.args.k_digits.now c.args.l_digits.now c.in_ok-check_scalars.ensures
    (omega (arith, leb-true _ _ c.in_ok-check_room.ensures, c.max.ensures)) (Ok w.result) c.give_sign.new.row c.give_sign-2.new.row
    (omega (arith, leb-true _ _ c.in_ok-check_room-2.ensures, c.max.ensures))
    (ap Ok w.ensures.answer ∙ wrote_signed_columns k.bytes.now k.sign l.bytes.now l.sign)
    (c.give_sign.ensures ∙ ap (signed_below k.sign n) w.ensures.first ∙ signed P n c.args.k_digits.now same)
    (c.give_sign-2.ensures ∙ ap (signed_below l.sign n) w.ensures.second ∙ signed Q n c.args.l_digits.now same)
    in
    record { answer = old.0; first = old.1.0; second = old.1.1.0; promised = old.1.1.1.0; question = old.1.1.1.1 }

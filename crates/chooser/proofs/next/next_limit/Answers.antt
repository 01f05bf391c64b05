-- `next_limit` meets its contract: the questions in order, and then the limit of the bytes.
use Rattle.std.proofs.Common.{rules, sym, subst}
use Rattle.digits.specs.Limits.{card}
use Rattle.digits.specs.Scalar.{signed_scalar}
use Rattle.written.specs.Enough.{card_enough}
use Rattle.chooser.specs.Next.{NextLimit, next_answer, NextPromised}
use Rattle.chooser.proofs.NextAnswers.{the_limit}
use Rattle.chooser.proofs.Laws.Next.Promised.{next_promised}
use Rattle.chooser.proofs.next.next_limit.Goals as goal

pub returns-in_err-check_scalars-clause-answer : goal.returns-in_err-check_scalars-clause-answer
unfolding next_answer
returns-in_err-check_scalars-clause-answer c = search rules

pub returns-in_err-check_limit-clause-answer : goal.returns-in_err-check_limit-clause-answer
unfolding next_answer
returns-in_err-check_limit-clause-answer c = search rules

pub returns-clause-answer : goal.returns-clause-answer
returns-clause-answer c =
    let a = c.args in
    the_limit card a.k.bytes.now a.k.sign a.l.bytes.now a.l.sign a.limit c.in_ok-check_scalars.ensures c.in_ok-check_limit.ensures c.next_of.ensures

pub returns-clause-promised : goal.returns-clause-promised
returns-clause-promised c =
    let a = c.args in
    subst (λ (x : NextLimit). NextPromised card x (signed_scalar a.k.bytes.now a.k.sign) (signed_scalar a.l.bytes.now a.l.sign) a.limit)
    (sym (the_limit card a.k.bytes.now a.k.sign a.l.bytes.now a.l.sign a.limit c.in_ok-check_scalars.ensures c.in_ok-check_limit.ensures c.next_of.ensures))
    (next_promised card a.k.bytes.now a.k.sign a.l.bytes.now a.l.sign a.limit card_enough a.k.are_bytes a.l.are_bytes)

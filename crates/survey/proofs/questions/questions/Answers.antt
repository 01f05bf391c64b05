-- `questions` meets its contract: each question is one line of Judged.
use Rattle.std.proofs.lemmas.Result.{err_from_is_err_and}
use Rattle.survey.proofs.Judged.{answer_7, answer_8, answer_9}
use Rattle.survey.proofs.questions.questions.Goals as goal

pub returns-in_err-ask : goal.returns-in_err-ask
returns-in_err-ask c = λ limits ls a.
    let p = err_from_is_err_and c.from_residual.result c.from_residual.ensures.1 in rw (p.1, p.2) (answer_7 a _ c.in_err-ask.ensures)

pub returns-in_err-ask-2 : goal.returns-in_err-ask-2
returns-in_err-ask-2 c = λ limits ls a.
    let p = err_from_is_err_and c.from_residual-in_err-ask-2.result c.from_residual-in_err-ask-2.ensures.1 in rw (p.1, p.2) (answer_8 a c.in_ok-ask.ensures _ c.in_err-ask-2.ensures)

pub returns-in_err-ask-3 : goal.returns-in_err-ask-3
returns-in_err-ask-3 c = λ limits ls a.
    let p = err_from_is_err_and c.from_residual-in_err-ask-3.result c.from_residual-in_err-ask-3.ensures.1 in rw (p.1, p.2) (answer_9 a c.in_ok-ask.ensures c.in_ok-ask-2.ensures _ c.in_err-ask-3.ensures)

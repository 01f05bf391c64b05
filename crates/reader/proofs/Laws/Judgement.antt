-- An answer of 01 is that of one answer of the code alone, so the contract of `read` fixes what it returns. Assumes nothing.
use Rattle.std.specs.Prelude.{◌≡◌, refl}
use Rattle.std.proofs.Common.{sym, ap, ◌∙◌}
use Rattle.std.specs.declared.result.Result.{Result}
use Rattle.std.specs.declared.result.Result.TheVariants.{Ok, Err}
use Rattle.sheet.specs.Answer.{Answer, accepted, refused}
use Rattle.survey.specs.declared.fault.Question.{Question}
use Rattle.survey.specs.declared.fault.Fault.{Fault}
use Rattle.survey.proofs.Laws.Question.{question_of, question_number}
use Rattle.reader.specs.Judgement.{judgement}

-- the answer of the code for an answer of 01
told : Answer → Result (Unit {0}) Fault
told accepted = Ok tt
told (refused n line) = Err (record { question = question_of n; line = line })

told_judgement : (r : Result (Unit {0}) Fault) → told (judgement r) ≡ r
unfolding told
told_judgement (Ok met) = refl
told_judgement (Err f) = ap (λ (q : Question). Err (record { question = q; line = f.line })) (question_number f.question)

pub judgement_only : (r s : Result (Unit {0}) Fault) → judgement r ≡ judgement s → r ≡ s
judgement_only r s e = sym (told_judgement r) ∙ ap told e ∙ told_judgement s

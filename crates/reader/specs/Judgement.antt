-- What the reader answers, as 01 has it: for each case of the code's answer the number of the question and the line.
use Rattle.std.specs.declared.result.Result.{Result}
use Rattle.std.specs.declared.result.Result.TheVariants.{Ok, Err}
use Rattle.sheet.specs.Answer.{Answer, accepted, refused}
use Rattle.survey.specs.Question.{number}
use Rattle.survey.specs.declared.fault.Fault.{Fault}

-- 01's answer for an answer of the code
abbrev pub judgement : Result (Unit {0}) Fault → Answer
judgement (Ok met) = accepted
judgement (Err f) = refused (number f.question) f.line

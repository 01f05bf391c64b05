-- Each question has a number of its own: what says the number says the question. Assumes nothing.
use Rattle.std.specs.Prelude.{◌≡◌, refl, ℕ, eqb, cond}
use Rattle.std.proofs.Common.{sym, ap, ◌∙◌}
use Rattle.survey.specs.declared.fault.Question as Asking
use Rattle.survey.specs.Question.{number}

-- the question of a number
abbrev pub question_of : ℕ → Asking.Question
question_of n = cond (eqb n 5) Asking.TheVariants.Length (cond (eqb n 6) Asking.TheVariants.Spelling (cond (eqb n 7) Asking.TheVariants.Plan (cond (eqb n 8) Asking.TheVariants.Steps (cond (eqb n 9) Asking.TheVariants.Doublings (cond (eqb n 10) Asking.TheVariants.Counts Asking.TheVariants.Total)))))

pub question_number : (q : Asking.Question) → question_of (number q) ≡ q
question_number Asking.TheVariants.Length = refl
question_number Asking.TheVariants.Spelling = refl
question_number Asking.TheVariants.Plan = refl
question_number Asking.TheVariants.Steps = refl
question_number Asking.TheVariants.Doublings = refl
question_number Asking.TheVariants.Counts = refl
question_number Asking.TheVariants.Total = refl

pub number_only : (q r : Asking.Question) → number q ≡ number r → q ≡ r
number_only q r e = sym (question_number q) ∙ ap question_of e ∙ question_number r

-- The reader's questions by their numbers.
use Rattle.std.specs.Prelude.{ℕ}
use Rattle.survey.specs.declared.fault.Question as Asking

-- the number of a question
abbrev pub number : Asking.Question → ℕ
number Asking.TheVariants.Length = 5
number Asking.TheVariants.Spelling = 6
number Asking.TheVariants.Plan = 7
number Asking.TheVariants.Steps = 8
number Asking.TheVariants.Doublings = 9
number Asking.TheVariants.Counts = 10
number Asking.TheVariants.Total = 11

-- What the pass over a sheet answers: the first of the questions 5 to 10 that a sheet misses, or that only question 11 is left.
pub mod State
pub mod Total
pub mod Scan
use Rattle.std.specs.Prelude.{◌≡◌, List, ◌∷◌, ℕ, ◌*◌, ◌≤◌, pos}
use Rattle.digits.specs.Two.{Two, P, Q, digit}
use Rattle.digits.specs.declared.limits.Limits.{Limits}
use Rattle.digits.specs.Limits.{gateway}
use Rattle.sheet.specs.Line.{Header, Line, header}
use Rattle.sheet.specs.Spelling.{lines}
use Rattle.sheet.specs.Questions.{result, wrong}
use Rattle.sheet.specs.Answer.{Answer, accepted, refused, ask, heading, judged, answer}
use Rattle.survey.specs.Sum.{limbs_of, most, Holds}
use Rattle.survey.specs.Survey.State.{claimed_by}
use Rattle.survey.specs.Survey.Total.{total}
use Rattle.survey.specs.Question.{number}
use Rattle.survey.specs.declared.fault.Fault.{Fault}
use Rattle.survey.specs.declared.questions.Sums.{Sums}
use Rattle.std.specs.declared.result.Result.{Result}
use Rattle.std.specs.declared.result.Result.TheVariants.{Ok, Err}

-- limits that the numbers of the pass and of the comparison have room for
pub record Held (limits : Limits) : Type 0 where
  pub figures : 1 ≤ limits.figures
  pub scalars : limits.figures ≤ 4 * limbs_of limits
  pub doublings : limits.doublings ≤ gateway.doublings
  pub sheet : limits.sheet ≤ gateway.sheet

-- question 11
abbrev pub last : List Line → Answer
last ls = ask 11 (wrong (heading ls) ls) accepted

-- of these lines, only question 11 is left; by the D lines that their header claims, their steps come to the result
pub record LastLeft (limits : Limits) (ls : List Line) : Type 0 where
  pub claim : (r : Two) → total r (claimed_by limits (heading ls)) (pos 0) ls ≡ digit (result ls) r
  pub answers : judged limits (heading ls) ls ≡ last ls

-- an answer is this refusal, by one of the questions 5 to 10
pub record Refuses (a : Answer) (f : Fault) : Type 0 where
  pub answers : a ≡ refused (number f.question) f.line
  pub early : number f.question ≤ 10

-- questions 6 to 10
abbrev pub JudgedBy : Limits → List Line → Result (Unit {0}) Fault → Type 0
JudgedBy limits ls (Ok met) = LastLeft limits ls
JudgedBy limits ls (Err f) = Refuses (judged limits (heading ls) ls) f

-- of a sheet only question 11 is left
pub record Clear (limits : Limits) (s : List ℕ) : Type 0 where
  pub head : Header
  pub rest : List Line
  pub heads : lines limits s ≡ header head ∷ rest
  pub answers : answer limits s ≡ last (lines limits s)

-- questions 5 to 10
abbrev pub Surveyed : Limits → List ℕ → Result (Unit {0}) Fault → Type 0
Surveyed limits s (Ok met) = Clear limits s
Surveyed limits s (Err f) = Refuses (answer limits s) f

-- the limbs hold the result's number for a row
abbrev pub RowIn : Limits → Two → List ℕ → List ℕ → Type 0
RowIn limits r s xs = Holds (limbs_of limits) most xs (digit (result (lines limits s)) r)

-- where the questions are met
abbrev pub ResultIn : Limits → Two → List ℕ → Result (Unit {0}) Fault → List ℕ → Type 0
ResultIn limits r s (Ok met) xs = RowIn limits r s xs
ResultIn limits r s (Err f) xs = Unit {0}

-- both: the questions, and where they are met the two sums
abbrev pub ReadBy : {n : ℕ} → Limits → List ℕ → Result (Sums n) Fault → Type 0
ReadBy limits s (Ok sums) = Clear limits s × (RowIn limits P s sums.p × RowIn limits Q s sums.q)
ReadBy limits s (Err f) = Refuses (answer limits s) f

-- What the pass over the lines finds: the first line out of place, or what each of the questions 7 to 10 is answered.
use Rattle.std.specs.Prelude.{◌≡◌, List, ◌∷◌, ℕ, ◌+◌, pos}
use Rattle.std.proofs.Math.Option.{Option, none, some}
use Rattle.digits.specs.Two.{Two}
use Rattle.digits.specs.declared.limits.Limits.{Limits}
use Rattle.sheet.specs.declared.Plan.{Plan}
use Rattle.sheet.specs.Line.{Header, Line, plan, header}
use Rattle.sheet.specs.Questions.{misplaced, off_plan, disallowed, excess, additions, doublings}
use Rattle.lines.specs.Coded.{coded_header}
use Rattle.survey.specs.Survey.State.{found, misplaced_from, off_plan_from, disallowed_in, excess_in}
use Rattle.survey.specs.Sum.{most, Holds}
use Rattle.survey.specs.Survey.Total.{total}
use Rattle.lines.specs.declared.header.Header as header_of
use Rattle.survey.specs.declared.state.State.{State}
use Rattle.survey.specs.declared.fault.Fault.{Fault}
use Rattle.survey.specs.declared.fault.Question.{Question}
use Rattle.survey.specs.declared.fault.Question.TheVariants.{Spelling}
use Rattle.std.specs.declared.result.Result.{Result}
use Rattle.std.specs.declared.result.Result.TheVariants.{Ok, Err}

-- by the plan, the state s with the lines ls to come answers what the state r holds
pub record Reached (plan : Plan) (s : State) (ls : List Line) (r : State) : Type 0 where
  pub misplaced : misplaced_from s ls ≡ none
  pub off_plan : off_plan_from plan s ls ≡ found r.tables.fault
  pub disallowed : disallowed_in plan s ls ≡ found r.steps.fault
  pub excess : excess_in s ls ≡ found r.doubles.fault
  pub additions : s.additions + additions ls ≡ r.additions
  pub doublings : s.doublings + doublings ls ≡ r.doublings

-- a question is missed, at the line where it finds a fault
abbrev pub Missed : Question → Option ℕ → Fault → Type 0
Missed q o f = (f.question ≡ q) × (o ≡ some f.line)

abbrev pub Asked : Question → Option ℕ → Result (Unit {0}) Fault → Type 0
Asked q o (Ok met) = o ≡ none
Asked q o (Err f) = Missed q o f

abbrev pub Scanned : Plan → State → List Line → Result State Fault → Type 0
Scanned plan s ls (Ok r) = Reached plan s ls r
Scanned plan s ls (Err f) = Missed Spelling (misplaced_from s ls) f

-- at the end of the lines, c limbs hold what these come to
abbrev pub Summed : ℕ → Two → State → List Line → Result State Fault → List ℕ → Type 0
Summed c r s ls (Ok t) xs = Holds c most xs (total r s.places (pos 0) ls)
Summed c r s ls (Err f) xs = Unit {0}

-- the lines have a header, and to the questions 7 to 10 they answer what the state r holds
pub record Answered (limits : Limits) (ls : List Line) (head : header_of.Header) (r : State) : Type 0 where
  pub h : Header
  pub rest : List Line
  pub is : ls ≡ header h ∷ rest
  pub coded : head ≡ coded_header h
  pub misplaced : misplaced ls ≡ none
  pub off_plan : off_plan h ls ≡ found r.tables.fault
  pub disallowed : disallowed (plan h) ls ≡ found r.steps.fault
  pub excess : excess limits ls ≡ found r.doubles.fault
  pub additions : additions ls ≡ r.additions
  pub doublings : doublings ls ≡ r.doublings

-- the questions 7, 8 and 9 are met
pub record Faultless (r : State) : Type 0 where
  pub tables : found r.tables.fault ≡ none
  pub steps : found r.steps.fault ≡ none
  pub doubles : found r.doubles.fault ≡ none

-- The answer to a sheet, and when it is accepted for k and l.
use Rattle.std.specs.Prelude.{◌≡◌, List, [], ◌∷◌, ℕ, ℤ, pos}
use Rattle.std.proofs.Math.Option.{Option, none, some}
use Rattle.digits.specs.declared.limits.Limits.{Limits}
use Rattle.sheet.specs.Plan.{slots}
use Rattle.sheet.specs.Line.{interleaved, Header, plan, Line, header, table, load, double, add, end, misspelled}
use Rattle.sheet.specs.Spelling.{lines}
use Rattle.sheet.specs.Questions.{too_long, misplaced, off_plan, disallowed, excess, additions, miscounted, wrong}

-- what the reader answers
pub data Answer : Type 0 where
  accepted : Answer
  refused : ℕ → ℕ → Answer  -- the number of the question, and the line

-- a question: where a line is at fault, its number; else what comes next
abbrev pub ask : ℕ → Option ℕ → Answer → Answer
ask q none next = next
ask q (some n) next = refused q n

-- in place of a header that is missing; question 6 then answers
abbrev pub no_header : Header
no_header =
    record { kind = interleaved; m1 = 0; m2 = 0; slots = 0; additions = 0; doublings = 0; k = pos 0; l = pos 0 }

-- the header of a sheet
abbrev pub heading : List Line → Header
heading (header h ∷ ls) = h
heading (table t ∷ ls) = no_header
heading (load t ∷ ls) = no_header
heading (double ∷ ls) = no_header
heading (add t ∷ ls) = no_header
heading (end ∷ ls) = no_header
heading (misspelled ∷ ls) = no_header
heading [] = no_header

-- the questions to the lines, in order
unfoldable pub judged : Limits → Header → List Line → Answer
judged limits h ls =
    ask 6 (misplaced ls)
    (ask 7 (off_plan h ls)
    (ask 8 (disallowed (plan h) ls)
    (ask 9 (excess limits ls)
    (ask 10 (miscounted h ls)
    (ask 11 (wrong h ls)
    accepted)))))

-- the answer to a sheet
unfoldable pub answer : Limits → List ℕ → Answer
answer limits s = ask 5 (too_long limits s) (judged limits (heading (lines limits s)) (lines limits s))

-- s is accepted for k and l: every question is met and the header carries k and l
pub record Accepted (limits : Limits) (s : List ℕ) (k l : ℤ) : Type 0 where
  pub met : answer limits s ≡ accepted
  pub carries_k : (heading (lines limits s)).k ≡ k
  pub carries_l : (heading (lines limits s)).l ≡ l

-- the slots that a sheet needs are those of its plan
unfoldable pub sheet_slots : Limits → List ℕ → ℕ
sheet_slots limits s = slots (plan (heading (lines limits s)))

-- its additions are counted from its lines
unfoldable pub sheet_additions : Limits → List ℕ → ℕ
sheet_additions limits s = additions (lines limits s)

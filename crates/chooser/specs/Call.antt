-- What the call for the cheapest sheet answers and leaves in the buffer it is lent, for all input; and what it promises of the
-- sheet (demand 3). And the same of the call for its plan.
pub mod Met
use Rattle.std.specs.Prelude.{◌≡◌, ◌&&◌, cond, List, [], ◌∷◌, ℕ, ◌≤◌, ℤ, pos, length, take, Result, Ok, Err}
use Rattle.digits.specs.declared.limits.Limits.{Limits}
use Rattle.digits.specs.Missed.{missed, number_of}
use Rattle.digits.specs.declared.missed.Missed.{Missed}
use Rattle.digits.specs.declared.missed.Missed.TheVariants.{BadScalar, NoRoom, BadLimit}
use Rattle.digits.specs.Scalar.{scalar, signed_scalar, sized}
use Rattle.sheet.specs.Answer.{Accepted, heading, sheet_slots, sheet_additions}
use Rattle.sheet.specs.Digits.{columns}
use Rattle.sheet.specs.declared.Plan.{Plan}
use Rattle.sheet.specs.Line.{plan}
use Rattle.sheet.specs.Plan.{is_limit}
use Rattle.sheet.specs.Spelling.{lines}
use Rattle.written.specs.Written.{digits, written_doublings}
use Rattle.writer.specs.declared.answer.Sheet.{Sheet}
use Rattle.writer.specs.Call.{roomy, wrote, left}
use Rattle.chooser.specs.Cheapest.{cheapest_plan, First, cheapest}

-- ── the plan ────────────────────────────────────────────────────────────────────────────────

-- what the call answers: the plan, or the question missed
abbrev pub Choice : Type 0
Choice = Result Plan Missed

-- the number of the question missed, 0 where none is
abbrev pub choice_number : Choice → ℕ
choice_number = number_of

-- the questions: 1 of both scalars; 4. is the limit at most 31?
abbrev pub choice_question : Limits → List ℕ → List ℕ → ℕ → ℕ
choice_question limits k l limit = missed ((1, sized limits k) ∷ (1, sized limits l) ∷ (4, is_limit limit) ∷ [])

-- the answer: the first question missed, or the plan, which the signs of the scalars do not change (`plan_signs`)
unfoldable pub choice_answer : Limits → List ℕ → List ℕ → ℕ → Choice
choice_answer limits k l limit =
    cond (sized limits k && sized limits l)
    (cond (is_limit limit) (Ok (cheapest_plan (pos (scalar k)) (pos (scalar l)) limit)) (Err BadLimit))
    (Err BadScalar)

-- what the call promises: a plan comes before every other within the limit
abbrev pub ChoicePromised : Choice → ℤ → ℤ → ℕ → Type 0
ChoicePromised (Ok p) k l limit = First k l limit p
ChoicePromised (Err e) k l limit = Unit {0}

-- ── its sheet ───────────────────────────────────────────────────────────────────────────────

-- the questions: 1 of both scalars; 4; 3
abbrev pub cheapest_question : Limits → List ℕ → List ℕ → ℕ → ℕ → ℕ
cheapest_question limits k l limit room = missed ((1, sized limits k) ∷ (1, sized limits l) ∷ (4, is_limit limit) ∷ (3, roomy limits room) ∷ [])

-- the answer: the first question missed, or the sheet
unfoldable pub cheapest_answer : Limits → List ℕ → ℕ → List ℕ → ℕ → ℕ → ℕ → Result Sheet Missed
cheapest_answer limits k k_sign l l_sign limit room =
    cond (sized limits k && sized limits l)
    (cond (is_limit limit) (cond (roomy limits room) (wrote (cheapest_plan (signed_scalar k k_sign) (signed_scalar l l_sign) limit) (signed_scalar k k_sign) (signed_scalar l l_sign)) (Err NoRoom)) (Err BadLimit))
    (Err BadScalar)

-- the buffer after the call: the cheapest sheet, and behind it what was lent; as lent where a question was missed
unfoldable pub cheapest_buffer : Limits → List ℕ → ℕ → List ℕ → ℕ → ℕ → List ℕ → List ℕ
cheapest_buffer limits k k_sign l l_sign limit buffer =
    left (cheapest_answer limits k k_sign l l_sign limit (length buffer)) (cheapest (signed_scalar k k_sign) (signed_scalar l l_sign) limit) buffer

-- what demand 3 asks of a sheet s for k and l under a limit that is said to have a additions
pub record Cheapest (limits : Limits) (s : List ℕ) (k l : ℤ) (limit a : ℕ) : Type 0 where
  -- its plan comes before every other within the limit, and its digits are 01's of that plan
  pub planned : First k l limit (plan (heading (lines limits s)))
  pub digits_are : columns (lines limits s) ≡ digits (plan (heading (lines limits s))) k l
  pub accepted : Accepted limits s k l
  pub within : sheet_slots limits s ≤ limit
  -- a additions: its header states them, and its lines have them
  pub stated : (heading (lines limits s)).additions ≡ a
  pub counted : sheet_additions limits s ≡ a
  -- and its header states the doublings by which the plan was compared
  pub doubled : (heading (lines limits s)).doublings ≡ written_doublings (plan (heading (lines limits s))) k l
  -- every sheet that is accepted under the same limits for k and l within the limit, from anybody, has at least as many
  pub least : (t : List ℕ) → Accepted limits t k l → sheet_slots limits t ≤ limit → a ≤ sheet_additions limits t

-- what the call promises: where it has written n bytes, they are such a sheet
abbrev pub Promised : Limits → Result Sheet Missed → List ℕ → ℤ → ℤ → ℕ → Type 0
Promised limits (Ok s) buffer k l limit = Cheapest limits (take s.length buffer) k l limit s.additions
Promised limits (Err e) buffer k l limit = Unit {0}

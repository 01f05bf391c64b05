-- What the calls for the sheet of a named plan answer and leave in the buffer they are lent, for all input; and what they promise
-- of the sheet.
pub mod Kept
pub mod Met
use Rattle.std.specs.Prelude.{◌≡◌, Bool, ◌&&◌, cond, List, [], ◌∷◌, ◌++◌, ℕ, leb, ℤ, length, take, drop, Result, Ok, Err}
use Rattle.digits.specs.declared.limits.Limits.{Limits}
use Rattle.digits.specs.Missed.{missed, number_of}
use Rattle.digits.specs.declared.missed.Missed.{Missed}
use Rattle.digits.specs.declared.missed.Missed.TheVariants.{BadScalar, BadWindow, NoRoom}
use Rattle.digits.specs.Row.{is_window}
use Rattle.digits.specs.Scalar.{signed_scalar, sized}
use Rattle.digits.specs.Two.{Column}
use Rattle.sheet.specs.declared.Plan.{Plan}
use Rattle.sheet.specs.declared.Plan.TheVariants.{J, I}
use Rattle.sheet.specs.Answer.{Accepted, sheet_slots, sheet_additions}
use Rattle.sheet.specs.Plan.{slots}
use Rattle.written.specs.Written.{digits, sheet_of, additions_of, written}
use Rattle.writer.specs.declared.answer.Sheet.{Sheet}
use Rattle.writer.specs.Rows.{Rows, Down, columns_by}

-- what a call answers: what was written, or the question missed
abbrev pub SheetAnswer : Type 0
SheetAnswer = Result Sheet Missed

-- the number of the question missed, 0 where none is
abbrev pub number : SheetAnswer → ℕ
number = number_of

-- how many bytes were written
abbrev pub bytes_written : SheetAnswer → ℕ
bytes_written (Ok s) = s.length
bytes_written (Err e) = 0

-- the sheet's additions
abbrev pub additions : SheetAnswer → ℕ
additions (Ok s) = s.additions
additions (Err e) = 0

-- a sheet of n bytes and a additions, and the answer of a call that has written it
abbrev pub of_size : ℕ → ℕ → Sheet
of_size n a = record { length = n; additions = a }

abbrev pub wrote_size : ℕ → ℕ → SheetAnswer
wrote_size n a = Ok (of_size n a)

-- 3. has the sheet buffer as many bytes as a sheet may have?
abbrev pub roomy : Limits → ℕ → Bool
roomy limits room = leb limits.sheet room

-- the length and the additions of the sheet of columns for k and l, and the answer of a call that has written it
abbrev pub columns_size : Plan → List Column → ℤ → ℤ → Sheet
columns_size p cs k l = of_size (length (sheet_of p cs k l)) (additions_of p cs k l)

abbrev pub wrote_columns : Plan → List Column → ℤ → ℤ → SheetAnswer
wrote_columns p cs k l = Ok (columns_size p cs k l)

-- and of one that has written the sheet of a plan for k and l
abbrev pub wrote : Plan → ℤ → ℤ → SheetAnswer
wrote p k l = wrote_columns p (digits p k l) k l

-- the buffer after a call: the sheet, and behind it what was lent; as lent where a question was missed
abbrev pub left : SheetAnswer → List ℕ → List ℕ → List ℕ
left (Ok w) s buffer = s ++ drop (length s) buffer
left (Err e) s buffer = buffer

-- the sheet s of a plan is accepted for k and l, and a are its additions
pub record Promised (limits : Limits) (p : Plan) (k l : ℤ) (a : ℕ) (s : List ℕ) : Type 0 where
  pub accepted : Accepted limits s k l
  pub additions_are : sheet_additions limits s ≡ a
  pub slots_are : sheet_slots limits s ≡ slots p

-- where n bytes were written, they are such a sheet
abbrev pub SheetPromised : Limits → Plan → ℤ → ℤ → SheetAnswer → List ℕ → Type 0
SheetPromised limits p k l (Ok w) buffer = Promised limits p k l w.additions (take w.length buffer)
SheetPromised limits p k l (Err e) buffer = Unit {0}

-- ── plan J ──────────────────────────────────────────────────────────────────────────────────

-- the questions: 1 of both scalars; 3
abbrev pub j_question : Limits → List ℕ → List ℕ → ℕ → ℕ
j_question limits k l room = missed ((1, sized limits k) ∷ (1, sized limits l) ∷ (3, roomy limits room) ∷ [])

-- the answer: the first question missed, or the sheet
unfoldable pub j_answer : Limits → List ℕ → ℕ → List ℕ → ℕ → ℕ → SheetAnswer
j_answer limits k k_sign l l_sign room =
    cond (sized limits k && sized limits l) (cond (roomy limits room) (wrote J (signed_scalar k k_sign) (signed_scalar l l_sign)) (Err NoRoom)) (Err BadScalar)

unfoldable pub j_buffer : Limits → List ℕ → ℕ → List ℕ → ℕ → List ℕ → List ℕ
j_buffer limits k k_sign l l_sign buffer =
    left (j_answer limits k k_sign l l_sign (length buffer)) (written J (signed_scalar k k_sign) (signed_scalar l l_sign)) buffer

-- ── plan I ──────────────────────────────────────────────────────────────────────────────────

-- the questions: 1 of both scalars; 2 of both windows; 3
abbrev pub i_question : Limits → List ℕ → List ℕ → ℕ → ℕ → ℕ → ℕ
i_question limits k l m1 m2 room =
    missed ((1, sized limits k) ∷ (1, sized limits l) ∷ (2, is_window m1) ∷ (2, is_window m2) ∷ (3, roomy limits room) ∷ [])

-- the answer: the first question missed, or the sheet of the columns taken
abbrev pub columns_answer : Limits → List ℕ → ℕ → List ℕ → ℕ → ℕ → ℕ → List Column → ℕ → SheetAnswer
columns_answer limits k k_sign l l_sign m1 m2 cs room =
    cond (sized limits k && sized limits l)
    (cond (is_window m1 && is_window m2) (cond (roomy limits room) (wrote_columns (I m1 m2) cs (signed_scalar k k_sign) (signed_scalar l l_sign)) (Err NoRoom)) (Err BadWindow))
    (Err BadScalar)

abbrev pub columns_buffer : Limits → List ℕ → ℕ → List ℕ → ℕ → ℕ → ℕ → List Column → List ℕ → List ℕ
columns_buffer limits k k_sign l l_sign m1 m2 cs buffer =
    left (columns_answer limits k k_sign l l_sign m1 m2 cs (length buffer)) (sheet_of (I m1 m2) cs (signed_scalar k k_sign) (signed_scalar l l_sign)) buffer

-- the columns are those of rows of a kind
abbrev pub rows_answer : Rows → Limits → List ℕ → ℕ → List ℕ → ℕ → ℕ → ℕ → ℕ → SheetAnswer
rows_answer rows limits k k_sign l l_sign m1 m2 room =
    columns_answer limits k k_sign l l_sign m1 m2 (columns_by rows m1 m2 (signed_scalar k k_sign) (signed_scalar l l_sign)) room

abbrev pub rows_buffer : Rows → Limits → List ℕ → ℕ → List ℕ → ℕ → ℕ → ℕ → List ℕ → List ℕ
rows_buffer rows limits k k_sign l l_sign m1 m2 buffer =
    columns_buffer limits k k_sign l l_sign m1 m2 (columns_by rows m1 m2 (signed_scalar k k_sign) (signed_scalar l l_sign)) buffer

-- 01's rows: the digits that the plan takes for k and l
unfoldable pub i_answer : Limits → List ℕ → ℕ → List ℕ → ℕ → ℕ → ℕ → ℕ → SheetAnswer
i_answer limits k k_sign l l_sign m1 m2 room =
    columns_answer limits k k_sign l l_sign m1 m2 (digits (I m1 m2) (signed_scalar k k_sign) (signed_scalar l l_sign)) room

unfoldable pub i_buffer : Limits → List ℕ → ℕ → List ℕ → ℕ → ℕ → ℕ → List ℕ → List ℕ
i_buffer limits k k_sign l l_sign m1 m2 buffer =
    columns_buffer limits k k_sign l l_sign m1 m2 (digits (I m1 m2) (signed_scalar k k_sign) (signed_scalar l l_sign)) buffer

-- the rows from the top down
unfoldable pub i_down_answer : Limits → List ℕ → ℕ → List ℕ → ℕ → ℕ → ℕ → ℕ → SheetAnswer
i_down_answer limits k k_sign l l_sign m1 m2 room = rows_answer Down limits k k_sign l l_sign m1 m2 room

unfoldable pub i_down_buffer : Limits → List ℕ → ℕ → List ℕ → ℕ → ℕ → ℕ → List ℕ → List ℕ
i_down_buffer limits k k_sign l l_sign m1 m2 buffer = rows_buffer Down limits k k_sign l l_sign m1 m2 buffer

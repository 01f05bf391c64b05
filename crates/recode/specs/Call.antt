-- What the row and joint calls answer and leave in the buffers they are lent, for all input; and what they promise of the digits
-- that stand there.
pub mod Short
pub mod Row
pub mod Joint
pub mod Lent
use Rattle.std.specs.Prelude.{◌≡◌, ◌≢◌, Bool, ◌&&◌, cond, List, [], ◌∷◌, ◌++◌, map, ℕ, suc, ◌+◌, ◌-◌, ◌*◌, ◌≤◌, max, leb, length, get_or, replicate, ℤ, pos, nat_abs, Result, Ok, Err}
use Rattle.digits.specs.Buffer.{row_below, columns_below}
use Rattle.digits.specs.Byte.{byte_of}
use Rattle.digits.specs.Column as Columns
use Rattle.digits.specs.declared.limits.Limits.{Limits}
use Rattle.digits.specs.Missed.{missed, number_of}
use Rattle.digits.specs.declared.missed.Missed.{Missed}
use Rattle.digits.specs.declared.missed.Missed.TheVariants.{BadScalar, BadWindow, NoRoom}
use Rattle.digits.specs.Row.{is_window, value, weight, Over}
use Rattle.digits.specs.Scalar.{signed_scalar, sized, bit_length}
use Rattle.digits.specs.Two.{Column, Two, P, Q, of, two}
use Rattle.forms.specs.Joint.{Keeps, Topped, joint}
use Rattle.forms.specs.Row.{RowRule, row}
use Rattle.recode.specs.declared.answer.Written.{Written}

-- what a call answers: what was written, or the question missed
abbrev pub Recoded : Type 0
Recoded = Result Written Missed

-- the number of the question missed, 0 where none is
abbrev pub number : Recoded → ℕ
number = number_of

-- how many places were written
abbrev pub places_written : Recoded → ℕ
places_written (Ok w) = w.length
places_written (Err e) = 0

-- how many of the digits written are not 0, and of a joint form how many of the columns are not zero
abbrev pub weight_written : Recoded → ℕ
weight_written (Ok w) = w.weight
weight_written (Err e) = 0

-- n places of the weight w, and the answer of a call that has written them
abbrev pub of_size : ℕ → ℕ → Written
of_size n w = record { length = n; weight = w }

abbrev pub wrote : ℕ → ℕ → Recoded
wrote n w = Ok (of_size n w)

-- the length and the weight of a row, and of columns
abbrev pub row_size : List ℤ → Written
row_size ds = of_size (length ds) (weight ds)

abbrev pub columns_size : List Column → Written
columns_size cs = of_size (length cs) (Columns.weight two cs)

-- the answer of a call that has written a row, and of one that has written columns
abbrev pub wrote_row : List ℤ → Recoded
wrote_row ds = Ok (row_size ds)

abbrev pub wrote_columns : List Column → Recoded
wrote_columns cs = Ok (columns_size cs)

-- 3. has the digit buffer at least 8 × bytes + 1 places?
abbrev pub roomy : ℕ → ℕ → Bool
roomy bytes places = leb (8 * bytes + 1) places

-- a buffer with the digits from place 0 on, and 0 at the unused places
abbrev pub filled : List ℤ → List ℕ → List ℕ
filled ds buffer = map byte_of ds ++ replicate (length buffer - length ds) 0

-- the buffer after a call: filled, or as lent where a question was missed
abbrev pub left : Recoded → List ℤ → List ℕ → List ℕ
left (Ok w) ds buffer = filled ds buffer
left (Err e) ds buffer = buffer

-- ── a row ───────────────────────────────────────────────────────────────────────────────────

-- the questions: 1. is the scalar sized? 2. is m a window? 3. is the buffer roomy?
abbrev pub row_question : Limits → List ℕ → ℕ → ℕ → ℕ
row_question limits s m places = missed ((1, sized limits s) ∷ (2, is_window m) ∷ (3, roomy (length s) places) ∷ [])

-- the answer of a call that writes the row ds: the first question missed, or the row's length and weight
unfoldable pub answer_with : Limits → List ℕ → ℕ → List ℤ → ℕ → Recoded
answer_with limits s m ds places =
    cond (sized limits s) (cond (is_window m) (cond (roomy (length s) places) (wrote_row ds) (Err NoRoom)) (Err BadWindow)) (Err BadScalar)

-- the buffer
unfoldable pub buffer_with : Limits → List ℕ → ℕ → List ℤ → List ℕ → List ℕ
buffer_with limits s m ds buffer = left (answer_with limits s m ds (length buffer)) ds buffer

-- 01's row
abbrev pub row_answer : Limits → List ℕ → ℕ → ℕ → ℕ → Recoded
row_answer limits s sign m places = answer_with limits s m (row m (signed_scalar s sign)) places

abbrev pub row_buffer : Limits → List ℕ → ℕ → ℕ → List ℕ → List ℕ
row_buffer limits s sign m buffer = buffer_with limits s m (row m (signed_scalar s sign)) buffer

-- what is promised of a row ds for the window m and the scalar c that is said to have the weight w, where the row is to be R
pub record RowBy (R : List ℤ → Type 0) (m : ℕ) (c : ℤ) (w : ℕ) (ds : List ℤ) : Type 0 where
  -- it is
  pub rule : R ds
  -- its digits are the window's, it reads back to c, its top digit is not 0, and it has no more places than c's bit length plus one
  pub digits : Over m ds
  pub reads : value ds ≡ c
  pub top : (i : ℕ) → length ds ≡ suc i → get_or ds i (pos 0) ≢ pos 0
  pub short : length ds ≤ bit_length (nat_abs c) + 1
  -- w of its digits are not 0, and no row over the same digits has fewer such ones
  pub counted : weight ds ≡ w
  pub fewest : (es : List ℤ) → Over m es → value es ≡ c → w ≤ weight es

-- where n places were written, the row below n is such a one
abbrev pub PromisedBy : (List ℤ → Type 0) → ℕ → ℤ → Recoded → List ℕ → Type 0
PromisedBy R m c (Ok w) buffer = RowBy R m c w.weight (row_below w.length buffer)
PromisedBy R m c (Err e) buffer = Unit {0}

-- the same where the row is to be 01's
abbrev pub RowOf : ℕ → ℤ → ℕ → List ℤ → Type 0
RowOf m c w ds = RowBy (RowRule m c) m c w ds

abbrev pub RowPromised : ℕ → ℤ → Recoded → List ℕ → Type 0
RowPromised m c r buffer = PromisedBy (RowRule m c) m c r buffer

-- ── a joint form ────────────────────────────────────────────────────────────────────────────

-- the questions: 1 of both scalars; 3 of both rows, by the longer scalar
abbrev pub joint_question : Limits → List ℕ → List ℕ → ℕ → ℕ → ℕ
joint_question limits s t places places' =
    missed ((1, sized limits s) ∷ (1, sized limits t) ∷ (3, roomy (max (length s) (length t)) places) ∷ (3, roomy (max (length s) (length t)) places') ∷ [])

-- the answer: the first question missed, or the length and the weight
unfoldable pub joint_answer : Limits → List ℕ → ℕ → List ℕ → ℕ → ℕ → ℕ → Recoded
joint_answer limits s s_sign t t_sign places places' =
    cond (sized limits s && sized limits t)
    (cond (roomy (max (length s) (length t)) places && roomy (max (length s) (length t)) places')
    (wrote_columns (joint (signed_scalar s s_sign) (signed_scalar t t_sign)))
    (Err NoRoom))
    (Err BadScalar)

-- one of the two buffers
unfoldable pub joint_buffer : Limits → Two → List ℕ → ℕ → List ℕ → ℕ → List ℕ → List ℕ → List ℕ
joint_buffer limits r s s_sign t t_sign buffer buffer' =
    left (joint_answer limits s s_sign t t_sign (length buffer) (length buffer'))
    (Columns.row two r (joint (signed_scalar s s_sign) (signed_scalar t t_sign)))
    (of buffer buffer' r)

-- what is promised of joint columns cs for k and l that are said to have the weight w
pub record JointOf (k l : ℤ) (w : ℕ) (cs : List Column) : Type 0 where
  -- they keep the joint sparse rules, the top one is not zero, they read back to k and l, and use at most one place more than the longer bit length
  pub keeps : Keeps cs
  pub topped : Topped cs
  pub reads_k : value (Columns.row two P cs) ≡ k
  pub reads_l : value (Columns.row two Q cs) ≡ l
  pub short : length cs ≤ max (bit_length (nat_abs k)) (bit_length (nat_abs l)) + 1
  -- every list that does so is equal to them
  pub only : (ds : List Column) → Keeps ds → Topped ds → value (Columns.row two P ds) ≡ k → value (Columns.row two Q ds) ≡ l → ds ≡ cs
  -- w of them are not zero, and no column list over −1, 0, 1 for the same pair has fewer such ones
  pub counted : Columns.weight two cs ≡ w
  pub fewest : (ds : List Column) → Columns.Small two ds → value (Columns.row two P ds) ≡ k → value (Columns.row two Q ds) ≡ l
      → w ≤ Columns.weight two ds

-- where n places were written, the columns below n are such ones
abbrev pub JointPromised : ℤ → ℤ → Recoded → List ℕ → List ℕ → Type 0
JointPromised k l (Ok w) buffer buffer' = JointOf k l w.weight (columns_below w.length buffer buffer')
JointPromised k l (Err e) buffer buffer' = Unit {0}

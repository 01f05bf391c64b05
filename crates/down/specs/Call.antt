-- What the call for a row from the top down answers and leaves in its buffer, for all input, and what it promises of the digits that stand
-- there: as the row call of recode, with this row for 01's. The questions are that call's.
pub mod Row
use Rattle.std.specs.Prelude.{◌≡◌, List, ℕ, ℤ}
use Rattle.digits.specs.declared.limits.Limits.{Limits}
use Rattle.digits.specs.Scalar.{signed_scalar}
use Rattle.recode.specs.Call.{Recoded, answer_with, buffer_with, RowBy, PromisedBy}
use Rattle.down.specs.Down.{down}

-- the answer: the first question missed, or the row's length and weight
abbrev pub down_answer : Limits → List ℕ → ℕ → ℕ → ℕ → Recoded
down_answer limits s sign m places = answer_with limits s m (down m (signed_scalar s sign)) places

-- the buffer
abbrev pub down_buffer : Limits → List ℕ → ℕ → ℕ → List ℕ → List ℕ
down_buffer limits s sign m buffer = buffer_with limits s m (down m (signed_scalar s sign)) buffer

-- what is promised of a row, where it is to be the one from the top down
abbrev pub DownOf : ℕ → ℤ → ℕ → List ℤ → Type 0
DownOf m c w ds = RowBy (λ (es : List ℤ). es ≡ down m c) m c w ds

abbrev pub DownPromised : ℕ → ℤ → Recoded → List ℕ → Type 0
DownPromised m c r buffer = PromisedBy (λ (es : List ℤ). es ≡ down m c) m c r buffer

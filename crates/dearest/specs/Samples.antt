-- The first sizes by trying every scalar, and what the call is to answer where two of its questions are missed at once, by computation.
use Rattle.std.specs.Prelude.{◌≡◌, refl, List, [], ◌∷◌, ℕ}
use Rattle.digits.specs.Integer.{half}
use Rattle.digits.specs.Row.{weight}
use Rattle.digits.specs.Scalar.{bit_length, bit_length_in}
use Rattle.forms.specs.Residue.{residue, width}
use Rattle.forms.specs.Row.{row, row_in, digit, rest}
use Rattle.dearest.specs.Bytes.{in_bytes}
use Rattle.dearest.specs.Call.{dearest_question}
use Rattle.dearest.specs.Dearest.{most_below, first_with, most, dearest}

-- the dearest scalars of 0 to 6 bits, and their numbers of digits that are not 0
pub scalars : (dearest 0 ∷ dearest 1 ∷ dearest 2 ∷ dearest 3 ∷ dearest 4 ∷ dearest 5 ∷ dearest 6 ∷ []) ≡ (0 ∷ 1 ∷ 3 ∷ 3 ∷ 11 ∷ 11 ∷ 43 ∷ [])
unfolding dearest most first_with most_below weight row row_in digit rest residue width bit_length bit_length_in half
scalars = refl

pub numbers : (most 0 ∷ most 1 ∷ most 2 ∷ most 3 ∷ most 4 ∷ most 5 ∷ most 6 ∷ []) ≡ (0 ∷ 1 ∷ 2 ∷ 2 ∷ 3 ∷ 3 ∷ 4 ∷ [])
unfolding most most_below weight row row_in digit rest residue width bit_length bit_length_in half
numbers = refl

-- the size and the room, with the number of the first question missed
abbrev pub questions : List ℕ
questions =
    -- 15 and 3; 15 alone, below 1 and above 528
    dearest_question 0 65
    ∷ dearest_question 529 67
    ∷ dearest_question 0 66
    ∷ dearest_question 529 66
    ∷ dearest_question 4294967295 66
    -- 3: no byte, one too few, one too many
    ∷ dearest_question 1 0
    ∷ dearest_question 1 65
    ∷ dearest_question 528 67
    -- neither
    ∷ dearest_question 1 66
    ∷ dearest_question 528 66
    ∷ []

pub questions_numbers : questions ≡ (15 ∷ 15 ∷ 15 ∷ 15 ∷ 15 ∷ 3 ∷ 3 ∷ 3 ∷ 0 ∷ 0 ∷ [])
questions_numbers = refl

-- 683, 1010101011 in bits, in four bytes
pub bytes : in_bytes 4 683 ≡ (0 ∷ 0 ∷ 2 ∷ 171 ∷ [])
unfolding in_bytes
bytes = refl

-- What the call for the dearest scalar answers and leaves in the buffer it is lent, for all input; and what it promises of the bytes that
-- stand there.
pub mod Returned
use Rattle.std.specs.Prelude.{◌≡◌, Bool, ◌&&◌, cond, List, [], ◌∷◌, ℕ, ltb, leb, eqb, length, Result, Ok, Err}
use Rattle.digits.specs.Limits.{card, bits}
use Rattle.digits.specs.Missed.{missed, number_of}
use Rattle.digits.specs.declared.missed.Missed.{Missed}
use Rattle.digits.specs.declared.missed.Missed.TheVariants.{NoRoom, BadSize}
use Rattle.digits.specs.Scalar.{scalar}
use Rattle.dearest.specs.Bytes.{in_bytes}
use Rattle.dearest.specs.Dearest.{most, dearest, Heaviest}

-- what the call answers: how many digits are not 0, or the question missed
abbrev pub Dearest : Type 0
Dearest = Result ℕ Missed

-- the number of the question missed, 0 where none is
abbrev pub number : Dearest → ℕ
number = number_of

-- how many digits are not 0
abbrev pub most_told : Dearest → ℕ
most_told (Ok w) = w
most_told (Err e) = 0

-- 15. is the size 1 to 528, the bits of a card's scalar?
abbrev pub is_size : ℕ → Bool
is_size size = ltb 0 size && leb size (bits card)

-- 3. has the buffer 66 bytes, those of a card's scalar?
abbrev pub is_room : ℕ → Bool
is_room room = eqb room card.bytes

-- the questions: 15; 3
abbrev pub dearest_question : ℕ → ℕ → ℕ
dearest_question size room = missed ((15, is_size size) ∷ (3, is_room room) ∷ [])

-- the answer: the first question missed, or the most
unfoldable pub dearest_answer : ℕ → ℕ → Dearest
dearest_answer size room = cond (is_size size) (cond (is_room room) (Ok (most size)) (Err NoRoom)) (Err BadSize)

-- the buffer after a call: the scalar's bytes; as lent where a question was missed
abbrev pub left : Dearest → List ℕ → List ℕ → List ℕ
left (Ok w) bytes buffer = bytes
left (Err e) bytes buffer = buffer

unfoldable pub dearest_buffer : ℕ → List ℕ → List ℕ
dearest_buffer size buffer = left (dearest_answer size (length buffer)) (in_bytes card.bytes (dearest size)) buffer

-- what the call promises: 66 bytes, the scalar of which is the smallest of the size whose row with window 1 has the most digits that are not
-- 0, which is the number told
pub record Fills (size w : ℕ) (s : List ℕ) : Type 0 where
  pub long : length s ≡ card.bytes
  pub heaviest : Heaviest size (scalar s) w

abbrev pub Promised : ℕ → Dearest → List ℕ → Type 0
Promised size (Ok w) s = Fills size w s
Promised size (Err e) s = Unit {0}

-- What packing and unpacking answer and leave in the buffers that they are lent, for all input; and what they promise of the columns and
-- the bytes that stand there.
pub mod Standing
use Rattle.std.specs.Prelude.{◌≡◌, Bool, true, ◌&&◌, cond, List, [], ◌∷◌, ◌++◌, map, ℕ, ◌≤◌, leb, length, take, drop, Result, Ok, Err, OnOk}
use Rattle.std.specs.List.{list_all}
use Rattle.digits.specs.Buffer.{columns_below}
use Rattle.digits.specs.Column.{Small}
use Rattle.digits.specs.Missed.{missed}
use Rattle.digits.specs.Two.{Two, of, two}
use Rattle.digits.specs.declared.missed.Missed.{Missed}
use Rattle.digits.specs.declared.missed.Missed.TheVariants.{NoRoom, BadColumn}
use Rattle.packing.specs.Packing.{column_of_byte, stores_digit, stores_column, packed_columns, unpacked_row}

-- what a call answers
abbrev pub Answer : Type 0
Answer = Result (Unit {0}) Missed

-- 3. has each of three buffers a place for each of n columns?
abbrev pub roomy : ℕ → ℕ → ℕ → ℕ → Bool
roomy n places places' room = leb n places && leb n places' && leb n room

-- the answer, by whether 3 is met, and 12
abbrev pub answered : Bool → Bool → Answer
answered room good = cond room (cond good (Ok tt) (Err BadColumn)) (Err NoRoom)

-- a buffer after a call: bytes from place 0 on, and past them what was lent; or as lent where a question was missed
abbrev pub left : Answer → List ℕ → List ℕ → List ℕ
left (Ok u) bytes buffer = bytes ++ drop (length bytes) buffer
left (Err e) bytes buffer = buffer

-- ── packing the n columns of two rows ───────────────────────────────────────────────────────

-- 12. is each digit −1, 0 or 1?
abbrev pub packable : ℕ → List ℕ → List ℕ → Bool
packable n k l = list_all stores_digit (take n k) && list_all stores_digit (take n l)

-- the questions: 3 of both rows and of the buffer; 12 of both rows
abbrev pub pack_question : ℕ → List ℕ → List ℕ → ℕ → ℕ
pack_question n k l room =
    missed ((3, leb n (length k)) ∷ (3, leb n (length l)) ∷ (3, leb n room) ∷ (12, list_all stores_digit (take n k)) ∷ (12, list_all stores_digit (take n l)) ∷ [])

-- the answer
unfoldable pub pack_answer : ℕ → List ℕ → List ℕ → ℕ → Answer
pack_answer n k l room = answered (roomy n (length k) (length l) room) (packable n k l)

-- the buffer
unfoldable pub pack_buffer : ℕ → List ℕ → List ℕ → List ℕ → List ℕ
pack_buffer n k l packed = left (pack_answer n k l (length packed)) (packed_columns n k l) packed

-- ── unpacking n bytes ───────────────────────────────────────────────────────────────────────

-- 12. is each byte at most 8?
abbrev pub unpackable : ℕ → List ℕ → Bool
unpackable n packed = list_all stores_column (take n packed)

-- the questions: 3 of both rows and of the buffer; 12 of the buffer
abbrev pub unpack_question : ℕ → List ℕ → ℕ → ℕ → ℕ
unpack_question n packed places places' =
    missed ((3, leb n places) ∷ (3, leb n places') ∷ (3, leb n (length packed)) ∷ (12, unpackable n packed) ∷ [])

-- the answer
unfoldable pub unpack_answer : ℕ → List ℕ → ℕ → ℕ → Answer
unpack_answer n packed places places' = answered (roomy n places places' (length packed)) (unpackable n packed)

-- one of the two rows
unfoldable pub unpack_buffer : Two → ℕ → List ℕ → List ℕ → List ℕ → List ℕ
unpack_buffer r n packed k l = left (unpack_answer n packed (length k) (length l)) (unpacked_row r n packed) (of k l r)

-- ── what both promise ───────────────────────────────────────────────────────────────────────

-- the n columns of the rows k and l, and the first n bytes of a buffer, are of each other
pub record Packs (n : ℕ) (k l packed : List ℕ) : Type 0 where
  -- there are so many
  pub k_long : n ≤ length k
  pub l_long : n ≤ length l
  pub packed_long : n ≤ length packed
  -- the columns are of digits −1, 0, 1, and no byte is above 8
  pub small : Small two (columns_below n k l)
  pub low : unpackable n packed ≡ true
  -- each byte is its column's, and each column its byte's
  pub bytes : take n packed ≡ packed_columns n k l
  pub columns : columns_below n k l ≡ map column_of_byte (take n packed)

-- what is promised beside an answer: where it is done, that they are; nothing of a refusal
abbrev pub Promised : ℕ → Answer → List ℕ → List ℕ → List ℕ → Type 0
Promised n a k l packed = OnOk a (Packs n k l packed)

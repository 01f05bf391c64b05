-- All nine columns with their bytes, and what the calls answer where two of their questions are missed at once, by computation.
use Rattle.std.specs.Prelude.{◌≡◌, refl, List, [], ◌∷◌, map, ℕ, ℤ, pos, negsuc}
use Rattle.digits.specs.Two.{Column}
use Rattle.packing.specs.Packing.{byte_of_column, column_of_byte}
use Rattle.packing.specs.Call.{pack_question, unpack_question}

-- a column (a, b)
abbrev pub column : ℤ → ℤ → Column
column a b = record { p = a; q = b }

abbrev pub minus : ℤ
minus = negsuc 0

-- the columns of the bytes 0 to 8
abbrev pub columns : List Column
columns =
    column minus minus
    ∷ column minus (pos 0)
    ∷ column minus (pos 1)
    ∷ column (pos 0) minus
    ∷ column (pos 0) (pos 0)
    ∷ column (pos 0) (pos 1)
    ∷ column (pos 1) minus
    ∷ column (pos 1) (pos 0)
    ∷ column (pos 1) (pos 1)
    ∷ []

abbrev pub bytes : List ℕ
bytes = 0 ∷ 1 ∷ 2 ∷ 3 ∷ 4 ∷ 5 ∷ 6 ∷ 7 ∷ 8 ∷ []

pub columns_bytes : map byte_of_column columns ≡ bytes
unfolding byte_of_column
columns_bytes = refl

pub bytes_columns : map column_of_byte bytes ≡ columns
unfolding column_of_byte
bytes_columns = refl

-- packing: the columns, the rows k and l, and the room of the buffer, with the number of the first question missed
abbrev pub packed : List ℕ
packed =
    -- 12 of both rows, and 3 of the first, of the second, of the buffer
    pack_question 2 (2 ∷ []) (254 ∷ 254 ∷ []) 2
    ∷ pack_question 2 (2 ∷ 2 ∷ []) (254 ∷ []) 2
    ∷ pack_question 2 (2 ∷ 2 ∷ []) (254 ∷ 254 ∷ []) 1
    -- 12 of the first row, of the second, and of neither; past the last column; no column
    ∷ pack_question 2 (0 ∷ 2 ∷ []) (1 ∷ 255 ∷ []) 2
    ∷ pack_question 2 (0 ∷ 1 ∷ []) (1 ∷ 254 ∷ []) 2
    ∷ pack_question 2 (0 ∷ 1 ∷ []) (1 ∷ 255 ∷ []) 2
    ∷ pack_question 1 (0 ∷ 2 ∷ []) (1 ∷ 254 ∷ []) 1
    ∷ pack_question 0 [] [] 0
    ∷ []

pub packed_numbers : packed ≡ (3 ∷ 3 ∷ 3 ∷ 12 ∷ 12 ∷ 0 ∷ 0 ∷ 0 ∷ [])
packed_numbers = refl

-- unpacking: the columns, the buffer, and the places of both rows
abbrev pub unpacked : List ℕ
unpacked =
    -- 12 and 3 of the first row, of the second, of the buffer
    unpack_question 2 (9 ∷ 9 ∷ []) 1 2
    ∷ unpack_question 2 (9 ∷ 9 ∷ []) 2 1
    ∷ unpack_question 2 (9 ∷ []) 2 2
    -- 12 of the last byte, and of none; past the last column; no column
    ∷ unpack_question 2 (8 ∷ 9 ∷ []) 2 2
    ∷ unpack_question 2 (0 ∷ 8 ∷ []) 2 2
    ∷ unpack_question 1 (8 ∷ 9 ∷ []) 1 1
    ∷ unpack_question 0 [] 0 0
    ∷ []

pub unpacked_numbers : unpacked ≡ (3 ∷ 3 ∷ 3 ∷ 12 ∷ 0 ∷ 0 ∷ 0 ∷ [])
unpacked_numbers = refl

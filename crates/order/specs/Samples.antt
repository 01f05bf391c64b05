-- The starred samples of 01 together, and what each call answers where two of its questions are missed at once: one table of rows, joint
-- sparse forms, what the order program prints and the numbers of answers, by one computed test.
use Rattle.std.specs.Prelude.{◌≡◌, ℕ, ℤ, pos, neg_ℤ, get_or, replicate}
use mathlib.Core.List.{List, [], ◌∷◌}
use Rattle.digits.specs.Column
use Rattle.digits.specs.Column.{weight}
use Rattle.digits.specs.Limits.{card, gateway}
use Rattle.digits.specs.Scalar.{signed_scalar}
use Rattle.digits.specs.Two.{P, Q, two, paired}
use Rattle.forms.specs.Row
use Rattle.forms.specs.Joint
use Rattle.sheet.specs.Ascii.{ascii}
use Rattle.sheet.specs.Numeral.{number}
use Rattle.sheet.specs.Spelling.{line_feed, cut}
use Rattle.recode.specs.Call.{row_question, joint_question}
use Rattle.writer.specs.Call.{j_question, i_question}
use Rattle.chooser.specs.Call.{choice_question, cheapest_question}
use Rattle.order.specs.Order.{printed}

infix 90 +◌
infix 90 −◌
-- numbers of either sign
abbrev +◌ : ℕ → ℤ
+ n = pos n

abbrev −◌ : ℕ → ℤ
− n = neg_ℤ (pos n)

-- a sample; digits from place 0
pub data Sample : Type 0 where
  -- the row of c for the window m
  row : (c : ℤ) (m : ℕ) (digits : List ℤ) → Sample
  -- the joint sparse form of k and l
  joint : (k l : ℤ) (ps qs : List ℤ) → Sample
  -- how many of its columns are not zero, and how many where the non-adjacent rows of k and l make the columns
  columns : (k l : ℤ) (few more : ℕ) → Sample
  -- the whole number of a scalar's bytes and its sign
  scalars : (bytes : List ℕ) (sign : ℕ) (z : ℤ) → Sample
  -- what the order program prints for a line, whole
  prints : (line text : List ℕ) → Sample
  -- the first line of what it prints
  heads : (line header : List ℕ) → Sample
  -- the number that a call answers
  answers : (told number : ℕ) → Sample

-- what a sample says
abbrev pub Says : Sample → Type 0
Says (row c m digits) = Row.row m c ≡ digits
Says (joint k l ps qs) =
    (Column.row two P (Joint.joint k l) ≡ ps) × (Column.row two Q (Joint.joint k l) ≡ qs)
Says (columns k l few more) =
    (weight two (Joint.joint k l) ≡ few) × (weight two (paired (Row.row 1 k) (Row.row 1 l)) ≡ more)
Says (scalars bytes sign z) = signed_scalar bytes sign ≡ z
Says (prints line text) = printed card line ≡ text
Says (heads line header) = get_or (cut line_feed (printed card line)) 0 [] ≡ header
Says (answers told number) = told ≡ number

-- a scalar of n bytes
abbrev bytes : ℕ → List ℕ
bytes n = replicate n 0

-- the samples, in 01's order; 0 has the empty row for every window (`row_zero`)
abbrev pub samples : List Sample
samples =
    row (+ 0) 1 []
    ∷ row (+ 7) 5 (− 1 ∷ + 0 ∷ + 0 ∷ + 1 ∷ [])
    ∷ row (+ 9) 5 (+ 1 ∷ + 0 ∷ + 0 ∷ + 1 ∷ [])
    ∷ row (+ 9) 7 (− 7 ∷ + 0 ∷ + 0 ∷ + 0 ∷ + 1 ∷ [])
    ∷ row (+ 33) 31 (− 31 ∷ + 0 ∷ + 0 ∷ + 0 ∷ + 0 ∷ + 0 ∷ + 1 ∷ [])
    ∷ row (+ 53) 3 (− 3 ∷ + 0 ∷ + 0 ∷ − 1 ∷ + 0 ∷ + 0 ∷ + 1 ∷ [])
    ∷ joint (+ 13) (+ 10) (− 1 ∷ − 1 ∷ + 0 ∷ + 0 ∷ + 1 ∷ []) (+ 0 ∷ + 1 ∷ + 0 ∷ + 1 ∷ + 0 ∷ [])
    ∷ columns (+ 13) (+ 10) 4 5
    ∷ joint (+ 7) (+ 2) (− 1 ∷ + 0 ∷ + 0 ∷ + 1 ∷ []) (+ 0 ∷ + 1 ∷ + 0 ∷ + 0 ∷ [])
    ∷ joint (+ 3) (+ 2) (+ 1 ∷ + 1 ∷ []) (+ 0 ∷ + 1 ∷ [])
    ∷ joint (+ 1) (+ 2) (+ 1 ∷ + 0 ∷ []) (+ 0 ∷ + 1 ∷ [])
    ∷ heads (ascii "3,0,1\n") (ascii "S,I,1,1,0,1,2,3,0")
    ∷ prints (ascii "7,2,0\n") (ascii "S,I,1,1,0,2,3,7,2\nL,1,0\nD\nD\nA,0,1\nD\nA,-1,0\nE\n")
    -- doublings before slots
    ∷ heads (ascii "3,0,2\n") (ascii "S,I,3,1,2,1,1,3,0")
    -- a minus before a scalar: in the row, in one row of the joint form or in both, and on the order
    ∷ row (− 7) 5 (+ 1 ∷ + 0 ∷ + 0 ∷ − 1 ∷ [])
    ∷ row (− 53) 3 (+ 3 ∷ + 0 ∷ + 0 ∷ + 1 ∷ + 0 ∷ + 0 ∷ − 1 ∷ [])
    ∷ joint (− 13) (+ 10) (+ 1 ∷ + 1 ∷ + 0 ∷ + 0 ∷ − 1 ∷ []) (+ 0 ∷ + 1 ∷ + 0 ∷ + 1 ∷ + 0 ∷ [])
    ∷ joint (+ 13) (− 10) (− 1 ∷ − 1 ∷ + 0 ∷ + 0 ∷ + 1 ∷ []) (+ 0 ∷ − 1 ∷ + 0 ∷ − 1 ∷ + 0 ∷ [])
    ∷ joint (− 13) (− 10) (+ 1 ∷ + 1 ∷ + 0 ∷ + 0 ∷ − 1 ∷ []) (+ 0 ∷ − 1 ∷ + 0 ∷ − 1 ∷ + 0 ∷ [])
    ∷ prints (ascii "-7,2,0\n") (ascii "S,I,1,1,0,2,3,-7,2\nL,-1,0\nD\nD\nA,0,1\nD\nA,1,0\nE\n")
    ∷ prints (ascii "7,-2,0\n") (ascii "S,I,1,1,0,2,3,7,-2\nL,1,0\nD\nD\nA,0,-1\nD\nA,-1,0\nE\n")
    ∷ heads (ascii "-3,0,2\n") (ascii "S,I,3,1,2,1,1,-3,0")
    ∷ heads (ascii "-5a,-2d,2\n") (ascii "S,J,1,1,2,6,6,-5a,-2d")
    ∷ prints (ascii "-0,2,0\n") (ascii "N,6\n")
    ∷ prints (ascii "--7,2,0\n") (ascii "N,6\n")
    ∷ prints (ascii "7,-,0\n") (ascii "N,6\n")
    ∷ prints (ascii "7,2,-0\n") (ascii "N,6\n")
    -- bytes and their sign: 0 is plus, any other number minus, and zero with a minus is zero
    ∷ scalars (0 ∷ 7 ∷ []) 0 (+ 7)
    ∷ scalars (0 ∷ 7 ∷ []) 1 (− 7)
    ∷ scalars (0 ∷ 7 ∷ []) 2 (− 7)
    ∷ scalars (0 ∷ 7 ∷ []) 256 (− 7)
    ∷ scalars (0 ∷ 7 ∷ []) 4294967295 (− 7)
    ∷ scalars (0 ∷ 0 ∷ []) 1 (+ 0)
    -- the highest limit, and one more
    ∷ heads (ascii "7,2,31\n") (ascii "S,I,1,1,0,2,3,7,2")
    ∷ prints (ascii "7,2,32\n") (ascii "N,4\n")
    -- a row: 1 and 2 missed, 2 and 3, 3 alone, none
    ∷ answers (row_question card (bytes 67) 4 0) 1
    ∷ answers (row_question card (bytes 66) 4 0) 2
    ∷ answers (row_question card (bytes 66) 31 528) 3
    ∷ answers (row_question card (bytes 66) 31 529) 0
    ∷ answers (row_question gateway (bytes 129) 4 0) 1
    ∷ answers (row_question gateway (bytes 128) 31 1024) 3
    ∷ answers (row_question gateway (bytes 128) 31 1025) 0
    -- a joint form: 1 of the second scalar and 3 missed, 3 of the second row by the longer scalar, none
    ∷ answers (joint_question card (bytes 66) (bytes 0) 0 0) 1
    ∷ answers (joint_question card (bytes 1) (bytes 66) 529 528) 3
    ∷ answers (joint_question card (bytes 1) (bytes 66) 529 529) 0
    -- plan J: 1 and 3 missed, 3 alone, none; plan I: 1 and 2, 2 of the second window and 3, 3 alone, none
    ∷ answers (j_question card (bytes 1) (bytes 67) 0) 1
    ∷ answers (j_question card (bytes 1) (bytes 66) 16383) 3
    ∷ answers (j_question card (bytes 1) (bytes 66) 16384) 0
    ∷ answers (j_question gateway (bytes 1) (bytes 67) 32767) 3
    ∷ answers (j_question gateway (bytes 1) (bytes 67) 32768) 0
    ∷ answers (i_question card (bytes 1) (bytes 0) 0 1 0) 1
    ∷ answers (i_question card (bytes 1) (bytes 1) 1 33 0) 2
    ∷ answers (i_question card (bytes 1) (bytes 1) 31 31 16383) 3
    ∷ answers (i_question card (bytes 1) (bytes 1) 31 31 16384) 0
    -- the cheapest: 1 and 4 missed, 4 and 3, 3 alone, none
    ∷ answers (cheapest_question card (bytes 67) (bytes 1) 32 0) 1
    ∷ answers (cheapest_question card (bytes 1) (bytes 1) 32 0) 4
    ∷ answers (cheapest_question card (bytes 1) (bytes 1) 31 16383) 3
    ∷ answers (cheapest_question card (bytes 1) (bytes 1) 31 16384) 0
    ∷ answers (cheapest_question gateway (bytes 129) (bytes 1) 32 0) 1
    ∷ answers (cheapest_question gateway (bytes 128) (bytes 1) 31 32767) 3
    ∷ answers (cheapest_question gateway (bytes 128) (bytes 1) 31 32768) 0
    -- its plan: 1 of the second scalar and 4 missed, 4 alone, none
    ∷ answers (choice_question card (bytes 1) (bytes 67) 32) 1
    ∷ answers (choice_question card (bytes 1) (bytes 1) 32) 4
    ∷ answers (choice_question card (bytes 1) (bytes 1) 31) 0
    ∷ []

-- Joint forms place by place, the remainders and their codes; and what the call answers where two of its questions are missed at once, and at
-- the limits of the card and of the gateway. One table, by one computed test.
use Rattle.std.specs.Prelude.{◌≡◌, ℕ, ℤ, pos, neg_ℤ, length, replicate}
use mathlib.Core.List.{List, [], ◌∷◌, map}
use Rattle.digits.specs.Limits.{card, gateway}
use Rattle.digits.specs.Two.{Two, P, Q}
use Rattle.forms.specs.Codes.{remainder_at, below, codes}
use Rattle.forms.specs.Joint.{joint}
use Rattle.codes.specs.Call.{codes_question}

pub data Sample : Type 0 where
  -- one row of the joint form of k and l, from place 0: the remainders and their codes
  row : (k l : ℤ) (r : Two) (remainders : List ℤ) (ns : List ℕ) → Sample
  -- the number that the call answers
  answers : (told number : ℕ) → Sample

-- what a sample says
abbrev pub Says : Sample → Type 0
Says (row k l r remainders ns) =
    (below (remainder_at k l r) (length (joint k l)) ≡ remainders) × (codes k l r ≡ ns)
Says (answers told number) = told ≡ number

-- a scalar of n bytes
abbrev bytes : ℕ → List ℕ
bytes n = replicate n 0

abbrev pub samples : List Sample
samples =
    row (pos 13) (pos 10) P (map pos (13 ∷ 7 ∷ 4 ∷ 2 ∷ 1 ∷ [])) (2 ∷ 1 ∷ 0 ∷ 0 ∷ 1 ∷ [])
    ∷ row (pos 13) (pos 10) Q (map pos (10 ∷ 5 ∷ 2 ∷ 1 ∷ 0 ∷ [])) (0 ∷ 1 ∷ 0 ∷ 1 ∷ 0 ∷ [])
    ∷ row (pos 7) (pos 2) P (map pos (7 ∷ 4 ∷ 2 ∷ 1 ∷ [])) (1 ∷ 0 ∷ 0 ∷ 1 ∷ [])
    ∷ row (pos 7) (pos 2) Q (map pos (2 ∷ 1 ∷ 0 ∷ 0 ∷ [])) (0 ∷ 1 ∷ 0 ∷ 0 ∷ [])
    ∷ row (pos 3) (pos 2) P (map pos (3 ∷ 1 ∷ [])) (2 ∷ 1 ∷ [])
    ∷ row (pos 3) (pos 2) Q (map pos (2 ∷ 1 ∷ [])) (0 ∷ 1 ∷ [])
    -- a minus turns the remainders of its own row, and no code
    ∷ row (neg_ℤ (pos 13)) (pos 10) P (map neg_ℤ (map pos (13 ∷ 7 ∷ 4 ∷ 2 ∷ 1 ∷ []))) (2 ∷ 1 ∷ 0 ∷ 0 ∷ 1 ∷ [])
    ∷ row (neg_ℤ (pos 13)) (pos 10) Q (map pos (10 ∷ 5 ∷ 2 ∷ 1 ∷ 0 ∷ [])) (0 ∷ 1 ∷ 0 ∷ 1 ∷ 0 ∷ [])
    ∷ row (pos 0) (pos 0) P [] []
    -- 1 of the second scalar and 3 missed, 3 of a row and of the codes, 3 of the first and of the second code buffer by the longer scalar, none
    ∷ answers (codes_question card (bytes 66) (bytes 0) 0 0 0 0) 1
    ∷ answers (codes_question card (bytes 66) (bytes 67) 529 529 0 0) 1
    ∷ answers (codes_question card (bytes 1) (bytes 66) 529 528 0 0) 3
    ∷ answers (codes_question card (bytes 1) (bytes 66) 529 529 528 529) 3
    ∷ answers (codes_question card (bytes 1) (bytes 66) 529 529 529 528) 3
    ∷ answers (codes_question card (bytes 1) (bytes 66) 529 529 529 529) 0
    -- 67 bytes at the card and at the gateway; there 129 bytes, and 128 by the places of the first row
    ∷ answers (codes_question card (bytes 67) (bytes 67) 1025 1025 1025 1025) 1
    ∷ answers (codes_question gateway (bytes 67) (bytes 67) 1025 1025 1025 1025) 0
    ∷ answers (codes_question gateway (bytes 128) (bytes 129) 1033 1033 1033 1033) 1
    ∷ answers (codes_question gateway (bytes 128) (bytes 1) 1024 1025 1025 1025) 3
    ∷ answers (codes_question gateway (bytes 128) (bytes 1) 1025 1025 1025 1025) 0
    ∷ []

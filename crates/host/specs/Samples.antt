-- What some answers are told as, and what sheets.h takes from one number, bit by bit: which bits hold what. One table, by one computed test.
use Rattle.std.specs.Prelude.{◌≡◌, ℕ, Ok, Err, None}
use mathlib.Core.List.{List, [], ◌∷◌}
use Rattle.digits.specs.declared.missed.Missed.TheVariants.{BadScalar, BadWindow, NoRoom, BadLimit, BadColumn, BadSize}
use Rattle.recode.specs.Call as Recoding
use Rattle.writer.specs.Call as Writing
use Rattle.chooser.specs.Next.{paying}
use Rattle.sheet.specs.Answer.{accepted, refused}
use Rattle.host.specs.Told.{told_recoded, told_sheet, told_next, told_dearest, told_judgement, told_packing, sheets_number, sheets_length, sheets_limit, sheets_weight, sheets_additions, sheets_most, sheets_line}

-- a number, and what it is
pub data Sample : Type 0 where
  is : (number value : ℕ) → Sample

abbrev pub Says : Sample → Type 0
Says (is number value) = number ≡ value

abbrev pub samples : List Sample
samples =
    -- a row of 4 places, of which 2 are not 0: 0x20004
    is (told_recoded (Recoding.wrote 4 2)) 131076
    -- a sheet of 45 bytes with 2 additions: 0x2002d
    ∷ is (told_sheet (Writing.wrote_size 45 2)) 131117
    -- questions 1, 2, 3, 4, each 2^32 times its number
    ∷ is (told_recoded (Err BadScalar)) 4294967296
    ∷ is (told_recoded (Err BadWindow)) 8589934592
    ∷ is (told_recoded (Err NoRoom)) 12884901888
    ∷ is (told_sheet (Err BadScalar)) 4294967296
    ∷ is (told_sheet (Err BadWindow)) 8589934592
    ∷ is (told_sheet (Err NoRoom)) 12884901888
    ∷ is (told_sheet (Err BadLimit)) 17179869184
    -- a limit of 3 that pays with 5 additions, 0x50003; none; questions 1 and 4
    ∷ is (told_next (Ok (paying 3 5))) 327683
    ∷ is (told_next (Ok None)) 0
    ∷ is (told_next (Err BadScalar)) 4294967296
    ∷ is (told_next (Err BadLimit)) 17179869184
    -- 265 digits that are not 0; questions 15 and 3
    ∷ is (told_dearest (Ok 265)) 265
    ∷ is (told_dearest (Err BadSize)) 64424509440
    ∷ is (told_dearest (Err NoRoom)) 12884901888
    -- a sheet that is accepted, and one that misses question 9 at line 531
    ∷ is (told_judgement accepted) 0
    ∷ is (told_judgement (refused 9 531)) 38654706195
    -- columns that are packed, and that miss questions 3 and 12
    ∷ is (told_packing (Ok tt)) 0
    ∷ is (told_packing (Err NoRoom)) 12884901888
    ∷ is (told_packing (Err BadColumn)) 51539607552
    -- the parts of 0x89abcdef76543210
    ∷ is (sheets_number 9920249032579756560) 2309737967
    ∷ is (sheets_length 9920249032579756560) 12816
    ∷ is (sheets_limit 9920249032579756560) 12816
    ∷ is (sheets_weight 9920249032579756560) 30292
    ∷ is (sheets_additions 9920249032579756560) 30292
    ∷ is (sheets_most 9920249032579756560) 1985229328
    ∷ is (sheets_line 9920249032579756560) 1985229328
    ∷ []

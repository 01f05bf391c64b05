-- The parts that sheets.h takes out of the number that a call returns, for each answer.
use Rattle.std.specs.Prelude.{◌≡◌}
use Rattle.dearest.specs.Call as Dear
use Rattle.packing.specs.Call as Packs
use Rattle.digits.specs.Missed.{number_of}
use Rattle.recode.specs.Call as Recoding
use Rattle.writer.specs.Call as Writing
use Rattle.chooser.specs.Next as Choosing
use Rattle.sheet.specs.Answer.{Answer}
use Rattle.host.specs.Told.{told_recoded, told_sheet, told_next, told_dearest, number, line, told_judgement, told_packing, sheets_number, sheets_length, sheets_limit, sheets_weight, sheets_additions, sheets_most, sheets_line}

-- a row or a joint form
pub record RecodedParts (r : Recoding.Recoded) : Type 0 where
  pub number_is : sheets_number (told_recoded r) ≡ Recoding.number r
  pub length_is : sheets_length (told_recoded r) ≡ Recoding.places_written r
  pub weight_is : sheets_weight (told_recoded r) ≡ Recoding.weight_written r

-- a sheet
pub record SheetParts (s : Writing.SheetAnswer) : Type 0 where
  pub number_is : sheets_number (told_sheet s) ≡ Writing.number s
  pub length_is : sheets_length (told_sheet s) ≡ Writing.bytes_written s
  pub additions_are : sheets_additions (told_sheet s) ≡ Writing.additions s

-- a limit that pays
pub record NextParts (n : Choosing.NextLimit) : Type 0 where
  pub number_is : sheets_number (told_next n) ≡ Choosing.next_number n
  pub limit_is : sheets_limit (told_next n) ≡ Choosing.limit_told n
  pub additions_are : sheets_additions (told_next n) ≡ Choosing.additions_told n

-- the dearest scalar
pub record DearestParts (d : Dear.Dearest) : Type 0 where
  pub number_is : sheets_number (told_dearest d) ≡ Dear.number d
  pub most_is : sheets_most (told_dearest d) ≡ Dear.most_told d

-- a sheet that is read
pub record JudgementParts (j : Answer) : Type 0 where
  pub number_is : sheets_number (told_judgement j) ≡ number j
  pub line_is : sheets_line (told_judgement j) ≡ line j

-- columns that were to be packed or unpacked
pub record PackingParts (p : Packs.Answer) : Type 0 where
  pub number_is : sheets_number (told_packing p) ≡ number_of p
  pub nothing_below : sheets_line (told_packing p) ≡ 0

-- What a call tells the C host: one number of 64 bits; and the parts of it that sheets.h takes out again.
pub mod Parts
pub mod Lines
use Rattle.std.specs.Prelude.{ℕ, ◌+◌, ◌*◌, ◌/◌, ◌%◌, ◌^◌, ◌<◌, Result, Ok, Err, Some, None, IfSome, MatchResult}
use Rattle.std.specs.declared.option.Option.{Option}
use Rattle.digits.specs.Missed as Asked
use Rattle.digits.specs.declared.missed.Missed.{Missed}
use Rattle.recode.specs.Call.{Recoded}
use Rattle.recode.specs.declared.answer.Written.{Written}
use Rattle.writer.specs.Call.{SheetAnswer}
use Rattle.writer.specs.declared.answer.Sheet.{Sheet}
use Rattle.chooser.specs.Next.{NextLimit}
use Rattle.chooser.specs.declared.next.Pays.{Pays}
use Rattle.dearest.specs.Call as Dear
use Rattle.packing.specs.Call as Packs
use Rattle.sheet.specs.Answer.{Answer, accepted, refused}
use Rattle.survey.specs.Question as Survey
use Rattle.survey.specs.declared.fault.Fault.{Fault}

-- a number in bits 32 to 63, and the rest below it
abbrev pub numbered : ℕ → ℕ → ℕ
numbered number rest = number * 2 ^ 32 + rest

-- a length or a limit in bits 0 to 15, and what is counted in bits 16 to 31
abbrev pub joined : ℕ → ℕ → ℕ
joined length count = count * 2 ^ 16 + length

-- neither of the two is above its 16 bits
pub record Fits (length count : ℕ) : Type 0 where
  pub length_fits : length < 2 ^ 16
  pub count_fits : count < 2 ^ 16

-- ── the parts of an answer ──────────────────────────────────────────────────────────────────

-- a question missed: its number, and nothing below it
abbrev pub told_missed : Missed → ℕ
told_missed e = numbered (Asked.number e) 0

-- a question of the reader: its number, and the line at fault
abbrev pub told_fault : Fault → ℕ
told_fault f = numbered (Survey.number f.question) f.line

abbrev pub FaultFits : Fault → Type 0
FaultFits f = f.line < 2 ^ 32

-- digits that were written: the length, and the weight
abbrev pub told_written : Written → ℕ
told_written w = joined w.length w.weight

abbrev pub WrittenFits : Written → Type 0
WrittenFits w = Fits w.length w.weight

-- a sheet that was written: the length, and the additions
abbrev pub told_sized : Sheet → ℕ
told_sized s = joined s.length s.additions

abbrev pub SizeFits : Sheet → Type 0
SizeFits s = Fits s.length s.additions

-- a limit that pays: the limit, and the additions there
abbrev pub told_paying : Pays → ℕ
told_paying p = joined p.limit p.additions

abbrev pub PaysFits : Pays → Type 0
PaysFits p = Fits p.limit p.additions

-- what is told of a value, or of an error
abbrev pub told_either : {A E : Type 0} → (A → ℕ) → (E → ℕ) → Result A E → ℕ
told_either value error (Ok x) = value x
told_either value error (Err e) = error e

-- what is told of a value, 0 where there is none
abbrev pub told_any : {A : Type 0} → (A → ℕ) → Option A → ℕ
told_any value None = 0
told_any value (Some x) = value x

-- ── answers ─────────────────────────────────────────────────────────────────────────────────

-- a row or a joint form: the number of the question missed; or the length, and the weight
abbrev pub told_recoded : Recoded → ℕ
told_recoded = told_either told_written told_missed

abbrev pub RecodedFits : Recoded → Type 0
RecodedFits r = MatchResult r WrittenFits (λ e. Unit {0})

-- a sheet: the number; or the length, and the additions
abbrev pub told_sheet : SheetAnswer → ℕ
told_sheet = told_either told_sized told_missed

abbrev pub SheetFits : SheetAnswer → Type 0
SheetFits s = MatchResult s SizeFits (λ e. Unit {0})

-- the next limit: the number; or the limit that pays, and the additions there, both 0 for none
abbrev pub told_next : NextLimit → ℕ
told_next = told_either (told_any told_paying) told_missed

abbrev pub NextFits : NextLimit → Type 0
NextFits n = MatchResult n (λ o. IfSome o PaysFits) (λ e. Unit {0})

-- the dearest scalar: the number; or how many digits are not 0
abbrev pub told_dearest : Dear.Dearest → ℕ
told_dearest = told_either (λ most. most) told_missed

-- the number of the reader's question that is missed, 0 where none is
abbrev pub number : Answer → ℕ
number accepted = 0
number (refused n at) = n

-- the line at fault, 0 where none is
abbrev pub line : Answer → ℕ
line accepted = 0
line (refused n at) = at

-- the reader: both
abbrev pub told_judgement : Answer → ℕ
told_judgement a = numbered (number a) (line a)

-- what the reader's call answers, as far as it must fit
abbrev pub ReadFits : Result (Unit {0}) Fault → Type 0
ReadFits r = MatchResult r (λ met. Unit {0}) FaultFits

-- columns packed or unpacked: the number, and nothing below it
abbrev pub told_packing : Packs.Answer → ℕ
told_packing = told_either (λ done. 0) told_missed

-- ── the parts, by the names that sheets.h has for them ──────────────────────────────────────

-- sheets_number: bits 32 to 63
abbrev pub sheets_number : ℕ → ℕ
sheets_number told = told / 2 ^ 32

-- sheets_length and sheets_limit: bits 0 to 15
abbrev pub sheets_length : ℕ → ℕ
sheets_length told = told % 2 ^ 16

abbrev pub sheets_limit : ℕ → ℕ
sheets_limit told = told % 2 ^ 16

-- sheets_weight and sheets_additions: bits 16 to 31
abbrev pub sheets_weight : ℕ → ℕ
sheets_weight told = told / 2 ^ 16 % 2 ^ 16

abbrev pub sheets_additions : ℕ → ℕ
sheets_additions told = told / 2 ^ 16 % 2 ^ 16

-- sheets_most and sheets_line: bits 0 to 31
abbrev pub sheets_most : ℕ → ℕ
sheets_most told = told % 2 ^ 32

abbrev pub sheets_line : ℕ → ℕ
sheets_line told = told % 2 ^ 32

-- What was written has the columns given.
use Rattle.std.specs.Prelude.{◌≡◌, ℕ, take, Ok, Err}
use mathlib.Core.List.{List}
use Rattle.digits.specs.declared.limits.Limits.{Limits}
use Rattle.digits.specs.Two.{Column}
use Rattle.sheet.specs.Digits.{columns}
use Rattle.sheet.specs.Spelling.{lines}
use Rattle.writer.specs.Call.{SheetAnswer}

-- where n bytes were written, they are a sheet with the columns cs
abbrev pub Columned : Limits → List Column → SheetAnswer → List ℕ → Type 0
Columned limits cs (Ok w) buffer = columns (lines limits (take w.length buffer)) ≡ cs
Columned limits cs (Err e) buffer = Unit {0}

-- Short lines: what is read of a digit, and of a T, L or A line, with no search for where it ends.
use Rattle.std.specs.Prelude.{◌≡◌, ◌≢◌, true, List, ◌∷◌, ◌++◌, ℕ, ◌+◌, ◌≤◌, ◌<◌, ℤ, nat_abs, length, drop}
use Rattle.std.proofs.Math.Option.{some}
use Rattle.digits.specs.declared.limits.Limits.{Limits}
use Rattle.sheet.specs.Plan as meant
use Rattle.sheet.specs.Spelling.{line_feed, comma, digit, fields, join}
use Rattle.sheet.specs.Spelling.Spelled.{Short, ShortPoint}
use Rattle.sheet.specs.Numeral.{worth}
use Rattle.sheet.specs.Line.{misspelled}
use Rattle.lines.specs.Coded.{signed, coded_point, pointed}
use Rattle.lines.specs.declared.point.Signed.{Signed}
use Rattle.lines.specs.declared.point.Point.{Point}
use Rattle.lines.specs.declared.short.Spelled.{Spelled}

-- the bytes of s from one place to another are a digit of one or two figures
pub record Spells (s : List ℕ) (at end : ℕ) (d : Signed) : Type 0 where
  pub z : ℤ
  pub is : d ≡ signed z
  pub short : nat_abs z < 100
  pub bytes : drop at s ≡ digit z ++ drop end s

-- what is read at a place ends one to three bytes behind it; if it fits, it is the digit there; a digit before a byte that is no figure fits
pub record DigitAt (s : List ℕ) (at : ℕ) (r : Spelled) : Type 0 where
  pub later : at < r.end
  pub near : r.end ≤ at + 3
  pub spells : r.fits ≡ true → Spells s at r.end r.digit
  pub takes : (z : ℤ) (c : ℕ) (rest : List ℕ) → nat_abs z < 100 → 10 ≤ worth c → drop at s ≡ digit z ++ c ∷ rest
      → (r.fits ≡ true) × (drop r.end s ≡ c ∷ rest)

-- s begins with the line of a letter and a point, behind which the next one begins
pub record Begins (s : List ℕ) (letter : ℕ) (t : Point) (end : ℕ) : Type 0 where
  pub point : meant.Point
  pub is : t ≡ coded_point point
  pub short : (limits : Limits) → Short limits (pointed letter (some point))
  pub bytes : s ≡ join comma (fields (pointed letter (some point))) ++ line_feed ∷ drop end s
  pub later : 0 < end
  pub within : end ≤ length s

-- s begins with a T, L or A line whose digits have one or two figures
pub record Fitting (s : List ℕ) : Type 0 where
  pub letter : ℕ
  pub point : meant.Point
  pub named : pointed letter (some point) ≢ misspelled
  pub short : ShortPoint point
  pub rest : List ℕ
  pub bytes : s ≡ join comma (fields (pointed letter (some point))) ++ line_feed ∷ rest

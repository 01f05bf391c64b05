-- What was written from place 0 on stands at the places below its length: a row over a window's digits, and columns of −1, 0, 1.
-- From the law that a digit's byte is read back as the digit.
use Rattle.std.specs.Prelude.{◌≡◌, refl, List, [], ◌∷◌, ◌++◌, map, ℕ, ◌<◌, ℤ, pos, nat_abs, length}
use Rattle.std.proofs.Common.{sym, ap, ap₂, ◌∙◌, arith, take_at}
use Rattle.std.proofs.lemmas.List.{length-map}
use Rattle.digits.specs.Byte.{byte_of, signed}
use Rattle.digits.proofs.Laws.Byte.Signed.{signed_byte}
use Rattle.digits.specs.Buffer.{row_below, columns_below}
use Rattle.digits.specs.Column.{row, Small, empty, more}
use Rattle.digits.specs.Row.{Digit, none, odd, Over}
use Rattle.digits.specs.Row as Row
use Rattle.digits.specs.Two.{Column, Two, P, Q, two, digit, paired}

-- every digit is below 128 in size
data Bytewise : List ℤ → Type 0 where
  all : Bytewise []
  next : {d : ℤ} {ds : List ℤ} → nat_abs d < 128 → Bytewise ds → Bytewise (d ∷ ds)

read_back : {ds : List ℤ} → Bytewise ds → map signed (map byte_of ds) ≡ ds
read_back all = refl
read_back (next {d = d} h hs) = ap₂ ◌∷◌ (signed_byte d h) (read_back hs)

below : {ds : List ℤ} (rest : List ℕ) → Bytewise ds → row_below (length ds) (map byte_of ds ++ rest) ≡ ds
unfolding row_below
below {ds} rest h = ap (map signed) (take_at (map byte_of ds) rest (length ds) (length-map ds byte_of)) ∙ read_back h

over_bytewise : {m : ℕ} {ds : List ℤ} → m < 128 → Over m ds → Bytewise ds
over_bytewise h Row.empty = all
over_bytewise h (Row.more none o) = next {d = pos 0} (omega arith) (over_bytewise h o)
over_bytewise h (Row.more {d = d} (odd p l) o) = next {d = d} (omega arith) (over_bytewise h o)

-- a row
pub row_read : {m : ℕ} {ds : List ℤ} (rest : List ℕ) → m < 128 → Over m ds → row_below (length ds) (map byte_of ds ++ rest) ≡ ds
row_read rest h o = below rest (over_bytewise h o)

small_bytewise : {cs : List Column} (r : Two) → Small two cs → Bytewise (row two r cs)
unfolding row
small_bytewise r empty = all
small_bytewise r (more {c = c} h hs) = next {d = digit c r} (omega (arith, h r)) (small_bytewise r hs)

-- one row of columns
pub column_row : {cs : List Column} (r : Two) (rest : List ℕ) → Small two cs → row_below (length cs) (map byte_of (row two r cs) ++ rest) ≡ row two r cs
unfolding row
column_row {cs} r rest h =
    ap (λ (n : ℕ). row_below n (map byte_of (row two r cs) ++ rest)) (sym (length-map cs (λ c. digit c r)))
    ∙ below rest (small_bytewise r h)

-- the two rows of columns make the columns
pub paired_rows : (cs : List Column) → paired (row two P cs) (row two Q cs) ≡ cs
unfolding paired row
paired_rows [] = refl
paired_rows (c ∷ cs) = ap (λ (ds : List Column). c ∷ ds) (paired_rows cs)

-- columns
pub columns_read : {cs : List Column} (k l : List ℕ) → Small two cs
    → columns_below (length cs) (map byte_of (row two P cs) ++ k) (map byte_of (row two Q cs) ++ l) ≡ cs
unfolding columns_below
columns_read {cs} k l h = ap₂ paired (column_row P k h) (column_row Q l h) ∙ paired_rows cs

-- The bytes of the parts of a sheet, which the writer puts one behind another, and what a put leaves.
use Rattle.std.specs.Prelude.{◌≡◌, Bool, true, false, cond, List, [], ◌∷◌, ◌++◌, map, ℕ, zero, suc, ◌+◌, ◌/◌, ◌%◌, ◌^◌, ◌≤◌, ◌<◌, ℤ, pos, nat_abs, length, set, get_or}
use Rattle.std.proofs.lemmas.List.Edits.{sets}
use Rattle.digits.specs.Buffer.{columns_below}
use Rattle.digits.specs.Byte.{signed}
use Rattle.digits.specs.declared.limits.Limits.{Limits}
use Rattle.digits.specs.Limits.{gateway, bits}
use Rattle.digits.specs.Two.{Column}
use Rattle.sheet.specs.declared.Plan.{Plan}
use Rattle.sheet.specs.Digits.{weight}
use Rattle.sheet.specs.Line.{Header, table}
use Rattle.sheet.specs.Numeral.{figure, numeral}
use Rattle.sheet.specs.Plan.{Point, point, stored, odds, multiples}
use Rattle.sheet.specs.Spelling.{comma, line_feed, scalar, digit, kind, spell}
use Rattle.written.specs.Enough.{Enough}
use Rattle.written.specs.Makes.{Makes}
use Rattle.written.specs.Valid.{Valid}
use Rattle.written.specs.Written.{sheet_of}
use Rattle.writer.specs.declared.tables.Base.{Base}
use Rattle.writer.specs.declared.tables.Base.TheVariants.{P, Q}

-- the bytes were put at a place, and `next` is the place behind them
pub record Put (before after : List ℕ) (at next : ℕ) (bytes : List ℕ) : Type 0 where
  pub behind : next ≡ at + length bytes
  pub buffer : after ≡ sets before at bytes

-- a byte was put at a place, and `next` is the place behind it if it is kept, and the same place if not
pub record PutIf (before after : List ℕ) (at next : ℕ) (kept : Bool) (byte : ℕ) : Type 0 where
  pub behind : next ≡ cond kept (suc at) at
  pub buffer : after ≡ set before at byte

-- there is room for bytes at a place
pub record Room (out : List ℕ) (at : ℕ) (bytes : List ℕ) : Type 0 where
  pub fits : at + length bytes ≤ length out

-- a line of a letter and a point
unfoldable pub point_line : ℕ → Point → List ℕ
point_line letter t = letter ∷ comma ∷ (digit t.p ++ comma ∷ (digit t.q ++ line_feed ∷ []))

-- the lines of the steps of a place, the first one with the letter, and A lines behind it
unfoldable pub steps_bytes : ℕ → List Point → List ℕ
steps_bytes letter [] = []
steps_bytes letter (t ∷ ts) = point_line letter t ++ steps_bytes 65 ts

-- the column at a place of two rows of bytes, and the columns below a place, from the highest down
abbrev pub column_at : List ℕ → List ℕ → ℕ → Column
column_at p q i = point (signed (get_or p i 0)) (signed (get_or q i 0))

unfoldable pub columns_down : List ℕ → List ℕ → ℕ → List Column
columns_down p q zero = []
columns_down p q (suc i) = column_at p q i ∷ columns_down p q i

-- n times P, or n times Q
abbrev pub alone : Base → ℕ → Point
alone P n = point (pos n) (pos 0)
alone Q n = point (pos 0) (pos n)

-- the T lines of n odd multiples from d on, and of a window
abbrev pub odd_lines : Base → ℕ → ℕ → List ℕ
odd_lines base d n = spell (map table (map (alone base) (odds d n)))

unfoldable pub window_bytes : Base → ℕ → List ℕ
window_bytes base m = spell (map table (map (alone base) (multiples (stored m))))

-- the figures of a number that is not 0
abbrev pub figures_of : ℕ → List ℕ
figures_of zero = []
figures_of (suc n) = numeral 16 (suc n)

-- the figures of a byte: behind others two of them, and without leading zeros where it is the first
abbrev pub byte_figures : Bool → ℕ → List ℕ
byte_figures true b = figures_of b
byte_figures false b = figure (b / 16) ∷ figure (b % 16) ∷ []

-- a decimal, and a comma
abbrev pub field : ℕ → List ℕ
field n = numeral 10 n ++ comma ∷ []

-- the parts of a header: its letters, its decimals, its scalars
unfoldable pub letters_of : List ℕ → List ℕ
letters_of kind = 83 ∷ comma ∷ (kind ++ comma ∷ [])

unfoldable pub decimals_of : ℕ → ℕ → ℕ → ℕ → ℕ → List ℕ
decimals_of m1 m2 slots additions doublings =
    field m1 ++ (field m2 ++ (field slots ++ (field additions ++ field doublings)))

unfoldable pub scalars_of : ℤ → ℤ → List ℕ
scalars_of k l = scalar k ++ comma ∷ (scalar l ++ line_feed ∷ [])

unfoldable pub header_bytes : Header → List ℕ
header_bytes h = letters_of (kind h.kind) ++ (decimals_of h.m1 h.m2 h.slots h.additions h.doublings ++ scalars_of h.k h.l)

-- a number that the widest scalar can have
unfoldable pub Bounded : ℤ → Type 0
Bounded z = nat_abs z < 2 ^ bits gateway

-- limits that the calls for a sheet can serve with rows of so many places: enough for their own scalars, none of which is too wide
pub record Served (limits : Limits) (p_places q_places : ℕ) : Type 0 where
  pub enough : Enough limits
  pub narrow : limits.bytes ≤ gateway.bytes
  pub p_room : bits limits + 1 ≤ p_places
  pub q_room : bits limits + 1 ≤ q_places

-- all that the writer needs: a valid plan, scalars that are not too wide, two rows with so many places whose columns make the scalars, what
-- the plan counts of these, and room for their sheet
pub record Ready (plan : Plan) (k l : ℤ) (p q : List ℕ) (places counted : ℕ) (out : List ℕ) : Type 0 where
  pub valid : Valid plan
  pub k_bounded : Bounded k
  pub l_bounded : Bounded l
  pub p_long : places ≤ length p
  pub q_long : places ≤ length q
  pub makes : Makes plan k l (columns_below places p q)
  pub heavy : counted ≡ weight plan (columns_below places p q)
  pub room : length (sheet_of plan (columns_below places p q) k l) ≤ length out

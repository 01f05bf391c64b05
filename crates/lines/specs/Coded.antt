-- The lines of a sheet as the code has them: numbers by sign and size, and the header without its two scalars.
use Rattle.std.specs.Prelude.{◌≡◌, Bool, true, false, cond, List, [], ◌∷◌, ℕ, suc, ◌≤◌, ◌<◌, eqb, ℤ, pos, negsuc, neg_ℤ, length, get_or, drop}
use Rattle.std.proofs.Math.Option.{Option, none, some}
use Prim.Native.Char.{code}
use Rattle.digits.specs.declared.limits.Limits.{Limits}
use Rattle.sheet.specs.Plan.{Point, point}
use Rattle.sheet.specs.Line as spec
use Rattle.sheet.specs.Line.{Kind, joint, interleaved, header, table, load, double, add, end, misspelled}
use Rattle.sheet.specs.Spelling.{line_feed, comma, cut, read_point, lines}
use Rattle.sheet.specs.Spelling.Field.{is_whole}
use Rattle.std.specs.declared.option.Option as declared
use Rattle.std.specs.declared.option.Option.TheVariants.{Some, None}
use Rattle.lines.specs.declared.point.Signed.{Signed}
use Rattle.lines.specs.declared.point.Point as point_type
use Rattle.lines.specs.declared.header.Kind as kind_type
use Rattle.lines.specs.declared.header.Header as header_of
use Rattle.lines.specs.declared.header.Opening.{Opening}
use Rattle.lines.specs.declared.line.Line.{Line}
use Rattle.lines.specs.declared.line.Line.TheVariants.{Table, Load, Double, Add, End, Other}

-- what was read, if anything, in the form that the code has for it
abbrev pub as_read : {A B : Type 0} → (A → B) → Option A → declared.Option B
as_read form none = None
as_read form (some a) = Some (form a)

-- a whole number by its sign and its size
abbrev pub signed : ℤ → Signed
signed (pos n) = record { negative = false; size = n }
signed (negsuc n) = record { negative = true; size = suc n }

-- the number of a sign and a size
abbrev pub number_of : Bool → ℕ → ℤ
number_of true n = neg_ℤ (pos n)
number_of false n = pos n

abbrev pub whole : Signed → ℤ
whole s = number_of s.negative s.size

-- a digit that was read
abbrev pub coded_digit : Option ℤ → declared.Option Signed
coded_digit o = as_read signed o

-- a point
abbrev pub coded_point : Point → point_type.Point
coded_point t = record { p = signed t.p; q = signed t.q }

abbrev pub point_of : point_type.Point → Point
point_of t = point (whole t.p) (whole t.q)

abbrev pub coded_pair : Option Point → declared.Option point_type.Point
coded_pair o = as_read coded_point o

-- the kind of a header
abbrev pub kind_of : kind_type.Kind → Kind
kind_of kind_type.TheVariants.Joint = joint
kind_of kind_type.TheVariants.Interleaved = interleaved

abbrev pub kind_as : Kind → kind_type.Kind
kind_as joint = kind_type.TheVariants.Joint
kind_as interleaved = kind_type.TheVariants.Interleaved

abbrev pub coded_kind : Option Kind → declared.Option kind_type.Kind
coded_kind o = as_read kind_as o

-- a header, without its scalars
abbrev pub coded_header : spec.Header → header_of.Header
coded_header h =
    record {
      kind = kind_as h.kind;
      m1 = h.m1;
      m2 = h.m2;
      slots = h.slots;
      additions = h.additions;
      doublings = h.doublings;
    }

abbrev pub coded_heading : Option spec.Header → declared.Option header_of.Header
coded_heading o = as_read coded_header o

-- a line, where a header has no place
abbrev pub coded : spec.Line → Line
coded (header h) = Other
coded (table t) = Table (coded_point t)
coded (load t) = Load (coded_point t)
coded double = Double
coded (add t) = Add (coded_point t)
coded end = End
coded misspelled = Other

-- the line of a letter and the point behind it
abbrev pub pointed : ℕ → Option Point → spec.Line
pointed c none = misspelled
pointed c (some t) = cond (eqb c (code "T")) (table t) (cond (eqb c (code "L")) (load t) (cond (eqb c (code "A")) (add t) misspelled))

-- the line of a letter and the fields behind it, which are to be two
abbrev pub stepped : ℕ → List (List ℕ) → spec.Line
stepped c fs = cond (eqb (length fs) 2) (pointed c (read_point ([] ∷ fs))) misspelled

-- a D line and its line feed come first
pub record Doubles (s : List ℕ) : Type 0 where
  pub long : 2 ≤ length s
  pub letter : get_or s 0 0 ≡ code "D"
  pub end : get_or s 1 0 ≡ code "\n"

-- of the sheet s, the line at a place, and where the next one begins
pub record Took (limits : Limits) (s : List ℕ) (at : ℕ) (line : Line) (next : ℕ) : Type 0 where
  pub meant : spec.Line
  pub is : line ≡ coded meant
  pub rest : lines limits (drop at s) ≡ meant ∷ lines limits (drop next s)
  pub later : at < next
  pub within : next ≤ length s

-- past the end there is no line
pub record Past (s : List ℕ) (line : Line) (next : ℕ) : Type 0 where
  pub is : line ≡ Other
  pub end : next ≡ length s

-- the header of a header line
abbrev pub heading_of : spec.Line → Option spec.Header
heading_of (header h) = some h
heading_of (table t) = none
heading_of (load t) = none
heading_of double = none
heading_of (add t) = none
heading_of end = none
heading_of misspelled = none

-- the header that the lines begin with
abbrev pub opening_of : List spec.Line → Option spec.Header
opening_of [] = none
opening_of (x ∷ ls) = heading_of x

-- the sheet s begins with a header, behind which the next line begins
pub record Opened (limits : Limits) (s : List ℕ) (head : header_of.Header) (next : ℕ) : Type 0 where
  pub h : spec.Header
  pub is : head ≡ coded_header h
  pub rest : lines limits s ≡ header h ∷ lines limits (drop next s)
  pub later : 0 < next
  pub within : next ≤ length s

-- it does, or it begins with none
abbrev pub Opens : Limits → List ℕ → declared.Option Opening → Type 0
Opens limits s (Some o) = Opened limits s o.header o.next
Opens limits s None = opening_of (lines limits s) ≡ none

-- a field of the first line of the sheet s, and that it is a scalar of as many figures as the limits allow
abbrev pub head_field : List ℕ → ℕ → List ℕ
head_field s k = get_or (cut comma (get_or (cut line_feed s) 0 [])) k []

abbrev pub ScalarIn : Limits → List ℕ → ℕ → Type 0
ScalarIn limits s k = is_whole 16 limits.figures (head_field s k) ≡ true

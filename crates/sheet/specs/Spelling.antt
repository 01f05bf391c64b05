-- The spelling of a sheet: its lines as bytes, and its bytes as lines.
pub mod Spelled
pub mod Read
pub mod Cut
pub mod Field
use Rattle.std.specs.Prelude.{cond, List, [], ◌∷◌, ◌++◌, ℕ, zero, suc, eqb, length, get_or, ℤ, pos, negsuc}
use Rattle.std.proofs.Math.Option.{Option, none, some}
use Prim.Native.Char.{code}
use Rattle.digits.specs.declared.limits.Limits.{Limits}
use Rattle.sheet.specs.Ascii.{ascii}
use Rattle.sheet.specs.Plan.{Point, point}
use Rattle.sheet.specs.Numeral.{numeral, number}
use Rattle.sheet.specs.Line.{Kind, joint, interleaved, Header, Line, header, table, load, double, add, end, misspelled}

-- the byte that ends a line
abbrev pub line_feed : ℕ
line_feed = code "\n"

-- the byte that parts the fields of a line
abbrev pub comma : ℕ
comma = code ","

-- the byte before the figures of a negative number
abbrev pub minus : ℕ
minus = code "-"

-- ── lines to bytes ──────────────────────────────────────────────────────────────────────────

-- a decimal, with no leading zeros
abbrev pub decimal : ℕ → List ℕ
decimal n = numeral 10 n

-- a whole number in figures of a base, with a minus before them if negative
abbrev pub whole : ℕ → ℤ → List ℕ
whole base (pos n) = numeral base n
whole base (negsuc n) = minus ∷ numeral base (suc n)

-- a scalar: lower-case hexadecimal, no leading zero, `0` for zero
abbrev pub scalar : ℤ → List ℕ
scalar z = whole 16 z

-- a digit: a decimal
abbrev pub digit : ℤ → List ℕ
digit z = whole 10 z

-- the kind of a header
abbrev pub kind : Kind → List ℕ
kind joint = ascii "J"
kind interleaved = ascii "I"

-- the fields of a line; one empty field for what is misspelled
abbrev pub fields : Line → List (List ℕ)
fields (header h) =
    ascii "S"
    ∷ kind h.kind
    ∷ decimal h.m1
    ∷ decimal h.m2
    ∷ decimal h.slots
    ∷ decimal h.additions
    ∷ decimal h.doublings
    ∷ scalar h.k
    ∷ scalar h.l
    ∷ []
fields (table t) = ascii "T" ∷ digit t.p ∷ digit t.q ∷ []
fields (load t) = ascii "L" ∷ digit t.p ∷ digit t.q ∷ []
fields double = ascii "D" ∷ []
fields (add t) = ascii "A" ∷ digit t.p ∷ digit t.q ∷ []
fields end = ascii "E" ∷ []
fields misspelled = [] ∷ []

-- fields parted by a byte
unfoldable pub join : ℕ → List (List ℕ) → List ℕ
join b [] = []
join b (f ∷ []) = f
join b (f ∷ g ∷ fs) = f ++ b ∷ join b (g ∷ fs)

-- the bytes of lines: fields parted by commas, each line ended by one line feed
unfoldable pub spell : List Line → List ℕ
spell [] = []
spell (l ∷ ls) = join comma (fields l) ++ line_feed ∷ spell ls

-- ── bytes to lines ──────────────────────────────────────────────────────────────────────────

-- c in front of the first part
abbrev pub push : ℕ → List (List ℕ) → List (List ℕ)
push c [] = (c ∷ []) ∷ []
push c (f ∷ fs) = (c ∷ f) ∷ fs

-- the parts of a list before, between and behind the places of the byte b
unfoldable pub cut : ℕ → List ℕ → List (List ℕ)
cut b [] = [] ∷ []
cut b (c ∷ s) = cond (eqb c b) ([] ∷ cut b s) (push c (cut b s))

-- the byte of a field of one byte; 0 for any other field
abbrev pub letter : List ℕ → ℕ
letter [] = 0
letter (c ∷ []) = c
letter (c ∷ d ∷ s) = 0

-- the kind that a field spells
abbrev pub read_kind : List ℕ → Option Kind
read_kind f = cond (eqb (letter f) (code "J")) (some joint) (cond (eqb (letter f) (code "I")) (some interleaved) none)

-- a decimal of 1 to 4 figures
abbrev pub read_decimal : List ℕ → Option ℕ
read_decimal f = number 10 4 f

-- without a minus
abbrev pub plain : Option ℕ → Option ℤ
plain none = none
plain (some n) = some (pos n)

-- behind a minus: never -0
abbrev pub negative : Option ℕ → Option ℤ
negative none = none
negative (some zero) = none
negative (some (suc n)) = some (negsuc n)

-- a whole number of 1 to `most` figures of the base; the minus is none of them
abbrev pub read_whole : ℕ → ℕ → List ℕ → Option ℤ
read_whole base most [] = none
read_whole base most (c ∷ s) = cond (eqb c minus) (negative (number base most s)) (plain (number base most (c ∷ s)))

-- a scalar of as many hexadecimal figures as the limits allow
abbrev pub read_scalar : Limits → List ℕ → Option ℤ
read_scalar limits f = read_whole 16 limits.figures f

-- a digit of one or two decimal figures
abbrev pub read_digit : List ℕ → Option ℤ
read_digit f = read_whole 10 2 f

-- one thing read after another; nothing, where one of them cannot be read
infixl 1 ◌>>=◌
abbrev pub ◌>>=◌ : {A B : Type 0} → Option A → (A → Option B) → Option B
none >>= f = none
some a >>= f = f a

-- the point a,b of the fields behind a letter
unfoldable pub read_point : List (List ℕ) → Option Point
read_point fs = do
  a ← read_digit (get_or fs 1 [])
  b ← read_digit (get_or fs 2 [])
  some (point a b)

-- the header of the fields behind its letter
unfoldable pub read_header : Limits → List (List ℕ) → Option Header
read_header limits fs = do
  kind ← read_kind (get_or fs 1 [])
  m1 ← read_decimal (get_or fs 2 [])
  m2 ← read_decimal (get_or fs 3 [])
  slots ← read_decimal (get_or fs 4 [])
  additions ← read_decimal (get_or fs 5 [])
  doublings ← read_decimal (get_or fs 6 [])
  k ← read_scalar limits (get_or fs 7 [])
  l ← read_scalar limits (get_or fs 8 [])
  some (record { kind = kind; m1 = m1; m2 = m2; slots = slots; additions = additions; doublings = doublings; k = k; l = l })

-- the line of what was read, if it could be read
abbrev pub made : {A : Type 0} → (A → Line) → Option A → Line
made line none = misspelled
made line (some a) = line a

-- the line l, if there are n fields
abbrev pub sized : ℕ → List (List ℕ) → Line → Line
sized n fs l = cond (eqb (length fs) n) l misspelled

-- the line of the fields behind a letter
unfoldable pub read_behind : Limits → ℕ → List (List ℕ) → Line
read_behind limits c fs =
    cond (eqb c (code "S")) (sized 9 fs (made header (read_header limits fs)))
    (cond (eqb c (code "T")) (sized 3 fs (made table (read_point fs)))
    (cond (eqb c (code "L")) (sized 3 fs (made load (read_point fs)))
    (cond (eqb c (code "D")) (sized 1 fs double)
    (cond (eqb c (code "A")) (sized 3 fs (made add (read_point fs)))
    (cond (eqb c (code "E")) (sized 1 fs end)
    misspelled)))))

-- the line of its bytes
unfoldable pub read_line : Limits → List ℕ → Line
read_line limits s = read_behind limits (letter (get_or (cut comma s) 0 [])) (cut comma s)

-- the lines of parts: the last part stands behind the last line feed, and where it is not empty it lacks its own
unfoldable pub read_lines : Limits → List (List ℕ) → List Line
read_lines limits [] = []
read_lines limits ([] ∷ []) = []
read_lines limits ((c ∷ s) ∷ []) = misspelled ∷ []
read_lines limits (s ∷ t ∷ ss) = read_line limits s ∷ read_lines limits (t ∷ ss)

-- the lines of a sheet
unfoldable pub lines : Limits → List ℕ → List Line
lines limits s = read_lines limits (cut line_feed s)

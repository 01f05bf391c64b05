-- The order program's line, as 01 words it, and what the program prints for it.
pub mod Longest
use Rattle.std.specs.Prelude.{◌≡◌, ◌↔◌, true, false, cond, List, [], ◌∷◌, ◌++◌, ℕ, eqb, ℤ, length, get_or, take, drop}
use Rattle.std.proofs.Math.Option.{Option, none, some}
use Rattle.digits.specs.declared.limits.Limits.{Limits}
use Rattle.digits.specs.Limits.{card}
use Rattle.sheet.specs.Ascii.{ascii}
use Rattle.sheet.specs.Plan.{is_limit}
use Rattle.sheet.specs.Spelling.{comma, cut, decimal, line_feed, read_decimal, read_scalar, ◌>>=◌}
use Rattle.writer.specs.Call.{roomy}
use Rattle.chooser.specs.Call.{Cheapest}
use Rattle.chooser.specs.Cheapest.{cheapest}

-- k,l,slots
pub record Order : Type 0 where
  pub k : ℤ
  pub l : ℤ
  pub slots : ℕ

-- the one line of parts, which ends with its line feed and has nothing behind it
abbrev pub only_line : List (List ℕ) → Option (List ℕ)
only_line [] = none
only_line (s ∷ []) = none
only_line (s ∷ [] ∷ []) = some s
only_line (s ∷ [] ∷ t ∷ ts) = none
only_line (s ∷ (c ∷ t) ∷ ts) = none

-- that line; an empty one where there is none, which is no order
abbrev pub line_in : Option (List ℕ) → List ℕ
line_in none = []
line_in (some s) = s

unfoldable pub line_of : List ℕ → List ℕ
line_of s = line_in (only_line (cut line_feed s))

-- the order of its fields, spelled as on a sheet
unfoldable pub read_fields : Limits → List (List ℕ) → Option Order
read_fields limits fs = do
  k ← read_scalar limits (get_or fs 0 [])
  l ← read_scalar limits (get_or fs 1 [])
  slots ← read_decimal (get_or fs 2 [])
  cond (eqb (length fs) 3) (some (record { k = k; l = l; slots = slots })) none

-- the slots of an order
abbrev pub slots_of : Option Order → Option ℕ
slots_of none = none
slots_of (some o) = some o.slots

-- the order of its bytes
unfoldable pub read_order : Limits → List ℕ → Option Order
read_order limits s = read_fields limits (cut comma (line_of s))

-- N,number
abbrev pub refusal : ℕ → List ℕ
refusal n = ascii "N," ++ decimal n ++ (line_feed ∷ [])

-- the sheet, or 4 where the limit is beyond 31
abbrev pub served : ℤ → ℤ → ℕ → List ℕ
served k l slots = cond (is_limit slots) (cheapest k l slots) (refusal 4)

-- a badly spelled line is 6
abbrev pub answered : Option Order → List ℕ
answered none = refusal 6
answered (some o) = served o.k o.l o.slots

-- what the order program prints
unfoldable pub printed : Limits → List ℕ → List ℕ
printed limits s = answered (read_order limits s)

-- what is promised of the text that is printed for the bytes s
pub record Printed (s text : List ℕ) : Type 0 where
  -- it is N,6 exactly where they are no order
  pub misspelled : (text ≡ refusal 6) ↔ (read_order card s ≡ none)
  -- it is N,4 exactly where they are one whose limit is beyond 31
  pub beyond : (text ≡ refusal 4) ↔ ((o : Order) × (read_order card s ≡ some o) × (is_limit o.slots ≡ false))
  -- and otherwise it is the sheet that demand 3 asks for
  pub sheet : (o : Order) → read_order card s ≡ some o → is_limit o.slots ≡ true → (a : ℕ) × Cheapest card text o.k o.l o.slots a

-- what is printed into a buffer: the text from byte 0 on, behind it what was lent; r is its length
pub record Prints (text buffer : List ℕ) (r : ℕ) (out : List ℕ) : Type 0 where
  pub long : r ≡ length text
  pub out_is : out ≡ text ++ drop (length text) buffer

-- the answer and the buffer of the order call, which asks for 16,384 bytes; 01 leaves free what it answers in a shorter buffer, which is 0
unfoldable pub order_length : Limits → List ℕ → ℕ → ℕ
order_length limits s room = cond (roomy limits room) (length (printed limits s)) 0

unfoldable pub order_buffer : Limits → List ℕ → List ℕ → List ℕ
order_buffer limits s buffer = cond (roomy limits (length buffer)) (printed limits s ++ drop (length (printed limits s)) buffer) buffer

-- what is promised of the answer r and of what the buffer then holds: where there is room, the first r bytes are such a text
abbrev pub OrderPromised : List ℕ → ℕ → ℕ → List ℕ → Type 0
OrderPromised s room r out = roomy card room ≡ true → Printed s (take r out)

-- What is promised of the row from the top down, in one place, for every window m and for numbers of either sign; and of the bytes that a call
-- writes. The definitions are those of Down and Call, of forms and of digits; the proofs are in the files that the answers name.
use Rattle.std.specs.Prelude.{◌≡◌, ◌≢◌, List, [], ◌++◌, map, ℕ, suc, ◌+◌, ◌-◌, ◌≤◌, ℤ, pos, neg_ℤ, nat_abs, length, get_or, replicate}
use Rattle.digits.specs.Buffer.{row_below}
use Rattle.digits.specs.declared.limits.Limits.{Limits}
use Rattle.digits.specs.Row.{value, weight, Over}
use Rattle.digits.specs.Scalar.{signed_scalar, bit_length}
use Rattle.forms.specs.Row.{row}
use Rattle.recode.specs.Call.{wrote}
use Rattle.down.specs.Call.{down_answer, down_buffer, DownOf}
use Rattle.down.proofs.Laws.Call.Row as Call
use Rattle.down.specs.Down.{worth, settled, window, places, DownRule, down}
use Rattle.down.proofs.Laws.Down.Row as Row
use Rattle.down.proofs.Laws.Down.Settled as Settled
use Rattle.down.specs.Down.Unfold as Unfold

-- the digits of the n lowest places meet the printed steps, and nothing else does
pub places_meet : (m u n : ℕ) → 1 ≤ m → DownRule m u n (places m u n)
places_meet = Unfold.places_meet

pub places_only : (m u n : ℕ) (ds : List ℤ) → 1 ≤ m → DownRule m u n ds → ds ≡ places m u n
places_only = Unfold.places_only

-- no window sets a digit below place 0
pub none_below : (u i v : ℕ) → settled (suc v) (worth u i (suc v)) ≡ replicate (suc v - suc i) (pos 0) ++ window u i (suc v)
none_below = Settled.none_below

-- the row's digits are the window's
pub down_digits : (m : ℕ) (c : ℤ) → 1 ≤ m → Over m (down m c)
down_digits = Row.down_digits

-- it reads back to c
pub down_value : (m : ℕ) (c : ℤ) → 1 ≤ m → value (down m c) ≡ c
down_value = Row.down_value

-- its top digit is not 0
pub down_top : (m : ℕ) (c : ℤ) → 1 ≤ m → (i : ℕ) → length (down m c) ≡ suc i → get_or (down m c) i (pos 0) ≢ pos 0
down_top = Row.down_top

-- it never has more places than the number's bit length plus one
pub down_length : (m : ℕ) (c : ℤ) → 1 ≤ m → length (down m c) ≤ bit_length (nat_abs c) + 1
down_length = Row.down_length

-- as many of its digits are not 0 as of 01's row
pub down_weight : (m : ℕ) (c : ℤ) → 1 ≤ m → weight (down m c) ≡ weight (row m c)
down_weight = Row.down_weight

-- so no row over the same digits has fewer
pub down_fewest : (m : ℕ) (c : ℤ) (ds : List ℤ) → 1 ≤ m → Over m ds → value ds ≡ c → weight (down m c) ≤ weight ds
down_fewest = Row.down_fewest

-- zero has the empty row
pub down_zero : (m : ℕ) → 1 ≤ m → down m (pos 0) ≡ []
down_zero = Row.down_zero

-- the row of a negated number has each digit negated
pub down_negates : (m : ℕ) (c : ℤ) → 1 ≤ m → down m (neg_ℤ c) ≡ map neg_ℤ (down m c)
down_negates = Row.down_negates

-- the row that a call writes is this one, of the scalar with its sign
pub down_written : (limits : Limits) (s : List ℕ) (sign m : ℕ) (buffer : List ℕ) (n w : ℕ) → down_answer limits s sign m (length buffer) ≡ wrote n w
    → DownOf m (signed_scalar s sign) w (row_below n (down_buffer limits s sign m buffer))
down_written = Call.down_written

-- Samples of the order between plans, in which each part of it decides: one table of headers of cheapest sheets, by one computed
-- test. And of the next limit that pays: another table, by another test.
use Rattle.std.specs.Prelude.{◌≡◌, ℕ, ℤ, pos, get_or, Ok}
use Rattle.std.specs.declared.option.Option.{Option}
use mathlib.Core.List.{List, [], ◌∷◌}
use Prim.Native.String.{String}
use Rattle.digits.specs.Integer.{half}
use Rattle.digits.specs.Scalar.{bit_length, bit_length_in}
use Rattle.digits.specs.Two.{paired}
use Rattle.forms.specs.Residue.{residue, width}
use Rattle.forms.specs.Row
use Rattle.forms.specs.Joint
use Rattle.sheet.specs.Ascii.{ascii}
use Rattle.sheet.specs.Numeral.{numeral_in, numeral}
use Rattle.sheet.specs.Plan.{odds}
use Rattle.sheet.specs.Questions.{additions, doublings}
use Rattle.sheet.specs.Sound.{move_lines, sheet_lines}
use Rattle.sheet.specs.Spelling.{line_feed, join, spell, cut}
use Rattle.written.specs.Written.{digits, add_all, moves_of, steps_of, lines_of, additions_of, doublings_of, sheet_of}
use Rattle.chooser.specs.Cheapest.{interleaved, plans, within, key, cheapest_plan, cheapest}
use Rattle.chooser.specs.Lexicographic.{before, least}
use Rattle.chooser.specs.Next.{first_below, next_limit, limit_told, additions_told}
use Rattle.chooser.specs.declared.next.Pays.{Pays}

-- the cheapest sheet and the next limit, with every definition that they compute by
unfoldable pub computed : ℤ → ℤ → ℕ → List ℕ × Option Pays
unfolding Row.row Row.row_in Row.digit Row.rest residue width bit_length bit_length_in half Joint.joint Joint.joint_in Joint.column Joint.digit Joint.rest numeral_in numeral odds additions doublings move_lines sheet_lines join spell cut paired digits add_all moves_of steps_of lines_of additions_of doublings_of sheet_of interleaved plans within key cheapest_plan cheapest before least first_below next_limit
computed k l limit = (cheapest k l limit, next_limit k l limit)

-- ── plans ───────────────────────────────────────────────────────────────────────────────────

-- a sample: the first line of the cheapest sheet for k and l under a limit
pub data Sample : Type 0 where
  heads : (k l limit : ℕ) (header : String) → Sample

-- what a sample says
abbrev pub Says : Sample → Type 0
Says (heads k l limit header) = get_or (cut line_feed (cheapest (pos k) (pos l) limit)) 0 [] ≡ ascii header

abbrev pub samples : List Sample
samples =
    -- fewest additions: two slots save one of three, and one slot none
    heads 0x2d 0 2 "S,I,3,1,2,2,5,2d,0"
    ∷ heads 0 0x2d 2 "S,I,1,3,2,2,5,0,2d"
    ∷ heads 0x2d 0 1 "S,I,1,1,0,3,6,2d,0"
    -- windows 3, 3 are within three slots, the working double's place being one for both; with two slots J is left
    ∷ heads 0x5a 0x2d 3 "S,I,3,3,3,5,7,5a,2d"
    ∷ heads 0x5a 0x2d 2 "S,J,1,1,2,6,6,5a,2d"
    -- then fewest doublings: windows 1, 1 have as many additions and need no slot; so has J, and needs no more slots; J itself
    ∷ heads 3 0 2 "S,I,3,1,2,1,1,3,0"
    ∷ heads 0x2d 0xb 2 "S,I,3,1,2,5,5,2d,b"
    ∷ heads 6 0xb 2 "S,J,1,1,2,4,3,6,b"
    -- then fewest slots: as many of both have windows 3, 1; J and windows 3, 3; windows 3, 3
    ∷ heads 3 2 2 "S,I,1,1,0,2,2,3,2"
    ∷ heads 3 3 3 "S,I,1,1,0,3,2,3,3"
    ∷ heads 0x2d 0x2d 3 "S,J,1,1,2,5,6,2d,2d"
    -- then J before I: windows 3, 1 have as many of all three
    ∷ heads 0x5a 0x2b 2 "S,J,1,1,2,6,7,5a,2b"
    -- then smaller m1: so have windows 3, 1
    ∷ heads 0x12d 0x66 2 "S,I,1,3,2,7,9,12d,66"
    ∷ []

-- ── limits ──────────────────────────────────────────────────────────────────────────────────

-- a sample: for k and l and a limit the next one that pays and its additions, or 0 and 0
pub record LimitSample : Type 0 where
  pub k : ℕ
  pub l : ℕ
  pub limit : ℕ
  pub next : ℕ
  pub additions : ℕ

-- what it says
abbrev pub LimitSays : LimitSample → Type 0
LimitSays s =
    (limit_told (Ok (next_limit (pos s.k) (pos s.l) s.limit)) ≡ s.next)
    × (additions_told (Ok (next_limit (pos s.k) (pos s.l) s.limit)) ≡ s.additions)

abbrev from : ℕ → ℕ → ℕ → ℕ → ℕ → LimitSample
from k l limit next additions = record { k = k; l = l; limit = limit; next = next; additions = additions }

abbrev pub limits : List LimitSample
limits =
    -- the very next limit pays, and the one behind it
    from 0x5a 0x2d 2 3 5
    ∷ from 0x2d 0 1 2 2
    ∷ from 0x2d 0 0 2 2
    -- none: as many additions, though fewer doublings, at 2; the highest limit
    ∷ from 3 0 0 0 0
    ∷ from 0x5a 0x2d 31 0 0
    ∷ []

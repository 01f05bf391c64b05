-- Samples of changed orders: one table of lines, by one computed test.
use Rattle.std.specs.Prelude.{◌≡◌, ℕ, pos}
use mathlib.Core.List.{List, [], ◌∷◌}
use Prim.Native.String.{String}
use Rattle.sheet.specs.Ascii.{ascii}
use Rattle.order.specs.Order.{Order}
use Rattle.changes.specs.Changed.{lines_of}

-- a sample: what the list has of one order, a line or nothing
pub data Sample : Type 0 where
  lists : (k l limit : ℕ) (line : String) → Sample

-- what a sample says
abbrev pub order : ℕ → ℕ → ℕ → Order
order k l limit = record { k = pos k; l = pos l; slots = limit }

abbrev pub Says : Sample → Type 0
Says (lists k l limit line) = lines_of (order k l limit ∷ []) ≡ ascii line

abbrev pub samples : List Sample
samples =
    -- to windows 3, 1; not within one slot
    lists 3 0 2 "3,0,2,I,1,1,I,3,1\n"
    ∷ lists 3 0 1 ""
    -- to windows 1, 3; to J; a scalar of a letter
    ∷ lists 0 3 3 "0,3,3,I,1,1,I,1,3\n"
    ∷ lists 6 11 2 "6,b,2,I,1,1,J,1,1\n"
    ∷ lists 12 0 2 "c,0,2,I,1,1,I,3,1\n"
    -- as many doublings
    ∷ lists 3 2 2 ""
    ∷ []

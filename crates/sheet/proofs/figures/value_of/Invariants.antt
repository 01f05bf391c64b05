-- `value_of` meets its contract. The loop's invariant: the number so far, with the figures from here on behind it, is the whole number.
use mathlib.Core.Path.{◌≡◌}
use mathlib.Core.Bool.{true}
use Prim.Native.Nat.{◌<◌, ◌^◌}
use lib.ListN.{drop}
use Rattle.sheet.specs.Numeral.{figures, followed}
use Rattle.sheet.proofs.figures.value_of.Given as goal

abbrev pub invariant-loop-byte : goal.invariant-loop-byte
invariant-loop-byte l =
    (l.value < 10 ^ l.byte-index) × (figures 10 (drop l.byte-index l.field) ≡ true) × (followed 10 l.value (drop l.byte-index l.field) ≡ followed 10 0 l.field)

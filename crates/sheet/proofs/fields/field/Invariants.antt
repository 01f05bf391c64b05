-- `field` meets its contract. The loop's invariant: the fields from `at` on, without those still to be passed, are those from k on.
use mathlib.Core.Path.{◌≡◌}
use mathlib.Core.List.{[]}
use Prim.Native.Nat.{◌≤◌, ◌-◌}
use lib.ListN.{length, get_or, drop}
use Rattle.sheet.specs.Spelling.{comma, cut}
use Rattle.sheet.proofs.fields.field.Given as goal

abbrev pub invariant-loop : goal.invariant-loop
invariant-loop l = (l.at ≤ length l.s) × (get_or (cut comma (drop l.at l.s)) (l.k - l.counter) [] ≡ get_or (cut comma l.s) l.k [])

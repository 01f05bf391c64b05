-- `reaches` meets its contract. The loop's invariant: the limbs that are left, with what is carried to them, agree exactly if all do.
use mathlib.Core.Path.{◌≡◌}
use Prim.Native.Nat.{◌+◌, ◌-◌, ◌*◌, ◌≤◌}
use lib.Dec.{eqb}
use lib.ListN.{length, drop}
use Rattle.sheet.specs.Numeral.{followed}
use Rattle.survey.specs.Sum.{value}
use Rattle.reader.specs.Scalar.{before}
use Rattle.reader.proofs.compare.reaches.Given as goal

abbrev pub invariant-loop-x : goal.invariant-loop-x
invariant-loop-x l = (l.end ≡ length l.figures - 4 * length l.yielded) × (l.left ≤ 281474976710656) × (l.right ≤ 281474976710656) × (eqb (before l.figures l.end + value (drop (length l.yielded) l.from) + l.left) (value (drop (length l.yielded) l.to) + l.right) ≡ eqb (followed 16 0 l.figures + value l.from) (value l.to))

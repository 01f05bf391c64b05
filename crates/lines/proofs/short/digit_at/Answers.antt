-- `digit_at` meets its contract: what its tests chose, and the law of ShortRead.
use native.Mathlib.Omega.{arith}
use mathlib.Core.Path.{◌≡◌, refl}
use mathlib.Core.Bool.{cond}
use mathlib.Core.List.{List}
use Prim.Native.Nat.{ℕ, ◌+◌, ◌*◌, ◌≤◌}
use lib.Dec.{eqb, ltb}
use lib.ListN.{get_or}
use borrow.Author.Rules.{rules}
use borrow.Author.Tests.{ltb-true}
use Rattle.digits.specs.Scalar.Sized.{both}
use Rattle.lines.proofs.ShortRead.{moved, spelled, takes}
use Rattle.lines.proofs.short.digit_at.Goals.{Joined-negative, then-negative, else-negative, then-two, else-two, then-two-2, else-two-2}
use Rattle.lines.proofs.short.digit_at.Goals as goal

module _ (c : Joined-negative) where
  abbrev s : List ℕ
  s = c.args.s.now

  abbrev at : ℕ
  at = c.args.at

  from_is : c.if-negative.from ≡ cond (eqb (get_or s at 0) 45) (at + 1) at
  from_is = elim c.if-negative.branch [ then-negative w ↦ search rules | else-negative w ↦ search rules ]

  near : (at ≤ c.if-negative.from) × (c.if-negative.from ≤ at + 1)
  near = moved (eqb (get_or s at 0) 45) at c.if-negative.from from_is

pub returns : goal.returns
returns c =
    let two = ltb c.figure_of-second.result 10 in
    let size_is : c.if-two.size ≡ cond two (10 * c.figure_of-first.result + c.figure_of-second.result) c.figure_of-first.result = elim c.if-two.branch [ then-two w ↦ search rules | else-two w ↦ search rules ] in
    let end_is : c.if-two-2.end ≡ cond two (c.if-negative.from + 1 + 1) (c.if-negative.from + 1) = elim c.if-two-2.branch [ then-two-2 w ↦ search rules | else-two-2 w ↦ search rules ] in
    record {
      later = omega (arith, near (goal.at.returns c).Joined-negative, moved two (c.if-negative.from + 1) c.if-two-2.end end_is);
      near = omega (arith, near (goal.at.returns c).Joined-negative, moved two (c.if-negative.from + 1) c.if-two-2.end end_is);
      spells =
          λ e. let (low, zero) = both _ _ e in
          spelled (c.args.s.now) (c.args.at) c.if-negative.from c.figure_of-first.result c.figure_of-second.result c.if-two.size c.if-two-2.end c.requires
          c.figure_of-first.ensures c.figure_of-second.ensures (ltb-true c.figure_of-first.result 10 low)
          (eqb (get_or (c.args.s.now) (c.args.at) 0) 45) two refl refl zero (from_is (goal.at.returns c).Joined-negative) size_is end_is;
      takes =
          takes (c.args.s.now) (c.args.at) c.if-negative.from c.figure_of-first.result c.figure_of-second.result c.if-two-2.end
          c.figure_of-first.ensures c.figure_of-second.ensures (from_is (goal.at.returns c).Joined-negative) end_is;
    }

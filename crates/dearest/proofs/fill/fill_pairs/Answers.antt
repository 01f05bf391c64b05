-- `fill_pairs` meets its contract: what is laid are the bytes of the pairs.
use mathlib.Core.Path.{◌≡◌}
use mathlib.Core.List.{List}
use Prim.Native.Nat.{ℕ, ◌/◌}
use native.Mathlib.Omega.{arith}
use lib.ListN.{length}
use Rattle.dearest.proofs.PairBytes.{laid, first, cleared, no_part, one_part}
use Rattle.dearest.proofs.fill.fill_pairs.Goals.{After-fill_from}
use Rattle.dearest.proofs.fill.fill_pairs.Goals as goal

-- once bytes of four pairs are laid
module _ (c : After-fill_from) where
  abbrev n : ℕ
  n = c.args.n

  abbrev long : ℕ
  long = length c.args.bytes.now

  abbrev out : List ℕ
  out = c.fill_from.new.bytes

  laid-is : out ≡ laid (first n long c.requires) (n / 4)
  laid-is = cleared n long c.requires c.clear.new.buffer out c.clear.ensures c.fill_from.ensures

pub returns-then-n-gt0 : goal.returns-then-n-gt0
returns-then-n-gt0 c =
    one_part (c.args.n) (long (goal.at.returns-then-n-gt0 c).After-fill_from) c.requires (c.fill_from.new.bytes) c.part_of.result c.if-n-gt0.true (laid-is (goal.at.returns-then-n-gt0 c).After-fill_from) c.part_of.ensures

pub returns-else-n-gt0 : goal.returns-else-n-gt0
returns-else-n-gt0 c =
    no_part (c.args.n) (long (goal.at.returns-else-n-gt0 c).After-fill_from) c.requires (c.fill_from.new.bytes) (omega (arith, c.if-n-gt0.false)) (laid-is (goal.at.returns-else-n-gt0 c).After-fill_from)

-- `put_odds` meets its contract. The loop's invariant: what is left of the lines are those of the odd multiples from n on
-- (TableBytes). The measure is what n is short of m + 1.
use Prim.Native.Nat.{◌≤◌, ◌+◌, ◌<◌}
use Rattle.std.proofs.Common.{arith, rules}
use Rattle.writer.proofs.TableBytes.{fill_start, fill_room, fill_turn, fill_stop}
use Rattle.writer.proofs.tables.put_odds.Goals as goal

pub loop-n-init : goal.loop-n-init
loop-n-init c = fill_start c.args.base c.args.m c.requires.0 c.args.out.now c.args.at

pub put_multiple-next-requires : goal.put_multiple-next-requires
put_multiple-next-requires c =
    let most : c.loop-n.n ≤ c.args.m = c.loop-n-test.true in
    (omega (arith, c.requires.0.within), fill_room c.args.base c.args.m c.requires.0 c.args.out.now c.args.at c.loop-n.invariant c.requires.1 most)

pub loop-n-preserved : goal.loop-n-preserved
loop-n-preserved c =
    fill_turn c.args.base c.args.m c.requires.0 c.args.out.now c.args.at c.loop-n.invariant c.loop-n-test.true c.put_multiple-next.ensures

pub returns : goal.returns
returns c =
    fill_stop c.args.base c.args.m c.requires.0 c.args.out.now c.args.at c.loop-n.invariant c.loop-n-test.false

pub returns-2 : goal.returns-2
returns-2 c =
    let last : c.args.m < c.loop-n.n + 2 = search rules in
    fill_stop c.args.base c.args.m c.requires.0 c.args.out.now c.args.at
    (fill_turn c.args.base c.args.m c.requires.0 c.args.out.now c.args.at c.loop-n.invariant c.loop-n-test.true c.put_multiple-next.ensures) last

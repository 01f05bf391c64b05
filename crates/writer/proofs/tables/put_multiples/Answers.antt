-- Nothing, or twice the point and the odd multiples (TableBytes).
use mathlib.Core.Path.{sym}
use native.Mathlib.Omega.{arith}
use Rattle.writer.proofs.TableBytes.{window_none, window_some}
use Rattle.writer.proofs.Puts.{put_none, put_append, put_same, room_first, room_same, room_second}
use Rattle.writer.proofs.tables.put_multiples.Goals as goal

pub returns-then-m-lt3 : goal.returns-then-m-lt3
returns-then-m-lt3 c = put_same (sym (window_none c.args.base c.args.m c.if-m-lt3.true)) (put_none c.args.out.now c.args.at)

pub put_multiple-next-requires : goal.put_multiple-next-requires
put_multiple-next-requires c = (omega arith, room_first _ (room_same (window_some c.args.base c.args.m c.if-m-lt3.false) c.requires.1))

pub put_odds-requires : goal.put_odds-requires
put_odds-requires c =
    (c.requires.0, room_second c.put_multiple-next.ensures _ (room_same (window_some c.args.base c.args.m c.if-m-lt3.false) c.requires.1))

pub returns : goal.returns
returns c = put_same (sym (window_some c.args.base c.args.m c.if-m-lt3.false)) (put_append c.put_multiple-next.ensures c.put_odds.ensures)

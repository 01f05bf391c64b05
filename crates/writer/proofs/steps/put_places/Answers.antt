-- Nothing where there is no place; else the steps of the top place, and the places below it (StepBytes).
use mathlib.Core.Path.{sym}
use native.Mathlib.Omega.{arith}
use Rattle.writer.proofs.StepBytes.{all_steps, no_places}
use Rattle.writer.proofs.Puts.{put_none, put_append, put_same, room_first, room_same, room_second}
use Rattle.writer.proofs.steps.put_places.Goals as goal

pub returns-then-places-eq0 : goal.returns-then-places-eq0
returns-then-places-eq0 c = put_same (sym (no_places c.args.plan c.args.p.now c.args.q.now c.args.places c.if-places-eq0.true)) (put_none c.args.out.now c.args.at)

pub put_steps-next-requires : goal.put_steps-next-requires
put_steps-next-requires c =
    room_first _ (room_same (all_steps c.args.plan c.args.p.now c.args.q.now c.args.places (omega arith) c.requires.places.1) c.requires.room)

pub put_moves-requires : goal.put_moves-requires
put_moves-requires c =
    ((omega (arith, c.requires.places.0.0), omega (arith, c.requires.places.0.1)), room_second c.put_steps-next.ensures _ (room_same (all_steps c.args.plan c.args.p.now c.args.q.now c.args.places (omega arith) c.requires.places.1) c.requires.room))

pub returns : goal.returns
returns c =
    put_same (sym (all_steps c.args.plan c.args.p.now c.args.q.now c.args.places (omega arith) c.requires.places.1)) (put_append c.put_steps-next.ensures c.put_moves.ensures)

-- Where the digit of P is 0 the step of Q is the first one.
use mathlib.Core.Path.{sym}
use Rattle.writer.proofs.StepBytes.{rows_first}
use Rattle.writer.proofs.Puts.{put_append, put_same, room_first, room_same, room_second}
use Rattle.writer.proofs.steps.put_rows.Goals as goal

pub put_point-next-requires : goal.put_point-next-requires
put_point-next-requires c = room_first _ (room_same (rows_first c.args.letter c.args.p c.args.q c.if-p-eq0.false) c.requires)

pub put_step-requires-2 : goal.put_step-requires-2
put_step-requires-2 c = room_second c.put_point-next.ensures _ (room_same (rows_first c.args.letter c.args.p c.args.q c.if-p-eq0.false) c.requires)

pub returns : goal.returns
returns c = put_same (sym (rows_first c.args.letter c.args.p c.args.q c.if-p-eq0.false)) (put_append c.put_point-next.ensures c.put_step-2.ensures)

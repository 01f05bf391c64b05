-- Six puts, one behind another, are the line.
use Rattle.writer.specs.Body.Parts.{point_line}
use Rattle.writer.proofs.Puts.{put_append, room_first, room_second, room_next}
use Rattle.writer.proofs.put.put_point.Goals as goal

pub put_byte-a-requires : goal.put_byte-a-requires
unfolding point_line
put_byte-a-requires c = room_first _ c.requires

pub put_byte-b-requires : goal.put_byte-b-requires
unfolding point_line
put_byte-b-requires c = room_next c.put_byte-a.ensures _ c.requires

pub put_digit-c-requires : goal.put_digit-c-requires
unfolding point_line
put_digit-c-requires c = room_next c.put_byte-b.ensures _ (room_second c.put_byte-a.ensures _ c.requires)

pub put_byte-d-requires : goal.put_byte-d-requires
unfolding point_line
put_byte-d-requires c = room_next c.put_digit-c.ensures _ (room_second c.put_byte-b.ensures _ (room_second c.put_byte-a.ensures _ c.requires))

pub put_digit-e-requires : goal.put_digit-e-requires
unfolding point_line
put_digit-e-requires c = room_next c.put_byte-d.ensures _ (room_second c.put_digit-c.ensures _ (room_second c.put_byte-b.ensures _ (room_second c.put_byte-a.ensures _ c.requires)))

pub put_byte-requires : goal.put_byte-requires
unfolding point_line
put_byte-requires c = room_second c.put_digit-e.ensures _ (room_second c.put_byte-d.ensures _ (room_second c.put_digit-c.ensures _ (room_second c.put_byte-b.ensures _ (room_second c.put_byte-a.ensures _ c.requires))))

pub returns : goal.returns
unfolding point_line
returns c = put_append c.put_byte-a.ensures (put_append c.put_byte-b.ensures (put_append c.put_digit-c.ensures (put_append c.put_byte-d.ensures (put_append c.put_digit-e.ensures c.put_byte.ensures))))

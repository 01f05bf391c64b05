-- Five decimals, one behind another.
use Rattle.writer.specs.Body.Parts.{decimals_of}
use Rattle.writer.proofs.Puts.{put_append, room_first, room_second, room_next}
use Rattle.writer.proofs.header.put_decimals.Goals as goal

pub put_field-a-requires : goal.put_field-a-requires
unfolding decimals_of
put_field-a-requires c = room_first _ c.requires

pub put_field-b-requires : goal.put_field-b-requires
unfolding decimals_of
put_field-b-requires c = room_next c.put_field-a.ensures _ c.requires

pub put_field-c-requires : goal.put_field-c-requires
unfolding decimals_of
put_field-c-requires c = room_next c.put_field-b.ensures _ (room_second c.put_field-a.ensures _ c.requires)

pub put_field-d-requires : goal.put_field-d-requires
unfolding decimals_of
put_field-d-requires c = room_next c.put_field-c.ensures _ (room_second c.put_field-b.ensures _ (room_second c.put_field-a.ensures _ c.requires))

pub put_field-requires : goal.put_field-requires
unfolding decimals_of
put_field-requires c = room_second c.put_field-d.ensures _ (room_second c.put_field-c.ensures _ (room_second c.put_field-b.ensures _ (room_second c.put_field-a.ensures _ c.requires)))

pub returns : goal.returns
unfolding decimals_of
returns c = put_append c.put_field-a.ensures (put_append c.put_field-b.ensures (put_append c.put_field-c.ensures (put_append c.put_field-d.ensures c.put_field.ensures)))

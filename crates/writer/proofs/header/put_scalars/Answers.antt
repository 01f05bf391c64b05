-- Two scalars, each with a byte behind it.
use Rattle.writer.specs.Body.Parts.{scalars_of}
use Rattle.writer.proofs.Puts.{put_append, room_first, room_second, room_next}
use Rattle.writer.proofs.header.put_scalars.Goals as goal

pub put_signed-a-requires : goal.put_signed-a-requires
unfolding scalars_of
put_signed-a-requires c = room_first _ c.requires

pub put_byte-b-requires : goal.put_byte-b-requires
unfolding scalars_of
put_byte-b-requires c = room_next c.put_signed-a.ensures _ c.requires

pub put_signed-c-requires : goal.put_signed-c-requires
unfolding scalars_of
put_signed-c-requires c = room_next c.put_byte-b.ensures _ (room_second c.put_signed-a.ensures _ c.requires)

pub put_byte-requires : goal.put_byte-requires
unfolding scalars_of
put_byte-requires c = room_second c.put_signed-c.ensures _ (room_second c.put_byte-b.ensures _ (room_second c.put_signed-a.ensures _ c.requires))

pub returns : goal.returns
unfolding scalars_of
returns c = put_append c.put_signed-a.ensures (put_append c.put_byte-b.ensures (put_append c.put_signed-c.ensures c.put_byte.ensures))

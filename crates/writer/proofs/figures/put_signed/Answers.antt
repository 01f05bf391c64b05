-- A minus where the scalar is negative, and its figures (Signs).
use mathlib.Core.Path.{sym}
use Rattle.writer.proofs.Puts.{put_append, put_same, room_first, room_same, room_second}
use Rattle.writer.proofs.Signs.{spelled_signed}
use Rattle.writer.proofs.figures.put_signed.Goals as goal

pub put_minus-next-requires : goal.put_minus-next-requires
put_minus-next-requires c = room_first _ (room_same (spelled_signed c.args.k.bytes.now c.args.k.sign) c.requires)

pub put_scalar-requires : goal.put_scalar-requires
put_scalar-requires c = room_second c.put_minus-next.ensures _ (room_same (spelled_signed c.args.k.bytes.now c.args.k.sign) c.requires)

pub returns : goal.returns
returns c = put_same (sym (spelled_signed c.args.k.bytes.now c.args.k.sign)) (put_append c.put_minus-next.ensures c.put_scalar.ensures)

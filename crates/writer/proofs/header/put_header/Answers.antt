-- The letters, the decimals and the scalars (SheetBytes).
use mathlib.Core.Path.{sym, refl}
use Rattle.writer.proofs.SheetBytes.{header_parts}
use Rattle.writer.proofs.Puts.{put_append, put_same, room_first, room_same, room_second, room_next}
use Rattle.writer.proofs.header.put_header.Goals as goal

pub put_letters-a-requires : goal.put_letters-a-requires
put_letters-a-requires c = room_first _ (room_same (header_parts c.args.plan c.args.additions c.args.doublings _ _ c.letter_of.ensures refl refl) c.requires)

pub put_decimals-b-requires : goal.put_decimals-b-requires
put_decimals-b-requires c =
    room_next c.put_letters-a.ensures _
    (room_same (header_parts c.args.plan c.args.additions c.args.doublings _ _ c.letter_of.ensures c.limits.ensures c.slots.ensures) c.requires)

pub put_scalars-requires : goal.put_scalars-requires
put_scalars-requires c =
    room_second c.put_decimals-b.ensures _ (room_second c.put_letters-a.ensures _
    (room_same (header_parts c.args.plan c.args.additions c.args.doublings _ _ c.letter_of.ensures c.limits.ensures c.slots.ensures) c.requires))

pub returns : goal.returns
returns c =
    put_same (sym (header_parts c.args.plan c.args.additions c.args.doublings _ _ c.letter_of.ensures c.limits.ensures c.slots.ensures))
    (put_append c.put_letters-a.ensures (put_append c.put_decimals-b.ensures c.put_scalars.ensures))

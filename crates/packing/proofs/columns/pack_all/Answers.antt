-- `pack_all` meets its contract: at the end each byte is its column's.
use Rattle.std.proofs.Common.{sym, arith, ◌∙◌}
use Rattle.std.proofs.lemmas.List.{ext_get_or}
use Rattle.packing.specs.Packing.Places.{packed_length, packed_at}
use Rattle.packing.proofs.columns.pack_all.Goals as goal

pub returns : goal.returns
returns c =
    let room = c.requires.room in
    ext_get_or 0 _ _ (c.loop-i.auto.packed ∙ sym (packed_length _ _ _ room.0 room.1))
    (λ j h. c.loop-i.invariant j (omega (arith, c.loop-i.auto, c.loop-i-test.false)) ∙ sym (packed_at _ _ _ j room.0 room.1 (omega (arith, c.loop-i.auto))))

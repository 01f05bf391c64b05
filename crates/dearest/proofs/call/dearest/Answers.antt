-- Where both questions are met the scalar is the dearest one, by its closed form.
use Rattle.std.proofs.Common.{sym, ap₂, ◌∙◌}
use borrow.Author.Tests.{eqb-true}
use lib.ListN.{length}
use Rattle.digits.specs.Limits.{card}
use Rattle.dearest.specs.Bytes.{in_bytes}
use Rattle.dearest.proofs.Laws.Call.Returned.{size_is, found}
use Rattle.dearest.proofs.Laws.Dearest.Closed.{dearest_pairs, most_closed}
use Rattle.dearest.proofs.call.dearest.Goals as goal

pub returns : goal.returns
returns c =
    let a = c.args in
    let some = (size_is a.bits c.in_ok-check_size.ensures).0 in
    let room = eqb-true (length a.scalar.now) card.bytes c.in_ok-check_room.ensures in
    let old = found a.bits a.scalar.now c.most_of.result c.fill.new.bytes c.in_ok-check_size.ensures c.in_ok-check_room.ensures (c.most_of.ensures ∙ sym (most_closed a.bits some))
    (c.fill.ensures ∙ ap₂ in_bytes room (sym (dearest_pairs a.bits some))) in
    record { answer = old.0; buffer = old.1.0; promised = old.1.1.0; question = old.1.1.1 }

-- What the call leaves in its buffer, as far as it counts, is the list.
use Rattle.std.proofs.Common.{◌≡◌, OnOk, take, replicate, sym, subst, length-take-le}
use Rattle.std.proofs.Math.Seq.{take-append_seam}
use Rattle.std.specs.Io.KnownBytes.{Appends}
use Rattle.changes.specs.Changed.{changed_orders, changes_length, changes_buffer}
use Rattle.changes.proofs.Laws.Promise.{changes_fit}
use Rattle.changes_main.proofs.print_changes.Goals as goal

take_changes : take (changes_length 18432) (changes_buffer (replicate 18432 0)) ≡ changed_orders
unfolding changes_length changes_buffer
take_changes = take-append_seam changed_orders _

pub slice_bounds-text-end : goal.slice_bounds-text-end
slice_bounds-text-end g c = rw (c.changed_orders-length.ensures.answer, c.changed_orders-length.ensures.buffer) (changes_fit _)

pub slice_bounds-write_all-end : goal.slice_bounds-write_all-end
slice_bounds-write_all-end g c = sym (length-take-le _ _ (rw (c.changed_orders-length.ensures.answer, c.changed_orders-length.ensures.buffer) (changes_fit _)))

pub returns : goal.returns
returns g c =
    let whole : take c.changed_orders-length.result c.changed_orders-length.new.out ≡ changed_orders =
    rw (c.changed_orders-length.ensures.answer, c.changed_orders-length.ensures.buffer) take_changes
    in
    subst (λ text. OnOk c.write_all.result (Appends (g.W.Write.contents c.args.output.now) (g.W.Write.contents c.write_all.new.self) text)) whole c.write_all.ensures.bytes

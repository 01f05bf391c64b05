-- `row_sizes` meets its contract. The loop's invariant: the sizes of the first i windows stand.
use Rattle.std.proofs.Common.{◌∙◌, sym, arith}
use Rattle.std.proofs.lemmas.List.{ext_get_or}
use Rattle.digits.specs.Scalar.{scalar}
use Rattle.chooser.specs.Body.Sizes.{none, row_sizes}
use Rattle.chooser.proofs.Windows.{sizes_length, sizes_at}
use Rattle.chooser.proofs.sizes.row_sizes.Goals as goal

pub returns : goal.returns
returns c =
    let k = scalar c.args.k.scalar.bytes.now in
    ext_get_or none c.loop-i.size-items (row_sizes c.args.limit k) (c.loop-i.invariant.0 ∙ sym (sizes_length c.args.limit k))
    (λ i h. c.loop-i.invariant.1 i (omega (arith, c.loop-i.invariant.0)) ∙ sym (sizes_at c.args.limit k i (omega (arith, c.loop-i.invariant.0))))

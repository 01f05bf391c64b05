-- `scalar_with` meets its contract. The loop's invariant: the bytes so far are the number of two figures for each of them.
use Rattle.std.proofs.Common.{◌≡◌, refl, ap, ◌∙◌, ◌++◌, ℕ, pos, ◌+◌, ◌/◌, ◌%◌, arith, length, replicate}
use Rattle.digits.specs.Integer.{signed_by}
use Rattle.digits.specs.Scalar.{signed_scalar}
use Rattle.order.proofs.Hexadecimal.{made_none, made_more, made_all, zeros, padded_figures, padded_length}
use Rattle.order.proofs.scalar.scalar_with.Goals as goal

pub loop-i-init : goal.loop-i-init
loop-i-init c = made_none (replicate (length c.args.field.now % 2) 48 ++ c.args.field.now) (replicate 66 0) refl (zeros 66)

pub loop-i-preserved : goal.loop-i-preserved
loop-i-preserved c =
    let f = c.args.field.now in
    let pad = length c.args.field.now % 2 in
    made_more (replicate pad 48 ++ f) c.loop-i.bytes c.loop-i.i c.figure_at.result c.figure_at-in-loop-i.result (omega (arith, c.requires))
    (omega (arith, padded_length pad f)) c.figure_at.ensures.0 c.figure_at-in-loop-i.ensures.0
    (omega (arith, c.figure_at.ensures.1, c.figure_at-in-loop-i.ensures.1)) c.loop-i.invariant

pub returns : goal.returns
unfolding signed_scalar
returns c =
    let f = c.args.field.now in
    let pad = length f % 2 in
    let len = (length f + pad) / 2 in
    let all : c.loop-i.i ≡ (length c.args.field.now + length c.args.field.now % 2) / 2 = omega arith in
    ap (λ (n : ℕ). signed_by c.args.sign (pos n))
    (made_all (replicate pad 48 ++ f) c.loop-i.bytes len (omega (arith, padded_length pad f)) (rw all at c.loop-i.invariant) ∙ padded_figures pad f)

pub invariant_of-result : goal.invariant_of-result
invariant_of-result c = (omega (arith, c.requires), (omega (arith, c.requires), c.loop-i.invariant.are_bytes))

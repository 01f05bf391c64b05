-- `joint_size` meets its contract: the joint call tells the size of the joint form (Measuring).
use Rattle.std.proofs.Common.{◌∙◌, arith, replicate}
use Rattle.chooser.proofs.Measuring.{joint_fits, joint_measured}
use Rattle.chooser.proofs.sizes.joint_size.Goals as goal

pub size_told-requires : goal.size_told-requires
size_told-requires c =
    let k = c.args.k.scalar in
    let l = c.args.l.scalar in
    joint_fits k.bytes.now l.bytes.now (replicate 1025 0) (replicate 1025 0) (rw (c.unsigned-k.ensures.0, c.unsigned-k.ensures.1, c.unsigned-l.ensures.0, c.unsigned-l.ensures.1) at c.joint.ensures.answer) k.are_bytes l.are_bytes

pub returns : goal.returns
returns c =
    let k = c.args.k in
    let l = c.args.l in
    c.size_told.ensures
    ∙ joint_measured k.scalar.bytes.now l.scalar.bytes.now (replicate 1025 0) (replicate 1025 0) (rw (c.unsigned-k.ensures.0, c.unsigned-k.ensures.1, c.unsigned-l.ensures.0, c.unsigned-l.ensures.1) at c.joint.ensures.answer) k.some k.few l.some l.few (omega arith) (omega arith)

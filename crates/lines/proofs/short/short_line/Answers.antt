-- `short_line` meets its contract: each of its tests is one byte or digit of the line (ShortRead).
use native.Mathlib.Omega.{arith}
use borrow.Author.Tests.{eqb-true}
use Rattle.digits.specs.Scalar.Sized.{both}
use Rattle.lines.proofs.ShortRead.{begins, fits}
use Rattle.lines.proofs.short.short_line.Goals as goal

pub returns-clause-begins : goal.returns-clause-begins
returns-clause-begins c =
    λ met.
    let (but-q, q-fits) = both _ _ met in
    let (bytes, p-fits) = both _ _ but-q in
    let (begun, ended) = both _ _ bytes in
    let (known, parted) = both _ _ begun in
    let (first, second) = both _ _ parted in
    begins c.args.s.now c.digit_at-p.result.end c.digit_at-q.result.end _ _ c.requires c.digit_at-p.ensures.near (omega (arith, c.digit_at-p.ensures.near, c.digit_at-q.ensures.near))
    known (eqb-true _ _ first) (eqb-true _ _ second) (eqb-true _ _ ended) (c.digit_at-p.ensures.spells p-fits) (c.digit_at-q.ensures.spells q-fits)

pub returns-clause-takes : goal.returns-clause-takes
returns-clause-takes c =
    λ f. fits c.args.s.now c.digit_at-p.result.end c.digit_at-q.result.end _ _ f c.digit_at-p.ensures.takes c.digit_at-q.ensures.takes

-- `reaches` meets its contract: a limb more, or the last one, is one law of LimbTurns.
use native.Mathlib.Omega.{arith}
use mathlib.Core.Path.{◌≡◌, ap, ◌∙◌}
use mathlib.Core.List.{[], ◌∷◌}
use lib.ListN.{length, length-append}
use Rattle.std.proofs.Common.{rules}
use Rattle.std.proofs.lemmas.Slice.Zip.{zip_turn, zip_end}
use Rattle.reader.specs.Scalar.{before}
use Rattle.reader.proofs.LimbTurns.{before_none, sum_turn, sum_stop, sum_end}
use Rattle.reader.proofs.compare.reaches.Goals as goal

pub returns-then-a-b : goal.returns-then-a-b
returns-then-a-b c =
    let a = c.args in
    let at = c.loop-x in
    let low = c.limb_before-low in
    let z = zip_turn a.from.now a.to.now at.yielded _ at.x-iterator c.next.new.self c.next.result (search rules) (search rules) at.yielded_by _ c.in-Some.is c.next.ensures.steps in
    sum_stop (before a.figures.now at.end) (before a.figures.now low.result.start) low.result.value low.ensures.is a.from.now a.to.now (length at.yielded) at.left at.right c.in-Some.x.now c.in-Some.y.now z.0 z.1 (z.2 0) (z.3 0) c.if-a-b.true
    ∙ at.invariant.3

pub loop-x-preserved : goal.loop-x-preserved
loop-x-preserved c =
    let a = c.args in
    let at = c.loop-x in
    let low = c.limb_before-low in
    let z = zip_turn a.from.now a.to.now at.yielded _ at.x-iterator c.next.new.self c.next.result (search rules) (search rules) at.yielded_by _ c.in-Some.is c.next.ensures.steps in
    let more = length-append at.yielded ((c.in-Some.x, c.in-Some.y) ∷ []) in (
      omega (arith, low.ensures.start, at.invariant.0, more),
      omega (arith, low.ensures.small, c.requires.roomy.0.high (length at.yielded) z.0, z.2 0, at.invariant.1),
      omega (arith, c.requires.roomy.1.0.high (length at.yielded) z.1, z.3 0, at.invariant.2),
      sum_turn (before a.figures.now at.end) (before a.figures.now low.result.start) low.result.value low.ensures.is a.from.now a.to.now (length at.yielded) at.left at.right c.in-Some.x.now c.in-Some.y.now z.0 z.1 (z.2 0) (z.3 0) _ more c.if-a-b.false
          ∙ at.invariant.3,
    )

pub returns : goal.returns
returns c =
    let a = c.args in
    let at = c.loop-x in
    let all = zip_end a.from.now a.to.now at.yielded _ at.x-iterator c.next.new.self c.next.result (search rules) (search rules) at.yielded_by c.in-None.is c.next.ensures.steps in
    let none : at.end ≡ 0 = omega (arith, at.invariant.0, c.requires.figured.1, c.requires.roomy.1.1, all) in
    sum_end (before a.figures.now at.end) a.from.now a.to.now (length at.yielded) at.left at.right
    (ap (before a.figures.now) none ∙ before_none a.figures.now)
    (omega (arith, c.requires.roomy.1.1, all)) (omega (arith, c.requires.roomy.1.1, all))
    ∙ at.invariant.3

-- `scan_from` meets its contract. The loop's invariant, for any limits: the state says of the lines from `at` on what the first one says of
-- all (ScanTurns), and the sums with those lines come to what all lines come to (TotalTurns).
use native.Mathlib.Omega.{arith}
use mathlib.Core.Path.{◌≡◌, sym, ap, ◌∙◌}
use mathlib.Core.List.{[]}
use mathlib.Core.Option.{some}
use Prim.Native.Nat.{◌≤◌}
use lib.ListN.{drop, drop_of_length-le}
use Rattle.digits.specs.declared.limits.Limits.{Limits}
use Rattle.digits.specs.Limits.{card}
use Rattle.sheet.specs.Spelling.{lines}
use Rattle.sheet.specs.Spelling.Cut.{lines_none}
use Rattle.survey.specs.Sum.{most}
use Rattle.survey.specs.Survey.State.{is_placed, misplaced_from}
use Rattle.survey.proofs.PhaseTurns.{out_of_place}
use Rattle.survey.proofs.ScanTurns.{going_start, going_same, going_turn, going_end, places_most, counted_turn}
use Rattle.digits.specs.Two.{P, Q}
use Rattle.survey.proofs.Digits.{roomy}
use Rattle.survey.proofs.TotalTurns.{running_start, running_turn, running_end, summed}
use Rattle.survey.proofs.scan.scan_from.Goals as goal

pub loop-at-init : goal.loop-at-init
loop-at-init c =
    let a = c.args in (
      c.requires.start.1.0,
      c.requires.start.1.1.0,
      c.requires.start.1.1.1,
      c.requires.cleared.0,
      λ limits h. let ls = lines limits (drop a.from a.sheet.now) in (
        going_start a.plan a.start ls,
        running_start P a.start.places a.from ls c.requires.cleared.1.0,
        running_start Q a.start.places a.from ls c.requires.cleared.1.1,
      ),
    )

pub add_line-requires : goal.add_line-requires
add_line-requires c =
    let r = c.loop-at.invariant.4 card (omega arith) in
    let h : c.loop-at.at ≤ most = omega (arith, c.loop-at.invariant.0, c.requires.start.0) in
    ((roomy r.1.holds.near h, roomy r.2.holds.near h), (omega (arith, c.loop-at.invariant.3, r.1.holds.near.long), omega (arith, c.loop-at.invariant.3, r.2.holds.near.long)))

pub loop-at-smaller : goal.loop-at-smaller
loop-at-smaller c = let t = c.line_at-taken.ensures.0 (omega arith) card (omega arith) in omega (arith, t.later, t.within)

pub loop-at-preserved : goal.loop-at-preserved
loop-at-preserved c =
    let found = c.line_at-taken.ensures.0 (omega arith) in
    let t = found card (omega arith) in
    let f = c.after-state.ensures t.meant t.is in (
      t.within,
      counted_turn c.loop-at.invariant.1 f (omega (arith, f.line, c.loop-at.invariant.2, t.later, t.within, c.requires.start.0)),
      omega (arith, f.line, c.loop-at.invariant.2, t.later),
      omega (arith, c.loop-at.invariant.3, f.places, places_most c.loop-at.state.places t.meant),
      λ limits h. let t = found limits h in
          let f = c.after-state.ensures t.meant t.is in
          let r = c.loop-at.invariant.4 limits h in (
            going_turn (going_same t.rest r.0) f,
            running_turn r.1 t.rest (c.add_line.ensures.first t.meant t.is) t.later f.places,
            running_turn r.2 t.rest (c.add_line.ensures.second t.meant t.is) t.later f.places,
          ),
    )

pub returns-then-not-is_placed-clause-scanned : goal.returns-then-not-is_placed-clause-scanned
returns-then-not-is_placed-clause-scanned c = λ limits h. let t = c.line_at-taken.ensures.0 (omega arith) limits h in
    let e = c.at.ensures in (
      e.0,
      sym (c.loop-at.invariant.4 limits h).0.misplaced
          ∙ ap (misplaced_from c.loop-at.state) t.rest
          ∙ out_of_place c.loop-at.state.phase t.meant c.loop-at.state.line _ (ap (is_placed c.loop-at.state.phase) (sym t.is) ∙ sym c.is_placed.ensures ∙ c.if-not-is_placed.true)
          ∙ ap some (sym e.1),
    )

pub returns : goal.returns
returns c =
    let a = c.args in
    let e : (limits : Limits) → lines limits (drop c.loop-at.at a.sheet.now) ≡ [] = λ limits. ap (lines limits) (drop_of_length-le a.sheet.now {i = c.loop-at.at} (omega arith)) ∙ lines_none limits in
    let few : c.loop-at.at ≤ most = omega (arith, c.loop-at.invariant.0, c.requires.start.0) in record { scanned = λ limits h. going_end a.plan a.start _ c.loop-at.state c.finished.result (going_same (e limits) (c.loop-at.invariant.4 limits h).0) (c.finished.ensures a.plan); first = λ limits h. summed P a.start _ c.finished.result (running_end (c.loop-at.invariant.4 limits h).1 (e limits) few); second = λ limits h. summed Q a.start _ c.finished.result (running_end (c.loop-at.invariant.4 limits h).2 (e limits) few) }

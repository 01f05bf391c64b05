-- `line_at` meets its contract: a D line is its two bytes, a short line is as it is spelled, and any other ends at the first line feed.
use native.Mathlib.Omega.{arith}
use mathlib.Core.Path.{ap, subst, ◌∙◌}
use mathlib.Core.List.{List}
use Prim.Native.Nat.{ℕ}
use lib.ListN.{drop, take, length-drop}
use Rattle.sheet.specs.Spelling.{line_feed, read_line}
use Rattle.sheet.specs.Spelling.Field.{First}
use Rattle.lines.specs.Coded.{Doubles, coded}
use Rattle.lines.specs.Short.{Begins}
use Rattle.sheet.proofs.CutTurns.{to_end}
use Rattle.lines.proofs.LineAt.{line_inside, took_line, took_last, took_double, took_short}
use Rattle.lines.proofs.line.line_at.Goals.{After-find-end, Then-is_double}
use Rattle.lines.proofs.line.line_at.Goals as goal

module _ (c : After-find-end) where
  first : First line_feed (drop c.args.at c.args.sheet.now) c.find-end.result
  first = subst (λ (l : List ℕ). First line_feed l c.find-end.result) (to_end c.args.sheet.now c.args.at) c.find-end.ensures

module _ (c : Then-is_double) where
  doubles : Doubles (drop c.args.at c.args.sheet.now)
  doubles = subst Doubles (to_end c.args.sheet.now c.args.at) (c.is_double.ensures c.if-is_double.true)

pub returns-then-is_double : goal.returns-then-is_double
returns-then-is_double c = line_inside (λ limits h. took_double limits c.args.sheet.now c.args.at c.if-sheet-at.false (doubles c))

pub returns-then-short : goal.returns-then-short
returns-then-short c =
    let s = c.args.sheet.now in
    let short = c.short_line-short.result in
    let b : Begins (drop c.args.at s) short.letter short.point short.end = subst (λ (l : List ℕ). Begins l short.letter short.point short.end) (to_end s c.args.at) (c.short_line-short.ensures.begins c.if-short.true) in
    line_inside (λ limits h. took_short limits h s c.args.at _ _ _ b _ (c.point_line.ensures b.point b.is))

pub returns-then-end-rest : goal.returns-then-end-rest
returns-then-end-rest c =
    let s = c.args.sheet.now in
    let i = c.args.at in
    line_inside
    (λ limits h. took_line limits s i _ (first (goal.at.returns-then-end-rest c).After-find-end) c.if-sheet-at.false (omega (arith, length-drop i s)) _
    (c.line_of.ensures limits ∙ ap (λ (l : List ℕ). coded (read_line limits (take c.find-end.result l))) (to_end s i)))

pub returns : goal.returns
returns c =
    let s = c.args.sheet.now in
    let i = c.args.at in
    line_inside (λ limits h. took_last limits s i _ (first (goal.at.returns c).After-find-end) c.if-sheet-at.false (omega (arith, length-drop i s)))

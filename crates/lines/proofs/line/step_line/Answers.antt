-- `step_line` meets its contract: the first field ends at the first comma, and no comma may follow.
use native.Mathlib.Omega.{arith}
use mathlib.Core.Path.{◌≡◌, ap, sym, subst, ◌∙◌}
use mathlib.Core.List.{List, [], ◌∷◌}
use mathlib.Core.Option.{Option}
use Prim.Native.Nat.{ℕ, ◌+◌, ◌-◌, ◌≤◌}
use lib.ListN.{length, take, drop, length-drop}
use Rattle.sheet.specs.Plan.{Point}
use Rattle.sheet.specs.Spelling.{comma, cut, read_point}
use Rattle.sheet.specs.Spelling.Field.{First}
use Rattle.sheet.proofs.CutTurns.{to_end}
use Rattle.lines.specs.Coded.{coded, coded_point, pointed, stepped}
use Rattle.lines.proofs.AsRead.{read_some, read_none}
use Rattle.lines.proofs.LineRead.{stepped_one, stepped_more, stepped_two}
use Rattle.lines.proofs.line.step_line.Goals.{After-find}
use Rattle.lines.proofs.line.step_line.Goals as goal

module _ (c : After-find) where
  second : First comma (drop (c.find-end.result + 1) c.args.s.now) c.find.result
  second = subst (λ (l : List ℕ). First comma l c.find.result) (to_end c.args.s.now (c.find-end.result + 1)) c.find.ensures

pub returns-then-find-last : goal.returns-then-find-last
returns-then-find-last c =
    let s = c.args.s.now in
    let from = c.find-end.result + 1 in
    ap coded (stepped_more s _ c.args.letter c.find-end.ensures c.if-end-s.true _ (second (goal.at.returns-then-find-last c).After-find) (omega (arith, length-drop from s)))

-- the point of the two fields
module _ (c : After-find) where
  two : length (take (length c.args.s.now - (c.find-end.result + 1)) (drop (c.find-end.result + 1) c.args.s.now)) ≤ c.find.result
      → coded (pointed c.args.letter (read_point ([] ∷ take c.find-end.result c.args.s.now ∷ take (length c.args.s.now - (c.find-end.result + 1)) (drop (c.find-end.result + 1) c.args.s.now) ∷ [])))
      ≡ coded (stepped c.args.letter (cut comma c.args.s.now))
  two h =
      let s = c.args.s.now in
      let end = c.find-end.result in
      ap (λ (l : List ℕ). coded (pointed c.args.letter (read_point ([] ∷ take end s ∷ l ∷ [])))) (to_end s (end + 1))
      ∙ ap coded (stepped_two s _ c.args.letter c.find-end.ensures c.if-end-s.true _ (second c) (omega (arith, h, length-drop (end + 1) s)))

pub returns-in-Some : goal.returns-in-Some
returns-in-Some c =
    let (t, read, is) = read_some _ c.in-Some.ensures in
    c.point_line.ensures t is ∙ ap (λ (o : Option Point). coded (pointed c.args.letter o)) (sym read) ∙ two (goal.at.returns-in-Some c).After-find c.if-find-last.false

pub returns-in-None : goal.returns-in-None
returns-in-None c = ap (λ (o : Option Point). coded (pointed c.args.letter o)) (sym (read_none coded_point _ c.in-None.ensures)) ∙ two (goal.at.returns-in-None c).After-find c.if-find-last.false

pub returns : goal.returns
returns c = ap coded (stepped_one c.args.s.now _ c.args.letter c.find-end.ensures c.if-end-s.false)

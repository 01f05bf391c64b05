-- `line_of` meets its contract: the letter ends at the first comma; each kind of line is one law of LineRead.
use borrow.Author.Rules.{rules}
use mathlib.Core.Path.{refl, sym, ap, ◌∙◌}
use mathlib.Core.List.{List}
use Prim.Native.Nat.{ℕ, ◌+◌}
use Rattle.sheet.specs.Spelling.{comma, cut}
use Rattle.sheet.proofs.CutTurns.{to_end}
use Rattle.lines.specs.Coded.{coded, stepped}
use Rattle.lines.proofs.HeaderRead.{letter_none}
use Rattle.lines.proofs.LineRead.{coded_none, coded_more, coded_d, coded_e, coded_other}
use Rattle.lines.proofs.line.line_of.Goals as goal

pub returns-in_default : goal.returns-in_default
returns-in_default c limits = coded_none limits c.args.s.now _ 0 c.find-end.ensures (sym (letter_none _ c.in_default.ensures)) refl

pub returns-then-end-s : goal.returns-then-end-s
returns-then-end-s c limits =
    let s = c.args.s.now in
    c.step_line.ensures
    ∙ ap (λ (l : List ℕ). coded (stepped c.in-Some.letter (cut comma l))) (to_end s (c.find-end.result + 1))
    ∙ coded_more limits s _ _ c.find-end.ensures (c.in-Some.ensures).1 c.if-end-s.true

pub returns-in-68 : goal.returns-in-68
returns-in-68 c limits = coded_d limits c.args.s.now _ _ c.find-end.ensures (c.in-Some.ensures).1 c.if-end-s.false c.in-68.is

pub returns-in-69 : goal.returns-in-69
returns-in-69 c limits = coded_e limits c.args.s.now _ _ c.find-end.ensures (c.in-Some.ensures).1 c.if-end-s.false c.in-69.is

pub returns-in_default-letter : goal.returns-in_default-letter
returns-in_default-letter c limits = coded_other limits c.args.s.now _ _ c.find-end.ensures (c.in-Some.ensures).1 c.if-end-s.false (search rules) (search rules)

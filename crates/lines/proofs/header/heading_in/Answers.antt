-- `heading_in` meets its contract, by the letter and the number of fields.
use mathlib.Core.Path.{◌≡◌, sym, ap, ◌∙◌}
use mathlib.Core.Bool.{true, false, ◌&&◌}
use lib.Dec.{eqb}
use lib.ListN.{length}
use borrow.Author.Tests.{eq-eqb, ne_eqb}
use Rattle.std.specs.Option.{option_eq}
use Rattle.std.specs.declared.option.Option.TheVariants.{Some}
use Rattle.sheet.specs.Spelling.{comma, cut}
use Rattle.lines.specs.Coded.{coded_heading}
use Rattle.lines.proofs.HeaderRead.{heads}
use Rattle.lines.proofs.header.heading_in.Goals.{else-eq-via-then-eq+else-count-eq9, else-eq-via-else-eq}
use Rattle.lines.proofs.header.heading_in.Goals as goal

pub returns-then-count-eq9 : goal.returns-then-count-eq9
returns-then-count-eq9 c =
    c.header_of.ensures
    ∙ ap coded_heading (heads _ c.args.line.now _ _ true c.field.ensures c.letter_of-letter.ensures (rw (← c.if-eq.ensures, eq-eqb (length (cut comma c.args.line.now)) 9 (sym c.count.ensures ∙ c.if-count-eq9.true))))

pub returns-else-eq : goal.returns-else-eq
returns-else-eq c =
    let test : false ≡ (option_eq eqb c.letter_of-letter.result (Some 83) && eqb (length (cut comma c.args.line.now)) 9) = elim c.else-eq.branch [
      | else-eq-via-then-eq+else-count-eq9 w ↦ rw (← w.if-eq.ensures, ne_eqb (length (cut comma c.args.line.now)) 9 (λ e. w.if-count-eq9.false (w.count.ensures ∙ e)))
      | else-eq-via-else-eq w ↦ rw (← w.if-eq.ensures)
    ] in
    ap coded_heading (heads c.args.limits c.args.line.now _ _ false c.field.ensures c.letter_of-letter.ensures test)

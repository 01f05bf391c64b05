-- `line_of` meets its contract: nine fields of one figure or letter.
use mathlib.Core.Path.{refl, ap, ◌∙◌}
use Prim.Native.Nat.{◌%◌}
use Rattle.sheet.specs.declared.Largest.{Largest}
use Rattle.sheet.specs.Numeral.{figure}
use Rattle.changes.proofs.Lines.{line_bytes}
use Rattle.changes.proofs.line.line_of.Goals as goal

pub returns : goal.returns
returns c =
    let a = c.args in
    record {
      answer = line_bytes a.k a.l a.slots a.old a.new c.requires.0 c.requires.1.0 c.requires.1.1.0 c.requires.1.1.1.0 c.requires.1.1.1.1
          c.figure_of.ensures c.figure_of-2.ensures c.figure_of-3.ensures
          c.letter_of.ensures (c.figure_of-4.ensures ∙ ap (λ (x : Largest). figure (x.p % 16)) c.limits-before.ensures) (c.figure_of-5.ensures ∙ ap (λ (x : Largest). figure (x.q % 16)) c.limits-before.ensures)
          c.letter_of-2.ensures (c.figure_of-6.ensures ∙ ap (λ (x : Largest). figure (x.p % 16)) c.limits-after.ensures) (c.figure_of-7.ensures ∙ ap (λ (x : Largest). figure (x.q % 16)) c.limits-after.ensures);
      line_length = refl;
    }

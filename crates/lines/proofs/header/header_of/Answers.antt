-- `header_of` meets its contract: what each field was read as, up to the first that is none.
use mathlib.Core.Path.{refl, ◌∙◌}
use mathlib.Core.Bool.{true, false}
use Rattle.sheet.specs.Spelling.{comma, cut}
use Rattle.lines.proofs.HeaderRead.{header_is}
use Rattle.lines.proofs.header.header_of.Goals.{else-is_scalar_at-via-then-is_scalar_at+else-is_scalar_at-2, else-is_scalar_at-via-else-is_scalar_at}
use Rattle.lines.proofs.header.header_of.Goals as goal

pub returns-in_err-kind_at : goal.returns-in_err-kind_at
returns-in_err-kind_at c =
    c.from_residual.ensures ∙ header_is _ (cut comma c.args.s.now) c.in_err-kind_at.ensures refl refl refl refl refl refl

pub returns-in_err-decimal_at : goal.returns-in_err-decimal_at
returns-in_err-decimal_at c =
    c.from_residual-in_err-decimal_at.ensures
    ∙ header_is _ (cut comma c.args.s.now) c.in_ok-kind_at.ensures c.in_err-decimal_at.ensures refl refl refl refl refl

pub returns-in_err-decimal_at-2 : goal.returns-in_err-decimal_at-2
returns-in_err-decimal_at-2 c =
    c.from_residual-in_err-decimal_at-2.ensures
    ∙ header_is _ (cut comma c.args.s.now) c.in_ok-kind_at.ensures c.in_ok-decimal_at.ensures c.in_err-decimal_at-2.ensures refl refl refl refl

pub returns-in_err-decimal_at-3 : goal.returns-in_err-decimal_at-3
returns-in_err-decimal_at-3 c =
    c.from_residual-in_err-decimal_at-3.ensures
    ∙ header_is _ (cut comma c.args.s.now) c.in_ok-kind_at.ensures c.in_ok-decimal_at.ensures c.in_ok-decimal_at-2.ensures c.in_err-decimal_at-3.ensures refl refl refl

pub returns-in_err-decimal_at-4 : goal.returns-in_err-decimal_at-4
returns-in_err-decimal_at-4 c =
    c.from_residual-in_err-decimal_at-4.ensures
    ∙ header_is _ (cut comma c.args.s.now) c.in_ok-kind_at.ensures c.in_ok-decimal_at.ensures c.in_ok-decimal_at-2.ensures c.in_ok-decimal_at-3.ensures c.in_err-decimal_at-4.ensures refl refl

pub returns-in_err-decimal_at-5 : goal.returns-in_err-decimal_at-5
returns-in_err-decimal_at-5 c =
    c.from_residual-in_err-decimal_at-5.ensures
    ∙ header_is _ (cut comma c.args.s.now) c.in_ok-kind_at.ensures c.in_ok-decimal_at.ensures c.in_ok-decimal_at-2.ensures c.in_ok-decimal_at-3.ensures c.in_ok-decimal_at-4.ensures c.in_err-decimal_at-5.ensures refl

pub returns-then-is_scalar_at-2 : goal.returns-then-is_scalar_at-2
returns-then-is_scalar_at-2 c =
    header_is _ (cut comma c.args.s.now) {scalars = true} c.in_ok-kind_at.ensures c.in_ok-decimal_at.ensures c.in_ok-decimal_at-2.ensures c.in_ok-decimal_at-3.ensures c.in_ok-decimal_at-4.ensures c.in_ok-decimal_at-5.ensures
    (rw (← c.if-is_scalar_at.ensures, ← c.if-is_scalar_at-2.ensures))

pub returns-else-is_scalar_at : goal.returns-else-is_scalar_at
returns-else-is_scalar_at c =
    header_is _ (cut comma c.args.s.now) {scalars = false} c.in_ok-kind_at.ensures c.in_ok-decimal_at.ensures c.in_ok-decimal_at-2.ensures c.in_ok-decimal_at-3.ensures c.in_ok-decimal_at-4.ensures c.in_ok-decimal_at-5.ensures
    (elim c.else-is_scalar_at.branch [
      | else-is_scalar_at-via-then-is_scalar_at+else-is_scalar_at-2 w ↦ rw (← w.if-is_scalar_at.ensures, ← w.if-is_scalar_at-2.ensures)
      | else-is_scalar_at-via-else-is_scalar_at w ↦ rw (← w.if-is_scalar_at.ensures)
    ])

-- `find` meets its contract.
use Rattle.std.specs.Prelude.{◌≡◌, List, ℕ, length, Some, None}
use Rattle.std.specs.Option.{unwrap_or}
use Rattle.std.specs.declared.option.Option as declared
use Rattle.std.proofs.Common.{rules, refl, sym, subst}
use Rattle.sheet.specs.Spelling.Field.{First}
use Rattle.sheet.proofs.CutTurns.{first_found, first_none}
use Rattle.sheet.proofs.fields.find.Goals as goal

either : {b : ℕ} (s : List ℕ) (o : declared.Option ℕ) → ((i : ℕ) → o ≡ Some i → First b s i) → (o ≡ None → First b s (length s)) → First b s (unwrap_or o (length s))
either s (Some i) h g = h i refl
either s None h g = g refl

pub returns : goal.returns
returns c =
    subst (First _ _) (sym c.unwrap_or.ensures)
    (either c.args.s.now c.position.result (λ i e. first_found c.args.s.now (search rules) (search rules) (search rules)) (λ e. first_none c.args.s.now (search rules)))

-- `State::after` meets its contract, by cases on the line.
use mathlib.Core.Path.{◌≡◌, sym, subst, ◌∙◌}
use Rattle.sheet.specs.declared.Plan.{Plan}
use Rattle.sheet.specs.Line.{Line}
use Rattle.lines.proofs.Was.{was}
use Rattle.survey.specs.Survey.State.{Follows}
use Rattle.survey.specs.declared.state.State.{State}
use Rattle.survey.proofs.state.State.after.Goals as goal

-- what follows the line that x stands for follows x
follows : (plan : Plan) (s r : State) (x y : Line) → x ≡ y → Follows plan s y r → Follows plan s x r
follows plan s r x y e f = subst (λ (l : Line). Follows plan s l r) (sym e) f

pub returns-in-Double : goal.returns-in-Double
returns-in-Double c = λ x e. follows _ _ _ x _ (was x (sym e ∙ c.in-Double.is)) (c.doubled.ensures _)

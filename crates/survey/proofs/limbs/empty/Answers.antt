-- `empty` meets its contract: no digit was added.
use mathlib.Core.Path.{refl}
use Rattle.survey.specs.Sum.{empty}
use Rattle.survey.proofs.Digits.{holds_none}
use Rattle.survey.proofs.limbs.empty.Goals as goal

pub returns : goal.returns
returns g c = holds_none (unfold empty in refl)

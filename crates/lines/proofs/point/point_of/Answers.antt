-- `point_of` meets its contract, by the two digits.
use mathlib.Core.Path.{refl, ◌∙◌}
use mathlib.Core.List.{[], ◌∷◌}
use Rattle.lines.proofs.PointRead.{point_is}
use Rattle.lines.proofs.point.point_of.Goals as goal

pub returns-in_err-digit_of : goal.returns-in_err-digit_of
returns-in_err-digit_of c = c.from_residual.ensures ∙ point_is ([] ∷ c.args.p.now ∷ c.args.q.now ∷ []) c.in_err-digit_of.ensures refl

pub returns-in_err-digit_of-2 : goal.returns-in_err-digit_of-2
returns-in_err-digit_of-2 c = c.from_residual-in_err-digit_of-2.ensures ∙ point_is ([] ∷ c.args.p.now ∷ c.args.q.now ∷ []) c.in_ok-digit_of.ensures c.in_err-digit_of-2.ensures

pub returns : goal.returns
returns c = point_is ([] ∷ c.args.p.now ∷ c.args.q.now ∷ []) c.in_ok-digit_of.ensures c.in_ok-digit_of-2.ensures

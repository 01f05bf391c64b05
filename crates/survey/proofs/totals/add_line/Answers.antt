-- `add_line` meets its contract: a step adds its digits (TotalTurns).
use Rattle.std.proofs.Common.{inl, inr}
use Rattle.digits.specs.Two.{P, Q}
use Rattle.survey.proofs.TotalTurns.{step_line_adds}
use Rattle.survey.proofs.totals.add_line.Goals as goal

pub returns-in-Load : goal.returns-in-Load
returns-in-Load c =
    record { first = λ x e. step_line_adds P _ x _ e (inl c.in-Load.is) c.add_point.ensures.first; second = λ x e. step_line_adds Q _ x _ e (inl c.in-Load.is) c.add_point.ensures.second }

pub returns-in-Add : goal.returns-in-Add
returns-in-Add c =
    record { first = λ x e. step_line_adds P _ x _ e (inr c.in-Add.is) c.add_point-in-Add.ensures.first; second = λ x e. step_line_adds Q _ x _ e (inr c.in-Add.is) c.add_point-in-Add.ensures.second }

-- The choice of a plan as the code makes it, from the sizes of the scalars' rows, and the call for the sheet of the plan chosen.
use Rattle.std.specs.Prelude.{◌≡◌, List, [], ℕ, ◌+◌, ◌-◌, ◌≤◌, max, drop, Result}
use Rattle.digits.specs.declared.limits.Limits.{Limits}
use Rattle.digits.specs.declared.missed.Missed.{Missed}
use Rattle.sheet.specs.declared.Plan.{Plan}
use Rattle.sheet.specs.declared.Plan.TheVariants.{J, I}
use Rattle.sheet.specs.Plan.{table_additions, table_doublings}
use Rattle.writer.specs.declared.answer.Sheet.{Sheet}
use Rattle.writer.specs.Call.{j_answer, j_buffer, i_answer, i_buffer}
use Rattle.chooser.specs.Cheapest.{key_with, plans, within}
use Rattle.chooser.specs.declared.sizes.Sizes.{Sizes}
use Rattle.chooser.specs.Body.Sizes.{size_at}

-- what a plan counts, and the places of its digits, from the sizes of the rows and of the joint form
abbrev pub plan_weight : Sizes → Plan → ℕ
plan_weight s J = s.joint.weight
plan_weight s (I m1 m2) = (size_at s.k m1).weight + (size_at s.l m2).weight

abbrev pub plan_places : Sizes → Plan → ℕ
plan_places s J = s.joint.places
plan_places s (I m1 m2) = max (size_at s.k m1).places (size_at s.l m2).places

-- the additions and the doublings of a plan by these sizes, and its key
abbrev pub plan_additions : Sizes → Plan → ℕ
plan_additions s p = table_additions p + (plan_weight s p - 1)

abbrev pub plan_doublings : Sizes → Plan → ℕ
plan_doublings s p = table_doublings p + (plan_places s p - 1)

unfoldable pub cost_key : Sizes → Plan → List ℕ
cost_key s p = key_with (plan_additions s p) (plan_doublings s p) p

-- the first n plans are enough to try for a limit: all others need more slots
pub record Enough (limit n : ℕ) : Type 0 where
  pub counted : n ≤ 257
  pub none_left : within limit (drop n plans) ≡ []

-- the calls for the sheet of a plan
abbrev pub plan_answer : Limits → Plan → List ℕ → ℕ → List ℕ → ℕ → ℕ → Result Sheet Missed
plan_answer limits J k k_sign l l_sign room = j_answer limits k k_sign l l_sign room
plan_answer limits (I m1 m2) k k_sign l l_sign room = i_answer limits k k_sign l l_sign m1 m2 room

abbrev pub plan_buffer : Limits → Plan → List ℕ → ℕ → List ℕ → ℕ → List ℕ → List ℕ
plan_buffer limits J k k_sign l l_sign buffer = j_buffer limits k k_sign l l_sign buffer
plan_buffer limits (I m1 m2) k k_sign l l_sign buffer = i_buffer limits k k_sign l l_sign m1 m2 buffer

-- What the private contracts of the code speak of.
use Rattle.std.specs.Prelude.{cond, List, [], ℕ, ◌/◌, ◌%◌, ◌<◌, ℤ, pos}
use Rattle.sheet.specs.declared.Plan.{Plan}
use Rattle.written.specs.Written.{first, second, written_additions}
use Rattle.chooser.specs.declared.choice.Candidate.{Candidate}
use Rattle.chooser.specs.Candidate.{cost_with, either_within}
use Rattle.order.specs.Order.{Order}
use Rattle.changes.specs.Changed.{same_plan, old_of, new_of, line_of}

-- a plan with its cost where no doublings are counted: it comes before another as the old key does
abbrev pub old_candidate : ℤ → ℤ → Plan → Candidate
old_candidate k l p = record { plan = p; cost = cost_with (written_additions p k l) 0 p }

-- the best so far, or the next plan where it is within the limit and comes before
abbrev pub old_better : ℤ → ℤ → ℕ → Candidate → Plan → Candidate
old_better k l limit best p = either_within limit best (old_candidate k l p)

-- the n-th order
abbrev pub order_at : ℕ → Order
order_at n = record { k = pos (n / 64); l = pos (n / 4 % 16); slots = n % 4 }

-- the line of an order if it changed
abbrev pub line_if : Order → List ℕ
line_if o = cond (same_plan (old_of o) (new_of o)) [] (line_of o)

-- both windows of a plan have one figure
pub record OneFigure (p : Plan) : Type 0 where
  pub first_one : first p < 10
  pub second_one : second p < 10

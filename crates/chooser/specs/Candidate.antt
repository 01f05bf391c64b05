-- A plan with what it costs, and the better of two: what the public methods of `Cost` and `Candidate` speak of.
pub mod Turns
use Rattle.std.specs.Prelude.{cond, List, [], ◌∷◌, ℕ}
use Rattle.sheet.specs.declared.Plan.{Plan}
use Rattle.sheet.specs.Plan.{slots, is_within}
use Rattle.written.specs.Written.{first}
use Rattle.chooser.specs.declared.choice.Cost.{Cost}
use Rattle.chooser.specs.declared.choice.Candidate.{Candidate}
use Rattle.chooser.specs.Cheapest.{rank}
use Rattle.chooser.specs.Lexicographic.{before}

-- the cost of a plan with a additions and d doublings
abbrev pub cost_with : ℕ → ℕ → Plan → Cost
cost_with a d p = record { additions = a; doublings = d; slots = slots p; rank = rank p; first = first p }

-- the key of a cost
abbrev pub key_of : Cost → List ℕ
key_of c = c.additions ∷ c.doublings ∷ c.slots ∷ c.rank ∷ c.first ∷ []

-- the best so far, or another candidate where its cost comes before
abbrev pub either : Candidate → Candidate → Candidate
either best c = cond (before (key_of c.cost) (key_of best.cost)) c best

-- the same, if the other needs no more slots than the limit
abbrev pub either_within : ℕ → Candidate → Candidate → Candidate
either_within limit best c = cond (is_within c.plan limit) (either best c) best

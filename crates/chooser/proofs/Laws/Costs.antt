-- The key of a plan's cost is the plan's.
use Rattle.std.specs.Prelude.{◌≡◌, refl, ℕ}
use Rattle.sheet.specs.declared.Plan.{Plan}
use Rattle.sheet.specs.declared.Plan.TheVariants.{J, I}
use Rattle.chooser.specs.Candidate.{cost_with, key_of}
use Rattle.chooser.specs.Cheapest.{key_with}

pub key_of_cost : (a d : ℕ) (p : Plan) → key_of (cost_with a d p) ≡ key_with a d p
key_of_cost a d J = refl
key_of_cost a d (I m1 m2) = refl

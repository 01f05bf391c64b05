-- The cost that `old_candidate` carries stands for the key without doublings.
use Rattle.std.specs.Prelude.{ℤ}
use Rattle.sheet.specs.declared.Plan.{Plan}
use Rattle.written.specs.Written.{written_additions}
use Rattle.chooser.specs.Candidate.Turns.{Stands}
use Rattle.chooser.proofs.Laws.Costs.{key_of_cost}
use Rattle.changes.specs.Body.{old_candidate}
use Rattle.changes.specs.Changed.Old.{old_cost_key}

pub old_stands : (k l : ℤ) (p : Plan) → Stands (old_cost_key k l) (old_candidate k l p)
old_stands k l p = record { stands = key_of_cost (written_additions p k l) 0 p }

-- Each turn has a rank of its own: what says the rank says the turn. Assumes nothing.
use Rattle.std.specs.Prelude.{◌≡◌, refl, ℕ, eqb, cond}
use Rattle.std.proofs.Common.{sym, ap, ◌∙◌}
use Rattle.survey.specs.declared.steps.Turn as Turns
use Rattle.survey.specs.Survey.State.{rank}

-- the turn of a rank
turn_of : ℕ → Turns.Turn
turn_of n = cond (eqb n 0) Turns.TheVariants.None (cond (eqb n 1) Turns.TheVariants.First Turns.TheVariants.Last)

turn_rank : (t : Turns.Turn) → turn_of (rank t) ≡ t
unfolding turn_of
turn_rank Turns.TheVariants.None = refl
turn_rank Turns.TheVariants.First = refl
turn_rank Turns.TheVariants.Last = refl

pub rank_only : (t u : Turns.Turn) → rank t ≡ rank u → t ≡ u
rank_only t u e = sym (turn_rank t) ∙ ap turn_of e ∙ turn_rank u

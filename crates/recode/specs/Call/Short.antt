-- How long and how heavy an answer is.
use Prim.Native.Nat.{ℕ, ◌≤◌}
use Rattle.recode.specs.Call.{Recoded, places_written, weight_written}

-- an answer with at most n places, of which no more count than there are
pub record Short (n : ℕ) (r : Recoded) : Type 0 where
  pub length_most : places_written r ≤ n
  pub weight_most : weight_written r ≤ places_written r

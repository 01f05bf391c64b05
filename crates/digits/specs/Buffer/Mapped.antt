-- A place of a list that is mapped, whatever stands for the places that it does not have. Assumes nothing.
use Rattle.std.specs.Prelude.{◌≡◌, refl, List, [], ◌∷◌, map, ℕ, zero, suc, ◌<◌, length, get_or}
use Rattle.std.proofs.Common.{le_of_suc-le-suc, arith}

pub map_at : {A B : Type 0} (f : A → B) (s : List A) (i : ℕ) (a : A) (b : B) → i < length s → get_or (map f s) i b ≡ f (get_or s i a)
map_at f [] i a b h = absurd (omega arith)
map_at f (x ∷ s) zero a b h = refl
map_at f (x ∷ s) (suc i) a b h = map_at f s i a b (le_of_suc-le-suc h)

-- Numbers one behind another, and what stands in a list that is made from them.
use Rattle.std.specs.Prelude.{◌≡◌, List, [], ◌∷◌, map, ℕ, zero, suc, ◌+◌, ◌<◌, get_or}
use Rattle.std.proofs.Common.{ap, ◌∙◌, arith}

-- n numbers from a on
unfoldable pub from : ℕ → ℕ → List ℕ
from a zero = []
from a (suc n) = a ∷ from (1 + a) n

pub from_at : {A : Type 0} (f : ℕ → A) (d : A) (a n i : ℕ) → i < n → get_or (map f (from a n)) i d ≡ f (a + i)
unfolding from
from_at f d a zero i h = absurd (omega arith)
from_at f d a (suc n) zero h = let e : a ≡ a + 0 = omega arith in ap f e
from_at f d a (suc n) (suc i) h = let e : 1 + a + i ≡ a + suc i = omega arith in from_at f d (1 + a) n i (omega arith) ∙ ap f e

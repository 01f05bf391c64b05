-- The order of lists of numbers, the first number that differs deciding, and the first least of a list of things by such keys.
pub mod Order
use Rattle.std.specs.Prelude.{Bool, true, false, ◌&&◌, ◌||◌, cond, List, [], ◌∷◌, ℕ, ltb, eqb}

-- a comes before b
unfoldable pub before : List ℕ → List ℕ → Bool
before [] [] = false
before [] (y ∷ ys) = true
before (x ∷ xs) [] = false
before (x ∷ xs) (y ∷ ys) = ltb x y || (eqb x y && before xs ys)

-- of two things the one whose key comes first, and the former where both keys are the same
module _ {A : Type 0} (key : A → List ℕ) where
  abbrev pub better : A → A → A
  better a b = cond (before (key b) (key a)) b a

  -- the first least of a and the things of a list
  unfoldable pub least : A → List A → A
  least a [] = a
  least a (b ∷ bs) = least (better a b) bs

-- The derived order of costs is that of their keys, number by number.
use Rattle.std.specs.Prelude.{◌≡◌, refl, Bool, true, false, ◌&&◌, ◌||◌, cond, List, [], ◌∷◌, ℕ, ltb, eqb}
use Rattle.std.specs.declared.option.Option.{Option}
use Rattle.std.specs.declared.option.Option.TheVariants.{Some}
use Rattle.std.specs.declared.cmp.Ordering.{Ordering}
use Rattle.std.specs.declared.cmp.Ordering.TheVariants.{Less, Equal, Greater}
use Rattle.std.specs.Ordering.{is_lt, is_some_and, nat_cmp, partial_lt, partial_ordering_then}
use Rattle.chooser.specs.declared.choice.Cost.{Cost}
use Rattle.chooser.specs.contracts.choice.CostPartialOrd.TheImpl as TheImpl
use Rattle.chooser.specs.Candidate.{key_of}
use Rattle.chooser.specs.Lexicographic.{before}

-- one number more in front
compared : (x y : ℕ) (r : Option Ordering) (xs ys : List ℕ) → is_some_and is_lt r ≡ before xs ys
    → is_some_and is_lt (partial_ordering_then (Some (nat_cmp x y)) r) ≡ before (x ∷ xs) (y ∷ ys)
unfolding before
compared x y r xs ys e = go (ltb x y) (eqb x y)
  where
    go : (s t : Bool) → is_some_and is_lt (partial_ordering_then (Some (cond s Less (cond t Equal Greater))) r) ≡ s || (t && before xs ys)
    go true t = refl
    go false true = e
    go false false = refl

-- the last number
last : (x y : ℕ) → is_some_and is_lt (Some (nat_cmp x y)) ≡ before (x ∷ []) (y ∷ [])
unfolding before
last x y = go (ltb x y) (eqb x y)
  where
    go : (s t : Bool) → is_lt (cond s Less (cond t Equal Greater)) ≡ s || (t && false)
    go true t = refl
    go false true = refl
    go false false = refl

pub less_before : (a b : Cost) → partial_lt TheImpl.partial_cmp-value.it a b ≡ before (key_of a) (key_of b)
less_before a b =
    compared a.additions b.additions _ _ _
    (compared a.doublings b.doublings _ _ _ (compared a.slots b.slots _ _ _ (compared a.rank b.rank _ _ _ (last a.first b.first))))

-- The row of a number from the top bit down: algorithm 13 of source document 000, its lines by their numbers. W and W − 1 are 01's.
-- The rule stands beside the function as a `data`.
pub mod Bits
pub mod Unfold
pub mod Settled
pub mod Cut
use Rattle.std.specs.Prelude.{◌≡◌, ◌≢◌, Bool, ◌&&◌, cond, List, [], ◌∷◌, ◌++◌, map, ℕ, zero, suc, ◌+◌, ◌*◌, ◌-◌, ◌/◌, ◌%◌, ◌^◌, ◌≤◌, ◌<◌, eqb, ltb, ℤ, pos, negsuc, ◌-ℤ◌, neg_ℤ, nat_abs, drop, replicate}
use Rattle.digits.specs.Integer.{half}
use Rattle.digits.specs.Scalar.{bit_length}
use Rattle.forms.specs.Residue.{width}

-- u_i: bit i of u, and 0 below place 0
abbrev pub bit : ℕ → ℤ → ℕ
bit u (pos i) = u / 2 ^ i % 2
bit u (negsuc i) = 0

-- u_(i−j)
unfoldable pub under : ℕ → ℕ → ℕ → ℕ
under u i j = bit u (pos i -ℤ pos j)

-- (u_(i−1) … u_(i−n))₂
unfoldable pub bits : ℕ → ℕ → ℕ → ℕ
bits u i zero = 0
bits u i (suc n) = 2 * bits u i n + under u i (suc n)

-- lines 8 and 11: (ū_i u_(i−1) … u_(i−w+1))₂ + u_(i−w), the top bit counting below zero
unfoldable pub worth : ℕ → ℕ → ℕ → ℤ
worth u i w = pos (bits u i (w - 1) + under u i w) -ℤ pos (2 ^ (w - 1) * under u i 0)

-- line 9: d is odd and not in the window
abbrev pub beyond : ℕ → ℤ → Bool
beyond m d = eqb (nat_abs d % 2) 1 && ltb m (nat_abs d)

-- how many places are done at place i: one where u_i = u_(i−1), lines 4 and 5; else W or W − 1, lines 7 to 13
unfoldable pub taken : ℕ → ℕ → ℕ → ℕ
taken m u i = cond (eqb (under u i 0) (under u i 1)) 1 (cond (beyond m (worth u i (width m))) (width m - 1) (width m))

-- lines 14 to 19: the digits of w places, the lowest first: a place up for each halving while d is even, then d; the others are not set
unfoldable pub settled : ℕ → ℤ → List ℤ
settled zero d = []
settled (suc w) d = cond (eqb (nat_abs d % 2) 0) (pos 0 ∷ settled w (half d)) (d ∷ replicate w (pos 0))

-- the digits of the places from i − w + 1 to i, without those below place 0, which are not set
unfoldable pub window : ℕ → ℕ → ℕ → List ℤ
window u i w = drop (w - suc i) (settled w (worth u i w))

-- lines 3 to 25: the digits of the n lowest places; equal bits are a window of one place with the value 0. The first number bounds the turns
unfoldable pub places_in : ℕ → ℕ → ℕ → ℕ → List ℤ
places_in zero m u n = []
places_in (suc f) m u zero = []
places_in (suc f) m u (suc i) = places_in f m u (suc i - taken m u i) ++ window u i (taken m u i)

unfoldable pub places : ℕ → ℕ → ℕ → List ℤ
places m u n = places_in n m u n

-- a row up to its highest digit that is not 0
abbrev pub onto : ℤ → List ℤ → List ℤ
onto (pos zero) [] = []
onto (pos (suc n)) [] = pos (suc n) ∷ []
onto (negsuc n) [] = negsuc n ∷ []
onto d (e ∷ es) = d ∷ e ∷ es

unfoldable pub trimmed : List ℤ → List ℤ
trimmed [] = []
trimmed (d ∷ ds) = onto d (trimmed ds)

-- line 1: the first place is the bit length plus one
unfoldable pub natural : ℕ → ℕ → List ℤ
natural m u = trimmed (places m u (suc (bit_length u + 1)))

-- the row of c: that of its size, negated where c is
unfoldable pub down : ℕ → ℤ → List ℤ
down m (pos n) = natural m n
down m (negsuc n) = map neg_ℤ (natural m (suc n))

-- w places are done at place i
pub data TurnRule (m u i : ℕ) : ℕ → Type 0 where
  -- line 4 holds: u_i = u_(i−1)
  equal : under u i 0 ≡ under u i 1 → TurnRule m u i 1
  -- line 9 does not hold of the value for W
  wide : under u i 0 ≢ under u i 1 → (nat_abs (worth u i (width m)) % 2 ≡ 1 → nat_abs (worth u i (width m)) ≤ m) → TurnRule m u i (width m)
  -- line 9 holds of it
  narrow : under u i 0 ≢ under u i 1 → nat_abs (worth u i (width m)) % 2 ≡ 1 → m < nat_abs (worth u i (width m)) → TurnRule m u i (width m - 1)

-- ds are the digits of the n lowest places: while a place is left, those of the places done from it on, and those below
pub data DownRule (m u : ℕ) : ℕ → List ℤ → Type 0 where
  end : DownRule m u 0 []
  turn : {i w : ℕ} {ds : List ℤ} → TurnRule m u i w → DownRule m u (suc i - w) ds → DownRule m u (suc i) (ds ++ window u i w)

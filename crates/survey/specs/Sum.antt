-- A whole number in limbs of 16 bits, the least significant first. Each limb begins in the middle of its range and may come to hold
-- more than its bits, or less than it began with.
use Rattle.std.specs.Prelude.{◌≡◌, List, [], ◌∷◌, ℕ, suc, ◌+◌, ◌*◌, ◌/◌, ◌^◌, ◌≤◌, ◌<◌, ℤ, pos, ◌+ℤ◌, ◌*ℤ◌, length, get_or, replicate}
use Rattle.digits.specs.declared.limits.Limits.{Limits}
use Rattle.digits.specs.Limits.{gateway}
use Rattle.digits.specs.Integer.{up, down}

-- the next limb counts for so much
abbrev pub limb : ℕ
limb = 65536

-- how many limbs the places of a sheet need
abbrev pub limbs_of : Limits → ℕ
limbs_of limits = limits.doublings / 16 + 1

-- what each limb begins with
abbrev pub start : ℕ
start = 9223372036854775808

-- a digit of 32 bits at the highest place of a limb
abbrev pub unit : ℕ
unit = 140737488355328

-- so many digits may be added: a line has at least a byte
abbrev pub most : ℕ
most = gateway.sheet

-- the number of a list of limbs
unfoldable pub value : List ℕ → ℕ
value [] = 0
value (x ∷ xs) = x + limb * value xs

-- c limbs of 0
unfoldable pub empty : ℕ → List ℕ
empty c = replicate c start

-- there are c limbs, each at most n units from where it began
pub record Near (c n : ℕ) (xs : List ℕ) : Type 0 where
  pub long : length xs ≡ c
  pub least : (i : ℕ) → i < c → start ≤ get_or xs i 0 + n * unit
  pub high : (i : ℕ) → i < c → get_or xs i 0 ≤ start + n * unit

-- one digit more can be added
abbrev pub Roomy : List ℕ → Type 0
Roomy xs = Near (length xs) most xs

-- c limbs make the number z, after n digits at most
pub record Holds (c n : ℕ) (xs : List ℕ) (z : ℤ) : Type 0 where
  pub near : Near c n xs
  pub is : value xs + down z ≡ value (empty c) + up z

-- the limbs ys have a digit y more than xs, at the place k
abbrev pub Added : ℕ → ℤ → List ℕ → List ℕ → Type 0
Added k y xs ys = (c n : ℕ) (z : ℤ) → Holds c n xs z → Holds c (suc n) ys (z +ℤ pos (2 ^ k) *ℤ y)

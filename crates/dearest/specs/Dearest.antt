-- The dearest scalar of a size in bits: the least one whose row with window 1 has the most digits that are not 0, and their number. Both are
-- found by trying every scalar of the size; the words stand beside them as a `record`.
use Rattle.std.specs.Prelude.{◌≡◌, ◌≢◌, cond, ℕ, zero, suc, ◌^◌, ◌≤◌, ◌<◌, max, eqb, pos}
use Rattle.digits.specs.Row.{weight}
use Rattle.forms.specs.Row.{row}

-- how many digits of a scalar's row with window 1, its non-adjacent form, are not 0
abbrev pub naf_weight : ℕ → ℕ
naf_weight c = weight (row 1 (pos c))

-- the most that a scalar below n has
unfoldable pub most_below : ℕ → ℕ
most_below zero = 0
most_below (suc n) = max (most_below n) (naf_weight n)

-- of so many scalars from c on, the first that has w; the one behind them where none has
unfoldable pub first_with : ℕ → ℕ → ℕ → ℕ
first_with w c zero = c
first_with w c (suc more) = cond (eqb (naf_weight c) w) c (first_with w (suc c) more)

-- the most that a scalar of so many bits has
unfoldable pub most : ℕ → ℕ
most bits = most_below (2 ^ bits)

-- the least scalar of so many bits that has as many
unfoldable pub dearest : ℕ → ℕ
dearest bits = first_with (most bits) 0 (2 ^ bits)

-- the same in words: c is the smallest scalar of so many bits whose row has the most, which is w
pub record Heaviest (bits c w : ℕ) : Type 0 where
  -- it is within the size
  pub within : c < 2 ^ bits
  -- its row has w
  pub has : naf_weight c ≡ w
  -- no scalar of the size has more
  pub none_more : (d : ℕ) → d < 2 ^ bits → naf_weight d ≤ w
  -- no smaller one has as many
  pub none_smaller : (d : ℕ) → d < c → naf_weight d ≢ w

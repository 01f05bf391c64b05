-- The figures of a scalar, of which the comparison with a sum takes the last four at a time.
use Rattle.std.specs.Prelude.{◌≡◌, true, List, ℕ, ◌+◌, ◌-◌, ◌*◌, ◌<◌, take}
use Rattle.sheet.specs.Numeral.{figures, followed}
use Rattle.reader.specs.declared.compare.Figures.{Figures}

-- s is figures of a scalar
abbrev pub Figured : List ℕ → Type 0
Figured s = figures 16 s ≡ true

-- the number of the figures before a place
abbrev pub before : List ℕ → ℕ → ℕ
before s end = followed 16 0 (take end s)

-- r has the last n figures before a place, which count below the base
pub record Below (base n : ℕ) (s : List ℕ) (end : ℕ) (r : Figures) : Type 0 where
  pub start : r.start ≡ end - n
  pub is : before s end ≡ base * before s r.start + r.value
  pub small : r.value < base

-- The sizes of the sixteen windows, one at each place.
use mathlib.Core.Path.{◌≡◌, refl, ap, ◌∙◌}
use Prim.Native.Nat.{ℕ, zero, suc, ◌+◌, ◌*◌, ◌<◌}
use native.Mathlib.Omega.{arith}
use lib.ListN.{length, get_or, length-map}
use Rattle.digits.specs.Buffer.Mapped.{map_at}
use Rattle.sheet.specs.Plan.{odds}
use Rattle.chooser.specs.Cheapest.{windows}
use Rattle.chooser.specs.Body.Sizes.{none, row_size, row_sizes}

get_d_odds : (d n i : ℕ) → i < n → get_or (odds d n) i 0 ≡ d + 2 * i
unfolding odds
get_d_odds d zero i h = absurd (omega arith)
get_d_odds d (suc n) zero h = omega arith
get_d_odds d (suc n) (suc i) h = get_d_odds (2 + d) n i (omega arith) ∙ omega arith

length_odds : (d n : ℕ) → length (odds d n) ≡ n
unfolding odds
length_odds d zero = refl
length_odds d (suc n) = ap suc (length_odds (2 + d) n)

module _ (limit k : ℕ) where
  -- there are sixteen sizes, and that of the window 2 i + 1 is at i
  pub sizes_length : length (row_sizes limit k) ≡ 16
  unfolding row_sizes
  sizes_length = length-map windows (row_size limit k) ∙ length_odds 1 16

  pub sizes_at : (i : ℕ) → i < 16 → get_or (row_sizes limit k) i none ≡ row_size limit k (2 * i + 1)
  unfolding row_sizes
  sizes_at i h =
      let e : 1 + 2 * i ≡ 2 * i + 1 = omega arith in
      map_at (row_size limit k) windows i 0 none (omega (arith, length_odds 1 16)) ∙ ap (row_size limit k) (get_d_odds 1 16 i h ∙ e)

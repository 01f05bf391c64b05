-- The sizes that decide the cost of each plan within a limit: of each scalar's row for the windows, and of the joint form.
use Rattle.std.specs.Prelude.{cond, List, map, ℕ, ◌-◌, ◌/◌, ◌<◌, ℤ, pos, length, get_or}
use Rattle.digits.specs.Column as Columns
use Rattle.digits.specs.Row as Rows
use Rattle.digits.specs.Two.{Column, two}
use Rattle.forms.specs.Joint.{joint}
use Rattle.forms.specs.Row.{row}
use Rattle.recode.specs.Call.{Recoded, places_written, weight_written}
use Rattle.sheet.specs.declared.Plan.TheVariants.{J, I}
use Rattle.sheet.specs.Plan.{is_within}
use Rattle.chooser.specs.declared.sizes.Size.{Size}
use Rattle.chooser.specs.declared.sizes.Sizes.{Sizes}
use Rattle.chooser.specs.Cheapest.{windows}

-- the size that an answer tells, and that both of its numbers fit
abbrev pub size_told : Recoded → Size
size_told r = record { places = places_written r; weight = weight_written r }

pub record Fit (r : Recoded) : Type 0 where
  pub places_fit : places_written r < 4294967296
  pub weight_fits : weight_written r < 4294967296

-- the size of a row, of columns, and none
abbrev pub row_of : List ℤ → Size
row_of ds = record { places = length ds; weight = Rows.weight ds }

abbrev pub columns_of : List Column → Size
columns_of cs = record { places = length cs; weight = Columns.weight two cs }

abbrev pub none : Size
none = record { places = 0; weight = 0 }

-- the size of a scalar's row for a window that a plan within the limit can have, at least with 1 for the other; none for another
abbrev pub row_size : ℕ → ℕ → ℕ → Size
row_size limit k m = cond (is_within (I m 1) limit) (row_of (row m (pos k))) none

-- these sizes, window by window
unfoldable pub row_sizes : ℕ → ℕ → List Size
row_sizes limit k = map (row_size limit k) windows

-- the size for a window, of those for 1, 3, 5 and so on
abbrev pub size_at : List Size → ℕ → Size
size_at sizes m = get_or sizes ((m - 1) / 2) none

-- the size of the joint form where J is within the limit; none where it is not
abbrev pub joint_size : ℕ → ℕ → ℕ → Size
joint_size limit k l = cond (is_within J limit) (columns_of (joint (pos k) (pos l))) none

-- all sizes of two scalars
abbrev pub sizes : ℕ → ℕ → ℕ → Sizes
sizes limit k l = record { k = row_sizes limit k; l = row_sizes limit l; joint = joint_size limit k l }

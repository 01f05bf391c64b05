-- Each sample of specs/Samples.antt is true, by one computed test.
use Rattle.std.specs.Prelude.{T}
use mathlib.Core.List.{[], ◌∷◌, Memᴰ}
use Rattle.forms.specs.Test.{Test, equal, same_list, every_of}
use Rattle.sheet.specs.Ascii.{ascii}
use Rattle.chooser.specs.Samples.{computed}
use Rattle.changes.specs.Changed.{old_key, old_plan, changed, line_with, lines_of}
use Rattle.changes.specs.Samples.{Sample, order, Says, lists, samples}

-- the test of a sample
abbrev sample : (s : Sample) → Test (Says s)
sample (lists k l limit line) = same_list equal (lines_of (order k l limit ∷ [])) (ascii line)

table : T (every_of sample samples).test
unfolding computed old_key old_plan changed line_with lines_of
table = tt

-- each sample of the table is true
pub samples_hold : (s : Sample) → Memᴰ s samples → Says s
samples_hold = (every_of sample samples).tells table

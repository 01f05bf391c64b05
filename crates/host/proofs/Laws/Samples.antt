-- Each sample of specs/Samples.antt is true, by one computed test.
use Rattle.std.specs.Prelude.{T}
use mathlib.Core.List.{Memᴰ}
use Rattle.forms.specs.Test.{Test, equal, every_of}
use Rattle.host.specs.Samples.{Sample, Says, is, samples}

-- the test of a sample
abbrev sample : (s : Sample) → Test (Says s)
sample (is number value) = equal number value

table : T (every_of sample samples).test
table = tt

-- each sample of the table is true
pub samples_hold : (s : Sample) → Memᴰ s samples → Says s
samples_hold = (every_of sample samples).tells table

-- Each sample of specs/Samples.antt is true, by one computed test.
use Rattle.std.specs.Prelude.{T, length}
use mathlib.Core.List.{Memᴰ}
use Rattle.digits.specs.Column
use Rattle.digits.specs.Integer.{half}
use Rattle.digits.specs.Row.{value}
use Rattle.forms.specs.Codes.{remainder, code, remainder_at, below, codes}
use Rattle.forms.specs.Joint.{digit, column, rest, joint_in, joint}
use Rattle.forms.specs.Residue.{residue}
use Rattle.forms.specs.Test.{Test, both, equal, same, same_list, every_of}
use Rattle.codes.specs.Samples.{Sample, Says, answers, row, samples}

-- the test of a sample
abbrev sample : (s : Sample) → Test (Says s)
sample (row k l r remainders ns) =
    both (same_list same (below (remainder_at k l r) (length (joint k l))) remainders)
    (same_list equal (codes k l r) ns)
sample (answers told number) = equal told number

table : T (every_of sample samples).test
unfolding remainder code below codes digit column rest joint_in joint residue half value Column.row
table = tt

-- each sample of the table is true
pub samples_hold : (s : Sample) → Memᴰ s samples → Says s
samples_hold = (every_of sample samples).tells table

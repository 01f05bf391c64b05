-- Each sample of specs/Samples.antt is true, by one computed test.
use Rattle.std.specs.Prelude.{◌≡◌, ℕ, T, ℤ, get_or}
use mathlib.Core.List.{List, [], Memᴰ}
use Rattle.digits.specs.Column
use Rattle.digits.specs.Column.{weight}
use Rattle.digits.specs.Limits.{card}
use Rattle.digits.specs.Scalar.{little, scalar, signed_scalar}
use Rattle.digits.specs.Two.{P, Q, two, paired}
use Rattle.forms.specs.Row
use Rattle.forms.specs.Joint
use Rattle.forms.specs.Test.{Test, both, equal, same, same_list, every_of}
use Rattle.sheet.specs.Numeral.{figures, followed, number}
use Rattle.sheet.specs.Spelling.{line_feed, cut}
use Rattle.chooser.specs.Samples.{computed}
use Rattle.order.specs.Order.{line_of, read_fields, read_order, printed}
use Rattle.order.specs.Samples.{Sample, Says, answers, columns, heads, joint, prints, row, samples, scalars}

abbrev same_row : (ds es : List ℤ) → Test (ds ≡ es)
same_row = same_list same

abbrev same_text : (s t : List ℕ) → Test (s ≡ t)
same_text = same_list equal

-- the test of a sample
abbrev sample : (s : Sample) → Test (Says s)
sample (row c m digits) = same_row (Row.row m c) digits
sample (joint k l ps qs) =
    both (same_row (Column.row two P (Joint.joint k l)) ps) (same_row (Column.row two Q (Joint.joint k l)) qs)
sample (columns k l few more) =
    both (equal (weight two (Joint.joint k l)) few) (equal (weight two (paired (Row.row 1 k) (Row.row 1 l))) more)
sample (scalars bytes sign z) = same (signed_scalar bytes sign) z
sample (prints line text) = same_text (printed card line) text
sample (heads line header) = same_text (get_or (cut line_feed (printed card line)) 0 []) header
sample (answers told number) = equal told number

table : T (every_of sample samples).test
unfolding computed signed_scalar scalar little Column.row weight figures followed number line_of read_fields read_order printed
table = tt

-- each sample of the table is true
pub samples_hold : (s : Sample) → Memᴰ s samples → Says s
samples_hold = (every_of sample samples).tells table

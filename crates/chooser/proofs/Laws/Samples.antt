-- Each sample of specs/Samples.antt is true, by two computed tests.
use Rattle.std.specs.Prelude.{T, pos, get_or, Ok}
use mathlib.Core.List.{[], Memᴰ}
use Rattle.forms.specs.Test.{Test, both, equal, same_list, every_of}
use Rattle.sheet.specs.Ascii.{ascii}
use Rattle.sheet.specs.Spelling.{line_feed, cut}
use Rattle.chooser.specs.Cheapest.{cheapest}
use Rattle.chooser.specs.Next.{next_limit, limit_told, additions_told}
use Rattle.chooser.specs.Samples.{LimitSample, LimitSays, Sample, Says, computed, heads, limits, samples}

-- ── plans ───────────────────────────────────────────────────────────────────────────────────

-- the test of a sample
abbrev sample : (s : Sample) → Test (Says s)
sample (heads k l limit header) = same_list equal (get_or (cut line_feed (cheapest (pos k) (pos l) limit)) 0 []) (ascii header)

table : T (every_of sample samples).test
unfolding computed
table = tt

-- each sample of the table is true
pub samples_hold : (s : Sample) → Memᴰ s samples → Says s
samples_hold = (every_of sample samples).tells table

-- ── limits ──────────────────────────────────────────────────────────────────────────────────

-- the test of a sample
abbrev limited : (s : LimitSample) → Test (LimitSays s)
limited s =
    both (equal (limit_told (Ok (next_limit (pos s.k) (pos s.l) s.limit))) s.next)
    (equal (additions_told (Ok (next_limit (pos s.k) (pos s.l) s.limit))) s.additions)

limit_table : T (every_of limited limits).test
unfolding computed
limit_table = tt

-- each sample of the table is true
pub limits_hold : (s : LimitSample) → Memᴰ s limits → LimitSays s
limits_hold = (every_of limited limits).tells limit_table

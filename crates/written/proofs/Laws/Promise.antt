-- What is promised of the sheet of columns that make two signed scalars, and of the sheet written for a plan and the scalars, whose columns
-- are the plan's digits; under any limits that are enough for them, in one place. The proofs are in Written/Accepted.
use Rattle.std.specs.Prelude.{◌≡◌, List, ◌+◌, ◌-◌, ◌*◌, ◌^◌, ◌≤◌, ◌<◌, ℤ, pos, nat_abs, length}
use Rattle.digits.specs.declared.limits.Limits.{Limits}
use Rattle.digits.specs.Limits.{bits}
use Rattle.digits.specs.Two.{Column}
use Rattle.sheet.specs.declared.Plan.{Plan}
use Rattle.sheet.specs.Answer as Answer
use Rattle.sheet.specs.Answer.{Accepted, sheet_slots, sheet_additions}
use Rattle.sheet.specs.Digits.{columns, weight}
use Rattle.sheet.specs.Line.{plan}
use Rattle.sheet.specs.Plan.{slots, table_additions, table_doublings}
use Rattle.sheet.specs.Spelling.{lines}
use Rattle.written.specs.Enough.{Enough}
use Rattle.written.specs.Makes.{Makes}
use Rattle.written.specs.Written.{digits, lines_with, lines_of, additions_of, doublings_of, sheet_of, written_lines, written_additions, written_doublings, written}
use Rattle.written.proofs.Laws.Written.Accepted as Within
use Rattle.written.specs.Written.Columns.{digits_make}
use Rattle.written.specs.Valid.{Valid}

-- ── the sheet of columns ────────────────────────────────────────────────────────────────────

-- its header states the counts of its lines
pub sheet_header : (p : Plan) (cs : List Column) (k l : ℤ) → lines_of p cs k l ≡ lines_with p cs (additions_of p cs k l) (doublings_of p cs k l) k l
sheet_header = Within.header_of

-- where the columns make k and l:
module _ (p : Plan) (cs : List Column) (k l : ℤ) (makes : Makes p k l cs) where
  -- its columns are these
  pub sheet_columns : columns (lines_of p cs k l) ≡ cs
  sheet_columns = Within.columns_of p cs k l makes

  -- its doublings: those of the table, and one for each place below the top
  pub sheet_doublings : doublings_of p cs k l ≡ table_doublings p + (length cs - 1)
  sheet_doublings = Within.doublings_of_lem p cs k l makes

  -- its additions: those of the table, and one for each digit that the plan counts but the first
  pub sheet_cost : additions_of p cs k l ≡ table_additions p + (weight p cs - 1)
  sheet_cost = Within.cost_of p cs k l makes

-- and for a valid plan and scalars of no more bits than the limits allow:
module _ (limits : Limits) (enough : Enough limits) (p : Plan) (cs : List Column) (k l : ℤ) (v : Valid p) (makes : Makes p k l cs) (k_fits : nat_abs k < 2 ^ bits limits) (l_fits : nat_abs l < 2 ^ bits limits) where
  -- it is accepted for its scalars
  pub sheet_accepted : Accepted limits (sheet_of p cs k l) k l
  sheet_accepted = Within.accepted_within p cs k l makes v limits enough k_fits l_fits

  -- it is never longer than a sheet may be
  pub sheet_fits : length (sheet_of p cs k l) ≤ limits.sheet
  sheet_fits = Within.fits_within p cs k l makes v limits enough k_fits l_fits

  -- its lines are those of the columns
  pub sheet_lines : lines limits (sheet_of p cs k l) ≡ lines_of p cs k l
  sheet_lines = Within.lines_within p cs k l makes v limits enough k_fits l_fits

  -- its plan is the plan
  pub sheet_plan : plan (Answer.heading (lines limits (sheet_of p cs k l))) ≡ p
  sheet_plan = Within.plan_within p cs k l makes v limits enough k_fits l_fits

  -- its slots are those of its plan
  pub sheet_slots_lem : sheet_slots limits (sheet_of p cs k l) ≡ slots p
  sheet_slots_lem = Within.slots_within p cs k l makes v limits enough k_fits l_fits

  -- its additions are those of the lines
  pub sheet_counted : sheet_additions limits (sheet_of p cs k l) ≡ additions_of p cs k l
  sheet_counted = Within.additions_within p cs k l makes v limits enough k_fits l_fits

  -- its header states its doublings
  pub sheet_doubled : (Answer.heading (lines limits (sheet_of p cs k l))).doublings ≡ doublings_of p cs k l
  sheet_doubled = Within.doubled_within p cs k l makes v limits enough k_fits l_fits

  -- there are at most two of the additions for each bit, and 32
  pub sheet_few : additions_of p cs k l ≤ 2 * bits limits + 32
  sheet_few = Within.few_within p cs k l makes v limits enough k_fits l_fits

  -- the columns have at most one place more than the bits
  pub sheet_places : length cs ≤ bits limits + 1
  sheet_places = Within.places p cs k l makes v limits enough k_fits l_fits

-- ── the written sheet ───────────────────────────────────────────────────────────────────────

-- its header states the counts of its lines
pub written_header : (p : Plan) (k l : ℤ) → written_lines p k l ≡ lines_with p (digits p k l) (written_additions p k l) (written_doublings p k l) k l
written_header p k l = sheet_header p (digits p k l) k l

-- its columns are the plan's digits of k and l
pub written_columns : (p : Plan) (k l : ℤ) → Valid p → columns (written_lines p k l) ≡ digits p k l
written_columns p k l v = sheet_columns p (digits p k l) k l (digits_make k l v)

-- its doublings: those of the table, and one for each place below the top
pub written_doublings_lem : (p : Plan) (k l : ℤ) → Valid p → written_doublings p k l ≡ table_doublings p + (length (digits p k l) - 1)
written_doublings_lem p k l v = sheet_doublings p (digits p k l) k l (digits_make k l v)

-- its additions: those of the table, and one for each digit that the plan counts but the first
pub written_cost : (p : Plan) (k l : ℤ) → Valid p → written_additions p k l ≡ table_additions p + (weight p (digits p k l) - 1)
written_cost p k l v = sheet_cost p (digits p k l) k l (digits_make k l v)

-- the signs of the scalars change neither count
pub written_signs : (p : Plan) (k l : ℤ) → Valid p
    → (written_additions p k l ≡ written_additions p (pos (nat_abs k)) (pos (nat_abs l))) × (written_doublings p k l ≡ written_doublings p (pos (nat_abs k)) (pos (nat_abs l)))
written_signs = Within.written_signs

-- for scalars of no more bits than the limits allow:
module _ (limits : Limits) (enough : Enough limits) (p : Plan) (k l : ℤ) (v : Valid p) (k_fits : nat_abs k < 2 ^ bits limits) (l_fits : nat_abs l < 2 ^ bits limits) where
  -- every written sheet is accepted for its scalars
  pub written_accepted : Accepted limits (written p k l) k l
  written_accepted = sheet_accepted limits enough p (digits p k l) k l v (digits_make k l v) k_fits l_fits

  -- it is never longer than a sheet may be
  pub written_fits : length (written p k l) ≤ limits.sheet
  written_fits = sheet_fits limits enough p (digits p k l) k l v (digits_make k l v) k_fits l_fits

  -- its lines are the written lines
  pub written_lines_lem : lines limits (written p k l) ≡ written_lines p k l
  written_lines_lem = sheet_lines limits enough p (digits p k l) k l v (digits_make k l v) k_fits l_fits

  -- its plan is the plan
  pub written_plan : plan (Answer.heading (lines limits (written p k l))) ≡ p
  written_plan = sheet_plan limits enough p (digits p k l) k l v (digits_make k l v) k_fits l_fits

  -- its slots are those of its plan
  pub written_slots : sheet_slots limits (written p k l) ≡ slots p
  written_slots = sheet_slots_lem limits enough p (digits p k l) k l v (digits_make k l v) k_fits l_fits

  -- its additions are those of the written lines
  pub written_counted : sheet_additions limits (written p k l) ≡ written_additions p k l
  written_counted = sheet_counted limits enough p (digits p k l) k l v (digits_make k l v) k_fits l_fits

  -- its header states its doublings
  pub written_doubled : (Answer.heading (lines limits (written p k l))).doublings ≡ written_doublings p k l
  written_doubled = sheet_doubled limits enough p (digits p k l) k l v (digits_make k l v) k_fits l_fits

  -- there are at most two of the additions for each bit, and 32
  pub written_few : written_additions p k l ≤ 2 * bits limits + 32
  written_few = sheet_few limits enough p (digits p k l) k l v (digits_make k l v) k_fits l_fits

  -- its digits have at most one place more than the bits
  pub written_places : length (digits p k l) ≤ bits limits + 1
  written_places = sheet_places limits enough p (digits p k l) k l v (digits_make k l v) k_fits l_fits

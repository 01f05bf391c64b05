-- Demand 3, in one place: the cheapest sheet is 01's cheapest, in 02's order of plans, is accepted, keeps the limit, has the additions that
-- its header counts, and nobody can write an accepted sheet for the same scalars within the limit that has fewer. And a column list that keeps the joint
-- sparse rules with a non-zero top is the only one for its pair, and the one that the joint call writes. The proofs are in the files that
-- the answers name; the contracts of `cheapest` and `joint`, at either machine, carry these promises (`Promised`,
-- `JointPromised`).
use Rattle.std.specs.Prelude.{◌≡◌, List, ℕ, ◌^◌, ◌≤◌, ◌<◌, ℤ, pos, nat_abs, length}
use Rattle.digits.specs.Buffer.{row_below, columns_below}
use Rattle.digits.specs.Column as Columns
use Rattle.digits.specs.declared.limits.Limits.{Limits}
use Rattle.digits.specs.Limits.{card, gateway, bits}
use Rattle.digits.specs.Row.{value}
use Rattle.digits.specs.Scalar.{signed_scalar}
use Rattle.digits.specs.Two.{Column, P, Q, two}
use Rattle.forms.specs.Joint.{Keeps, Topped}
use Rattle.forms.proofs.Laws.Promise as Forms
use Rattle.recode.specs.Call.{wrote, filled, row_answer, row_buffer, RowOf, joint_answer, joint_buffer, JointOf}
use Rattle.recode.proofs.Laws.Promise as Recoding
use Rattle.sheet.specs.declared.Plan.{Plan}
use Rattle.sheet.specs.Answer.{Accepted, heading, sheet_slots, sheet_additions}
use Rattle.sheet.specs.Digits.{columns}
use Rattle.sheet.specs.Line.{plan}
use Rattle.sheet.specs.Spelling.{lines}
use Rattle.written.specs.Enough.{Enough, card_enough, gateway_enough}
use Rattle.written.specs.Written.{digits, written_additions, written_doublings}
use Rattle.chooser.specs.Call.{Cheapest}
use Rattle.chooser.proofs.Laws.Call.Demand.{cheapest_sheet}
use Rattle.chooser.specs.Cheapest.{cheapest_plan, Total, First, cheapest}
use Rattle.chooser.proofs.Laws.Cheapest.Least as Least
use Rattle.chooser.proofs.Laws.Cheapest.Order as Order
use Rattle.chooser.proofs.Laws.Cheapest.Sheet as Sheet
use Rattle.chooser.proofs.Laws.Cheapest.Signs as Signs

-- ── the plan ────────────────────────────────────────────────────────────────────────────────

-- the cheapest plan comes before every other within the limit
pub plan_is_first : (k l : ℤ) (limit : ℕ) → First k l limit (cheapest_plan k l limit)
plan_is_first = Least.first_plan

-- and is the only one that does
pub first_only : (k l : ℤ) (limit : ℕ) (p : Plan) → First k l limit p → p ≡ cheapest_plan k l limit
first_only = Least.first_only

-- the order is a total one on the plans
pub order_total : (k l : ℤ) → Total k l
order_total = Order.order_total

-- the plan is the same whatever signs the scalars have
pub plan_signs : (k l : ℤ) (limit : ℕ) → cheapest_plan k l limit ≡ cheapest_plan (pos (nat_abs k)) (pos (nat_abs l)) limit
plan_signs = Signs.plan_signs

-- ── its sheet, under any limits that are enough for the scalars that they allow ─────────────

module _ (limits : Limits) (enough : Enough limits) (k l : ℤ) (limit : ℕ) (k_fits : nat_abs k < 2 ^ bits limits) (l_fits : nat_abs l < 2 ^ bits limits) where
  -- its plan is the cheapest plan
  pub cheapest_plan_lem : plan (heading (lines limits (cheapest k l limit))) ≡ cheapest_plan k l limit
  cheapest_plan_lem = Sheet.cheapest_plan_lem limits enough k l limit k_fits l_fits

  -- every sheet anybody could write that is accepted for k and l within the limit has at least as many additions
  pub cheapest_is_least : (s : List ℕ) → Accepted limits s k l → sheet_slots limits s ≤ limit
      → sheet_additions limits (cheapest k l limit) ≤ sheet_additions limits s
  cheapest_is_least = Sheet.cheapest_is_least limits enough k l limit k_fits l_fits

  -- it is accepted for k and l
  pub cheapest_accepted : Accepted limits (cheapest k l limit) k l
  cheapest_accepted = Sheet.cheapest_accepted limits enough k l limit k_fits l_fits

  -- it keeps the limit
  pub cheapest_within : sheet_slots limits (cheapest k l limit) ≤ limit
  cheapest_within = Sheet.cheapest_within limits enough k l limit k_fits l_fits

  -- its header counts the additions of its lines, table additions included
  pub cheapest_counted : (heading (lines limits (cheapest k l limit))).additions ≡ sheet_additions limits (cheapest k l limit)
  cheapest_counted = Sheet.cheapest_counted limits enough k l limit k_fits l_fits

  -- and the doublings by which its plan was compared
  pub cheapest_doubled : (heading (lines limits (cheapest k l limit))).doublings ≡ written_doublings (cheapest_plan k l limit) k l
  cheapest_doubled = Sheet.cheapest_doubled limits enough k l limit k_fits l_fits

  -- its digits are 01's row or joint form of the cheapest plan
  pub cheapest_digits : columns (lines limits (cheapest k l limit)) ≡ digits (cheapest_plan k l limit) k l
  cheapest_digits = Sheet.cheapest_digits limits enough k l limit k_fits l_fits

-- so it is all that demand 3 asks for: on the card for scalars of 528 bits, and at the gateway for scalars of 1,024
pub card_cheapest : (k l : ℤ) (limit : ℕ) → nat_abs k < 2 ^ 528 → nat_abs l < 2 ^ 528
    → Cheapest card (cheapest k l limit) k l limit (written_additions (cheapest_plan k l limit) k l)
card_cheapest = cheapest_sheet card card_enough

pub gateway_cheapest : (k l : ℤ) (limit : ℕ) → nat_abs k < 2 ^ 1024 → nat_abs l < 2 ^ 1024
    → Cheapest gateway (cheapest k l limit) k l limit (written_additions (cheapest_plan k l limit) k l)
gateway_cheapest = cheapest_sheet gateway gateway_enough

-- ── rows and columns ────────────────────────────────────────────────────────────────────────

-- two column lists that keep the joint sparse rules with a non-zero top are the same if they have the same pair of values
pub joint_unique : (cs ds : List Column) → Keeps cs → Topped cs → Keeps ds → Topped ds
    → value (Columns.row two P cs) ≡ value (Columns.row two P ds) → value (Columns.row two Q cs) ≡ value (Columns.row two Q ds) → cs ≡ ds
joint_unique = Forms.joint_unique

module _ (limits : Limits) where
  -- the row that the row call writes is 01's row of the scalar, w of its digits are not 0, and none over the same digits has fewer such ones
  pub row_written : (s : List ℕ) (sign m : ℕ) (buffer : List ℕ) (n w : ℕ) → row_answer limits s sign m (length buffer) ≡ wrote n w
      → RowOf m (signed_scalar s sign) w (row_below n (row_buffer limits s sign m buffer))
  row_written = Recoding.row_written limits

  -- the columns that the joint call writes are such a list for the two scalars, and every such list is equal to them
  pub joint_written : (s : List ℕ) (s_sign : ℕ) (t : List ℕ) (t_sign : ℕ) (k l : List ℕ) (n w : ℕ) → joint_answer limits s s_sign t t_sign (length k) (length l) ≡ wrote n w
      → JointOf (signed_scalar s s_sign) (signed_scalar t t_sign) w (columns_below n (joint_buffer limits P s s_sign t t_sign k l) (joint_buffer limits Q s s_sign t t_sign k l))
  joint_written = Recoding.joint_written limits

  -- and such a list is the one that the joint call writes, whenever it writes for these values
  pub joint_only : (s : List ℕ) (s_sign : ℕ) (t : List ℕ) (t_sign : ℕ) (k l : List ℕ) (n w : ℕ) (cs : List Column) → Keeps cs → Topped cs
      → value (Columns.row two P cs) ≡ signed_scalar s s_sign → value (Columns.row two Q cs) ≡ signed_scalar t t_sign
      → joint_answer limits s s_sign t t_sign (length k) (length l) ≡ wrote n w
      → ((n ≡ length cs) × (w ≡ Columns.weight two cs))
      × ((joint_buffer limits P s s_sign t t_sign k l ≡ filled (Columns.row two P cs) k) × (joint_buffer limits Q s s_sign t t_sign k l ≡ filled (Columns.row two Q cs) l))
  joint_only = Recoding.joint_only limits

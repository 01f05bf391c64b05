-- What is shown of sheets, in one place: when a sheet is accepted, what its steps are, that what is spelled is read, and what its plan
-- takes. The definitions are those of Plan, Line, Spelling, Questions, Answer, Sound and Digits; the proofs are in the files that the
-- answers name.
use Rattle.std.specs.Prelude.{◌≡◌, ◌≢◌, ◌↔◌, List, map, ℕ, ◌+◌, ◌%◌, ◌≤◌, min, ℤ}
use Rattle.std.proofs.Common.{ap}
use Rattle.digits.specs.Column.{row}
use Rattle.digits.specs.declared.limits.Limits.{Limits}
use Rattle.digits.specs.Limits.{card, gateway, Wider, gateway_wider}
use Rattle.digits.specs.Row.{value, widest}
use Rattle.digits.specs.Two.{Two, two, digit}
use Rattle.sheet.specs.declared.Plan.{Plan}
use Rattle.sheet.specs.declared.Plan.TheVariants.{I}
use Rattle.sheet.specs.Answer.{Accepted, heading, sheet_slots, sheet_additions}
use Rattle.sheet.proofs.Laws.Answer.Exactly as Exactly
use Rattle.sheet.proofs.Laws.Answer.Wider as Widening
use Rattle.sheet.specs.Digits.{columns, Reads}
use Rattle.sheet.proofs.Laws.Digits.Accepted as Steps
use Rattle.sheet.specs.Every.{Every}
use Rattle.sheet.specs.Line.{Line, plan, table, misspelled}
use Rattle.sheet.specs.Plan.{slots, most_slots, tables, table_additions, table_doublings, largest}
use Rattle.sheet.proofs.Laws.Plan.Cost as Cost
use Rattle.sheet.proofs.Laws.Plan.Slots as Slots
use Rattle.sheet.specs.Questions.{additions, doublings, result}
use Rattle.sheet.specs.Sound.{Sound}
use Rattle.sheet.specs.Spelling.{spell, lines}
use Rattle.sheet.proofs.Laws.Spelling.Read as Read
use Rattle.sheet.proofs.Laws.Spelling.Spelled as Spelled
use Rattle.sheet.specs.Spelling.Spelled.{Short}

-- a sheet is accepted for k and l exactly when it is a sheet for k and l
pub accepted_exactly : (limits : Limits) (s : List ℕ) (k l : ℤ) → Accepted limits s k l ↔ Sound limits s k l
accepted_exactly = Exactly.accepted_exactly

-- its header states the slots that it needs and its additions
pub accepted_states : (limits : Limits) (s : List ℕ) (k l : ℤ) → Accepted limits s k l
    → ((heading (lines limits s)).slots ≡ sheet_slots limits s) × ((heading (lines limits s)).additions ≡ sheet_additions limits s)
accepted_states = Exactly.accepted_states

-- accepted under limits, a sheet is accepted under wider ones for the same k and l, and has the same lines
pub accepted_wider : (narrow wide : Limits) → Wider narrow wide → (s : List ℕ) (k l : ℤ) → Accepted narrow s k l
    → Accepted wide s k l × (lines wide s ≡ lines narrow s)
accepted_wider = Widening.accepted_wider

-- so a sheet that the card accepts is accepted at the gateway with the same result: for the same k and l, with the same slots and additions
pub card_gateway : (s : List ℕ) (k l : ℤ) → Accepted card s k l
    → Accepted gateway s k l × ((sheet_slots gateway s ≡ sheet_slots card s) × (sheet_additions gateway s ≡ sheet_additions card s))
unfolding sheet_slots sheet_additions
card_gateway s k l a =
    let (b, e) = Widening.accepted_wider card gateway gateway_wider s k l a in
    (b, (ap (λ (ls : List Line). slots (plan (heading ls))) e, ap additions e))

-- the steps of an accepted sheet are columns of its plan that read k and l at the cost of its additions
pub accepted_rows : (limits : Limits) (s : List ℕ) (k l : ℤ) → Accepted limits s k l
    → Reads (plan (heading (lines limits s))) (columns (lines limits s)) k l (sheet_additions limits s)
accepted_rows = Steps.accepted_rows

-- the rows of any lines have the values that the accumulator holds
pub columns_value : (ls : List Line) (r : Two) → value (row two r (columns ls)) ≡ digit (result ls) r
columns_value = Steps.columns_value

-- reading what is spelled gives the lines back
pub spelled_read : (limits : Limits) → 1 ≤ limits.figures → (ls : List Line) → Every (Short limits) ls → lines limits (spell ls) ≡ ls
spelled_read = Spelled.spelled_read

-- a sheet without a misspelled line is the spelling of its lines
pub read_spelled : (limits : Limits) (s : List ℕ) → Every (λ l. l ≢ misspelled) (lines limits s) → spell (lines limits s) ≡ s
read_spelled = Read.read_spelled

-- an accepted sheet is the spelling of its lines
pub accepted_spelled : (limits : Limits) (s : List ℕ) (k l : ℤ) → Accepted limits s k l → spell (lines limits s) ≡ s
accepted_spelled = Read.accepted_spelled

-- the additions and the doublings of a plan's T lines
pub tables_additions : (p : Plan) → additions (map table (tables p)) ≡ table_additions p
tables_additions = Cost.tables_additions

pub tables_doublings : (p : Plan) → doublings (map table (tables p)) ≡ table_doublings p
tables_doublings = Cost.tables_doublings

-- the slots of a plan with odd windows: a place for each point that its T lines add up, and one for those that they double
pub slots_places : (p : Plan) → (largest p).p % 2 ≡ 1 → (largest p).q % 2 ≡ 1
    → slots p ≡ additions (map table (tables p)) + min 1 (doublings (map table (tables p)))
slots_places = Slots.slots_places

-- no plan I needs more slots than the highest limit
pub slots_most : (m1 m2 : ℕ) → m1 ≤ widest → m2 ≤ widest → slots (I m1 m2) ≤ most_slots
slots_most = Slots.slots_most

-- What is promised of rows, of joint sparse forms and of their codes, in one place. The definitions are those of Residue, Row,
-- NonAdjacent, Joint and Codes and of digits; the proofs are in the files that the answers name.
use Rattle.std.specs.Prelude.{◌≡◌, ◌≢◌, ◌↔◌, List, map, ℕ, suc, ◌+◌, ◌-◌, ◌%◌, ◌^◌, ◌≤◌, ◌<◌, max, ℤ, pos, ◌+ℤ◌, ◌*ℤ◌, neg_ℤ, nat_abs, length, get_or, take}
use Rattle.digits.specs.Integer.{signed_by}
use Rattle.digits.specs.Row.{value, weight, Over}
use Rattle.digits.specs.Column as Columns
use Rattle.digits.specs.Scalar.{bit_length}
use Rattle.digits.specs.Two.{Column, Two, P, Q, other, of, two}
use Rattle.forms.specs.Residue.{Residue, residue, width}
use Rattle.forms.specs.Row.{RowRule, row}
use Rattle.forms.specs.NonAdjacent.{WidthForm, NonAdjacent}
use Rattle.forms.specs.Joint.{Keeps, Topped, joint}
use Rattle.forms.specs.Codes.{Held, digit_by, digits, remainder_at, codes}
use Rattle.forms.specs.Residue.Only as ResidueOnly
use Rattle.forms.specs.Residue.Width as Width
use Rattle.forms.proofs.Laws.Row.Only as RowOnly
use Rattle.forms.proofs.Laws.Row.Value as RowValue
use Rattle.forms.proofs.Laws.Row.Negated as RowNegated
use Rattle.forms.proofs.Laws.Row.Length as RowLength
use Rattle.forms.proofs.Laws.Row.Fewest as RowFewest
use Rattle.forms.proofs.Laws.NonAdjacent.Row as NonAdjacentRow
use Rattle.forms.proofs.Laws.Joint.Value as JointValue
use Rattle.forms.proofs.Laws.Joint.Sparse as JointKeeps
use Rattle.forms.proofs.Laws.Joint.Unique as JointUnique
use Rattle.forms.proofs.Laws.Joint.Fewest as JointFewest
use Rattle.forms.proofs.Laws.Joint.Negated as JointNegated
use Rattle.forms.proofs.Laws.Joint.Length as JointLength
use Rattle.forms.proofs.Laws.Codes.Place as CodesPlace
use Rattle.forms.proofs.Laws.Codes.Listed as CodesListed
use Rattle.forms.proofs.Laws.Codes.Negated as CodesNegated

-- ── One row, for every window m ─────────────────────────────────────────────────────────────

-- W is the smallest number with m < 2^(W−1)
pub width_least : (m : ℕ) → 1 ≤ m → (m < 2 ^ (width m - 1)) × ((v : ℕ) → m < 2 ^ (v - 1) → width m ≤ v)
width_least = Width.width_least

-- an odd c has exactly one odd r with −2^(w−1) < r < 2^(w−1) and c − r divisible by 2^w
pub residue_meets : (w : ℕ) (c : ℤ) → 2 ≤ w → nat_abs c % 2 ≡ 1 → Residue w c (residue w c)
residue_meets = ResidueOnly.residue_meets

pub residue_only : (w : ℕ) (c r s : ℤ) → 1 ≤ w → Residue w c r → Residue w c s → r ≡ s
residue_only = ResidueOnly.residue_only

-- the row meets 01's rule, and nothing else does
pub row_meets : (m : ℕ) (c : ℤ) → 1 ≤ m → RowRule m c (row m c)
row_meets = RowOnly.row_meets

pub row_only : (m : ℕ) (c : ℤ) (ds : List ℤ) → 1 ≤ m → RowRule m c ds → ds ≡ row m c
row_only = RowOnly.row_only

-- its digits are the window's
pub row_digits : (m : ℕ) (c : ℤ) → 1 ≤ m → Over m (row m c)
row_digits = RowValue.row_digits

-- it reads back to c
pub row_value : (m : ℕ) (c : ℤ) → 1 ≤ m → value (row m c) ≡ c
row_value = RowValue.row_value

-- its top digit is not 0
pub row_top : (m : ℕ) (c : ℤ) → 1 ≤ m → (i : ℕ) → length (row m c) ≡ suc i → get_or (row m c) i (pos 0) ≢ pos 0
row_top = RowValue.row_top

-- it never has more places than the scalar's bit length plus one
pub row_length : (m : ℕ) (c : ℤ) → 1 ≤ m → length (row m c) ≤ bit_length (nat_abs c) + 1
row_length = RowLength.row_length

-- no row over the same digits has fewer non-zero ones
pub row_fewest : (m : ℕ) (c : ℤ) (ds : List ℤ) → 1 ≤ m → Over m ds → value ds ≡ c → weight (row m c) ≤ weight ds
row_fewest = RowFewest.row_fewest

-- m = 1 gives the non-adjacent form
pub row_naf : (c : ℤ) → NonAdjacent c (row 1 c) × ((ds : List ℤ) → NonAdjacent c ds → ds ≡ row 1 c)
row_naf c = (NonAdjacentRow.non_adjacent_row c, NonAdjacentRow.non_adjacent_only c)

-- and m = 2^(w−1) − 1 the width-w form
pub row_width_w : (w : ℕ) (c : ℤ) → 2 ≤ w
    → WidthForm w c (row (2 ^ (w - 1) - 1) c) × ((ds : List ℤ) → WidthForm w c ds → ds ≡ row (2 ^ (w - 1) - 1) c)
row_width_w w c h = (NonAdjacentRow.width_form_row w c h, λ ds. NonAdjacentRow.width_form_only w c ds h)

-- ── Joint sparse form ───────────────────────────────────────────────────────────────────────

-- its two rows read back to k and l
pub joint_value : (k l : ℤ) → (value (Columns.row two P (joint k l)) ≡ k) × (value (Columns.row two Q (joint k l)) ≡ l)
joint_value = JointValue.joint_value

-- it keeps the joint sparse rules
pub joint_keeps : (k l : ℤ) → Keeps (joint k l)
joint_keeps = JointKeeps.joint_keeps

-- its top column is not zero
pub joint_top : (k l : ℤ) → Topped (joint k l)
joint_top = JointValue.joint_top

-- it uses at most one place more than the longer bit length
pub joint_length : (k l : ℤ) → length (joint k l) ≤ max (bit_length (nat_abs k)) (bit_length (nat_abs l)) + 1
joint_length = JointLength.joint_length

-- a column list that keeps the rules with a non-zero top is the joint form of its values
pub joint_only : (cs : List Column) → Keeps cs → Topped cs → cs ≡ joint (value (Columns.row two P cs)) (value (Columns.row two Q cs))
joint_only = JointUnique.joint_only

-- it is the only one for its pair
pub joint_unique : (cs ds : List Column) → Keeps cs → Topped cs → Keeps ds → Topped ds
    → value (Columns.row two P cs) ≡ value (Columns.row two P ds) → value (Columns.row two Q cs) ≡ value (Columns.row two Q ds) → cs ≡ ds
joint_unique = JointUnique.joint_unique

-- no column list over −1, 0, 1 for the same pair has fewer non-zero columns
pub joint_fewest : (k l : ℤ) (cs : List Column) → Columns.Small two cs → value (Columns.row two P cs) ≡ k → value (Columns.row two Q cs) ≡ l
    → Columns.weight two (joint k l) ≤ Columns.weight two cs
joint_fewest = JointFewest.joint_fewest

-- ── The rule behind every digit ─────────────────────────────────────────────────────────────

-- the remainder at a place is what makes up the number, times 2^place, with the digits below; nothing else does
pub remainder_is : (k l : ℤ) (r : Two) (i : ℕ) (z : ℤ)
    → (z ≡ remainder_at k l r i) ↔ (of k l r ≡ value (take i (digits k l r)) +ℤ (pos (2 ^ i) *ℤ z))
remainder_is k l r i z = CodesPlace.remainder_is k l i r z

-- there are as many codes as columns
pub codes_length : (k l : ℤ) (r : Two) → length (codes k l r) ≡ length (joint k l)
codes_length = CodesListed.codes_length

-- at every place, also above the top, the code is the one whose condition holds of the remainders there
pub codes_held : (k l : ℤ) (r : Two) (i : ℕ) → Held (remainder_at k l r i) (remainder_at k l (other r) i) (get_or (codes k l r) i 0)
codes_held = CodesListed.codes_held

-- and the digit follows from its code and the remainder
pub codes_digits_lem : (k l : ℤ) (r : Two) (i : ℕ) → get_or (digits k l r) i (pos 0) ≡ digit_by (get_or (codes k l r) i 0) (remainder_at k l r i)
codes_digits_lem = CodesListed.codes_digits_lem

-- ── Numbers with a sign ─────────────────────────────────────────────────────────────────────

-- the row of a negated number has each digit negated
pub row_negates : (m : ℕ) (c : ℤ) → 1 ≤ m → row m (neg_ℤ c) ≡ map neg_ℤ (row m c)
row_negates = RowNegated.row_negates

pub row_signed : (m sign : ℕ) (c : ℤ) → 1 ≤ m → row m (signed_by sign c) ≡ map (signed_by sign) (row m c)
row_signed = RowNegated.row_signed

-- so its length and its weight are those of the number's size
pub row_size : (m : ℕ) (c : ℤ) → 1 ≤ m
    → (length (row m c) ≡ length (row m (pos (nat_abs c)))) × (weight (row m c) ≡ weight (row m (pos (nat_abs c))))
row_size = RowNegated.row_size

-- the rows of a joint form negate singly, each with its own number
pub joint_negates : (k l : ℤ) (k_sign l_sign : ℕ) (r : Two)
    → Columns.row two r (joint (signed_by k_sign k) (signed_by l_sign l)) ≡ map (signed_by (of k_sign l_sign r)) (Columns.row two r (joint k l))
joint_negates = JointNegated.joint_negates

-- so its length and its weight are those of the numbers' sizes
pub joint_size : (k l : ℤ)
    → (length (joint k l) ≡ length (joint (pos (nat_abs k)) (pos (nat_abs l))))
    × (Columns.weight two (joint k l) ≡ Columns.weight two (joint (pos (nat_abs k)) (pos (nat_abs l))))
joint_size = JointNegated.joint_size

-- and its codes do not change
pub codes_negate : (k l : ℤ) (k_sign l_sign : ℕ) (r : Two) → codes (signed_by k_sign k) (signed_by l_sign l) r ≡ codes k l r
codes_negate = CodesNegated.codes_negate

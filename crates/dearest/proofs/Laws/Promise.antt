-- What is promised of the dearest scalar of every size, of the call for it, and of the orders of that size. The definitions are those of Dearest,
-- Bytes and Call; the proofs are in the files that the answers name.
use Rattle.std.specs.Prelude.{◌≡◌, ◌≢◌, List, ℕ, ◌+◌, ◌*◌, ◌-◌, ◌/◌, ◌^◌, ◌≤◌, ◌<◌, ℤ, pos, nat_abs, length, Ok}
use Rattle.std.proofs.Common.{◌∙◌, arith}
use Rattle.digits.specs.Limits.{card, bits}
use Rattle.digits.specs.Row.{weight}
use Rattle.digits.specs.Scalar.{scalar}
use Rattle.digits.specs.declared.limits.Limits.{Limits}
use Rattle.forms.specs.Row.{row}
use Rattle.sheet.specs.declared.Plan.TheVariants.{I}
use Rattle.written.specs.Written.{digits, additions_of, written_additions}
use Rattle.writer.specs.Call.{additions, i_answer, i_down_answer}
use Rattle.writer.proofs.Laws.Promise.{i_down_additions}
use Rattle.writer.specs.Rows.{Rows, Up, columns_by}
use Rattle.dearest.specs.Call.{number, dearest_answer, dearest_buffer, Fills}
use Rattle.dearest.proofs.Laws.Call.Ordered as Ordered
use Rattle.dearest.proofs.Laws.Call.Returned as Returned
use Rattle.dearest.specs.Dearest.{most, dearest, Heaviest}
use Rattle.dearest.proofs.Laws.Dearest.Closed as Closed
use Rattle.dearest.proofs.Laws.Dearest.Order as Order
use Rattle.dearest.proofs.Laws.Dearest.Tried as Tried

-- ── the scalar ──────────────────────────────────────────────────────────────────────────────

-- it is the one that the words say, and they say no other
pub dearest_meets : (size : ℕ) → Heaviest size (dearest size) (most size)
dearest_meets = Tried.dearest_meets

pub dearest_only : (size c w : ℕ) → Heaviest size c w → (c ≡ dearest size) × (w ≡ most size)
dearest_only = Tried.dearest_only

-- no scalar of the size has more digits that are not 0, with either sign
pub dearest_most : (size : ℕ) (c : ℤ) → nat_abs c < 2 ^ size → weight (row 1 c) ≤ weight (row 1 (pos (dearest size)))
dearest_most size c h =
    omega (arith, Order.weight_of c, (dearest_meets size).none_more (nat_abs c) h, (dearest_meets size).has)

-- no smaller scalar has as many
pub dearest_least : (size d : ℕ) → d < dearest size → weight (row 1 (pos d)) < weight (row 1 (pos (dearest size)))
dearest_least size d h = Tried.fewer_below size d h

-- in closed form
pub most_closed : (size : ℕ) → 1 ≤ size → most size ≡ size / 2 + 1
most_closed = Closed.most_closed

pub dearest_closed : (size : ℕ) → 1 ≤ size → 3 * dearest size ≡ 2 * 4 ^ (size / 2) + 1
dearest_closed = Closed.dearest_closed

-- ── the call ────────────────────────────────────────────────────────────────────────────────

-- for a size of 1 to 528 and a buffer of 66 bytes it answers the most, and the bytes are that scalar's
pub dearest_found : (size : ℕ) (buffer : List ℕ) → 1 ≤ size → size ≤ bits card → length buffer ≡ card.bytes
    → (dearest_answer size (length buffer) ≡ Ok (most size)) × ((scalar (dearest_buffer size buffer) ≡ dearest size) × Fills size (most size) (dearest_buffer size buffer))
dearest_found = Returned.answered

-- for any other the buffer is as lent
pub dearest_refused : (size : ℕ) (buffer : List ℕ) → number (dearest_answer size (length buffer)) ≢ 0 → dearest_buffer size buffer ≡ buffer
dearest_refused = Returned.refused

-- ── orders of the size ──────────────────────────────────────────────────────────────────────

-- no order of the size, with any signs, has more additions in the sheet of plan I 1, 1, from rows of either kind, than that of this scalar twice
pub dearest_order : (rows : Rows) (size : ℕ) (k l : ℤ) → nat_abs k < 2 ^ size → nat_abs l < 2 ^ size
    → additions_of (I 1 1) (columns_by rows 1 1 k l) k l ≤ additions_of (I 1 1) (columns_by rows 1 1 (pos (dearest size)) (pos (dearest size))) (pos (dearest size)) (pos (dearest size))
dearest_order = Order.order_most

-- of 01's rows, whose sheet a named plan and a cheapest one are:
pub dearest_written : (size : ℕ) (k l : ℤ) → nat_abs k < 2 ^ size → nat_abs l < 2 ^ size
    → written_additions (I 1 1) k l ≤ written_additions (I 1 1) (pos (dearest size)) (pos (dearest size))
unfolding digits
dearest_written = dearest_order Up

-- so with the bytes that the call leaves, and the number w that it answers:
module _ (size w : ℕ) (s : List ℕ) (fills : Fills size w s) where
  -- as both scalars of an order they get from the card's calls, with any signs, a sheet of plan I 1, 1 with 2w − 1 additions
  pub dearest_twice : (k_sign l_sign room : ℕ) → card.sheet ≤ room
      → (additions (i_answer card s k_sign s l_sign 1 1 room) ≡ 2 * w - 1) × (additions (i_down_answer card s k_sign s l_sign 1 1 room) ≡ 2 * w - 1)
  dearest_twice k_sign l_sign room h =
      let e = Ordered.ordered_twice fills k_sign l_sign room h in (e, i_down_additions card s k_sign s l_sign 1 1 room ∙ e)

  -- and no order of the size gets one with more, from the card's calls or the gateway's
  pub dearest_called : (limits : Limits) (k : List ℕ) (k_sign : ℕ) (l : List ℕ) (l_sign room : ℕ) → scalar k < 2 ^ size → scalar l < 2 ^ size
      → (additions (i_answer limits k k_sign l l_sign 1 1 room) ≤ 2 * w - 1) × (additions (i_down_answer limits k k_sign l l_sign 1 1 room) ≤ 2 * w - 1)
  dearest_called limits k k_sign l l_sign room f g =
      let e = Ordered.ordered_most fills limits k k_sign l l_sign room f g in (e, omega (arith, e, i_down_additions limits k k_sign l l_sign 1 1 room))

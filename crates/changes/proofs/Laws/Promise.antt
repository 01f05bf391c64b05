-- What is promised of the list, in one place; the proofs are in the files that the answers name.
use Rattle.std.specs.Prelude.{◌≡◌, ◌↔◌, Bool, true, false, cond, List, ◌++◌, ℕ, ◌≤◌, length, drop}
use Rattle.std.proofs.Math.Option.{some}
use Rattle.std.proofs.Common.{arith, length-append}
use Rattle.digits.specs.Limits.{card}
use Rattle.chooser.specs.Lexicographic.Order.{In}
use Rattle.order.specs.Order.{Order, read_fields}
use Rattle.changes.specs.Changed.{Affected, Sorted, orders, changed, order_fields, changed_orders, is_roomy, changes_length, changes_buffer}
use Rattle.changes.proofs.Laws.Changed.Listed as Listed

-- an order has a line exactly where its scalars are from 0 to 15, its limit is at most 3, and its plan changed
pub listed_exactly : (o : Order) → In o (changed orders) ↔ Affected o
listed_exactly = Listed.listed_exactly

-- the lines are sorted by k, l, slots
pub listed_sorted : Sorted (changed orders)
listed_sorted = Listed.listed_sorted

-- the first fields of its line are the order as the order program reads it
pub order_read : (o : Order) → In o (changed orders) → read_fields card (order_fields o) ≡ some o
order_read = Listed.order_read

-- the answer counts bytes of the buffer
pub changes_fit : (buffer : List ℕ) → changes_length (length buffer) ≤ length (changes_buffer buffer)
unfolding changes_length changes_buffer
changes_fit buffer = go (is_roomy (length buffer))
  where
    go : (b : Bool) → cond b (length changed_orders) 0 ≤ length (cond b (changed_orders ++ drop (length changed_orders) buffer) buffer)
    go true = omega (arith, length-append changed_orders (drop (length changed_orders) buffer))
    go false = omega arith

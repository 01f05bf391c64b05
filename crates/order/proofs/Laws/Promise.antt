-- What the order call promises beside its equations.
use Rattle.std.specs.Prelude.{Bool, true, false, cond, List, ◌++◌, ℕ, ◌≤◌, length, drop}
use Rattle.std.proofs.Common.{arith, length-append}
use Rattle.digits.specs.Limits.{card}
use Rattle.writer.specs.Call.{roomy}
use Rattle.order.proofs.Laws.Order.Demand as Demand
use Rattle.order.specs.Order.{printed, Printed, order_length, order_buffer}

-- the answer counts bytes of the buffer
pub order_fits : (s buffer : List ℕ) → order_length card s (length buffer) ≤ length (order_buffer card s buffer)
unfolding order_length order_buffer
order_fits s buffer = go (roomy card (length buffer))
  where
    go : (b : Bool) → cond b (length (printed card s)) 0 ≤ length (cond b (printed card s ++ drop (length (printed card s)) buffer) buffer)
    go true = omega (arith, length-append (printed card s) (drop (length (printed card s)) buffer))
    go false = omega arith

-- what is printed is N,6 exactly for what is no order, N,4 exactly for a limit beyond 31, and otherwise the sheet that demand 3 asks for
pub order_prints : (s : List ℕ) → Printed s (printed card s)
order_prints = Demand.printed_kept

-- The order with a number: the list of all orders, counted from 0. And their lines, one order after another.
use mathlib.Core.Path.{◌≡◌, refl, sym, ap, ◌∙◌}
use mathlib.Core.Bool.{Bool, true, false, cond}
use mathlib.Core.List.{List, [], ◌∷◌, ◌++◌, flat_map, append_assoc, append-nil}
use Prim.Native.Nat.{ℕ, ◌+◌, ◌<◌}
use native.Mathlib.Numerals.{add-one}
use native.Mathlib.Omega.{arith}
use lib.ListN.{length, get_or, take}
use lib.Seq.{take-suc, take_all}
use Rattle.chooser.specs.Numbers.{from, from_at}
use Rattle.order.specs.Order.{Order}
use Rattle.changes.specs.Changed.{orders, same_plan, old_of, new_of, changed, line_of, lines_of, changed_orders}
use Rattle.changes.proofs.Laws.Changed.Listed.{orders_numbered}
use Rattle.changes.specs.Body.{order_at, line_if}

order_number : (n : ℕ) → n < 1024 → get_or orders n (order_at 0) ≡ order_at n
order_number n h =
    let e : 0 + n ≡ n = omega arith in
    ap (λ (os : List Order). get_or os n (order_at 0)) (sym orders_numbered) ∙ from_at order_at (order_at 0) 0 1024 n h ∙ ap order_at e

pub orders_length : length orders ≡ 1024
unfolding orders from
orders_length = refl

-- the lines of orders, and of more behind them
lines_append : (os ps : List Order) → lines_of (os ++ ps) ≡ lines_of os ++ lines_of ps
unfolding lines_of changed
lines_append [] ps = refl
lines_append (o ∷ os) ps = go (same_plan (old_of o) (new_of o)) (lines_append os ps)
  where
    go : (t : Bool) → flat_map line_of (changed (os ++ ps)) ≡ flat_map line_of (changed os) ++ flat_map line_of (changed ps)
        → flat_map line_of (cond t (changed (os ++ ps)) (o ∷ changed (os ++ ps))) ≡ flat_map line_of (cond t (changed os) (o ∷ changed os)) ++ flat_map line_of (changed ps)
    go true e = e
    go false e = ap (λ (s : List ℕ). line_of o ++ s) e ∙ sym (append_assoc (line_of o) (flat_map line_of (changed os)) (flat_map line_of (changed ps)))

lines_one : (o : Order) → lines_of (o ∷ []) ≡ line_if o
unfolding lines_of changed
lines_one o = go (same_plan (old_of o) (new_of o))
  where
    go : (t : Bool) → flat_map line_of (cond t [] (o ∷ [])) ≡ cond t [] (line_of o)
    go true = refl
    go false = append-nil (line_of o)

pub lines_next : (n : ℕ) → n < 1024 → lines_of (take (n + 1) orders) ≡ lines_of (take n orders) ++ line_if (order_at n)
lines_next n h =
    ap (λ (i : ℕ). lines_of (take i orders)) (add-one n)
    ∙ ap lines_of (take-suc orders n (order_at 0) (omega (arith, orders_length)))
    ∙ lines_append (take n orders) (get_or orders n (order_at 0) ∷ [])
    ∙ ap (λ (s : List ℕ). lines_of (take n orders) ++ s) (lines_one (get_or orders n (order_at 0)) ∙ ap line_if (order_number n h))

-- before the first order there is none, and behind the last all are
pub lines_none : lines_of (take 0 orders) ≡ []
unfolding lines_of changed
lines_none = refl

pub lines_all : (n : ℕ) → n ≡ 1024 → lines_of (take n orders) ≡ changed_orders
unfolding changed_orders
lines_all n e = ap lines_of (take_all n orders (omega (arith, orders_length)))

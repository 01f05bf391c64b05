-- Which orders are in the list: exactly those looked at whose plan changed, sorted. And each reads as the order program reads an order.
use Rattle.std.specs.Prelude.{◌≡◌, refl, ◌≢◌, ◌↔◌, Bool, true, false, cond, List, [], ◌∷◌, map, ℕ, zero, suc, ◌+◌, ◌*◌, ◌/◌, ◌%◌, ◌^◌, ◌≤◌, ◌<◌, T, eqb, ℤ, pos}
use Rattle.std.proofs.Common.{sym, ap, ap₂, subst, ◌∙◌, le_trans, arith, leb-true, eqb-true, eq-eqb}
use Rattle.std.proofs.Math.Option.{some}
use Rattle.std.proofs.Math.Decide.{dec_lt}
use Rattle.digits.specs.Limits.{card}
use Rattle.digits.specs.Scalar.Sized.{both}
use Rattle.sheet.specs.declared.Plan.{Plan}
use Rattle.sheet.specs.declared.Plan.TheVariants.{J, I}
use Rattle.sheet.specs.Numeral.Read.{number_numeral}
use Rattle.sheet.specs.Spelling.{scalar, read_scalar}
use Rattle.sheet.proofs.Laws.Spelling.Whole.{read_whole_lem}
use Rattle.chooser.proofs.Laws.Cheapest.Lists.{in_map}
use Rattle.chooser.specs.Lexicographic.{before}
use Rattle.chooser.specs.Lexicographic.Order.{In, here, there, before_less, before_agrees}
use Rattle.chooser.specs.Numbers.{from}
use Rattle.order.specs.Order.{Order, read_fields}
use Rattle.changes.specs.Changed.{Small, Affected, sort_key, Sorted, orders, old_of, new_of, same_plan, changed, order_fields}
use Rattle.changes.specs.Body.{order_at}

-- ── the same plan ───────────────────────────────────────────────────────────────────────────

same_plan_lem : (p q : Plan) → same_plan p q ≡ true → p ≡ q
same_plan_lem J J e = refl
same_plan_lem J (I n1 n2) e = absurd (subst T (sym e) tt)
same_plan_lem (I m1 m2) J e = absurd (subst T (sym e) tt)
same_plan_lem (I m1 m2) (I n1 n2) e =
    let (a, b) = both (eqb m1 n1) (eqb m2 n2) e in
    ap₂ (λ (x y : ℕ). I x y) (eqb-true m1 n1 a) (eqb-true m2 n2 b)

plan_same : (p : Plan) → same_plan p p ≡ true
plan_same J = refl
plan_same (I m1 m2) = rw (eq-eqb m1 m1 refl, eq-eqb m2 m2 refl)

-- ── those that changed ──────────────────────────────────────────────────────────────────────

in_changed : {o : Order} (os : List Order) → In o os → old_of o ≢ new_of o → In o (changed os)
unfolding changed
in_changed {o} os (here {bs = bs}) n = go (same_plan (old_of o) (new_of o)) refl
  where
    go : (t : Bool) → same_plan (old_of o) (new_of o) ≡ t → In o (cond t (changed bs) (o ∷ changed bs))
    go true e = absurd (n (same_plan_lem (old_of o) (new_of o) e))
    go false e = here
in_changed {o} os (there {b = b} {bs = bs} i) n = go (same_plan (old_of b) (new_of b)) (in_changed bs i n)
  where
    go : (t : Bool) → In o (changed bs) → In o (cond t (changed bs) (b ∷ changed bs))
    go true j = j
    go false j = there j

changed_in : (os : List Order) {o : Order} → In o (changed os) → In o os × (old_of o ≢ new_of o)
unfolding changed
changed_in [] i = elim i [ ]
changed_in (b ∷ bs) i = go (same_plan (old_of b) (new_of b)) refl (changed_in bs) i
  where
    go : {o : Order} (t : Bool) → same_plan (old_of b) (new_of b) ≡ t → (In o (changed bs) → In o bs × (old_of o ≢ new_of o)) → In o (cond t (changed bs) (b ∷ changed bs))
        → In o (b ∷ bs) × (old_of o ≢ new_of o)
    go true e ih j = let r = ih j in (there r.0, r.1)
    go false e ih here = (here, λ f. subst T (sym (plan_same (new_of b)) ∙ sym (ap (λ (p : Plan). same_plan p (new_of b)) f) ∙ e) tt)
    go false e ih (there j) = let r = ih j in (there r.0, r.1)

-- ── all that are looked at ──────────────────────────────────────────────────────────────────

in_from : (a n i : ℕ) → i < n → In (a + i) (from a n)
unfolding from
in_from a zero i h = absurd (omega arith)
in_from a (suc n) zero h = let e : a ≡ a + 0 = omega arith in subst (λ (x : ℕ). In x (from a (suc n))) e here
in_from a (suc n) (suc i) h = let e : 1 + a + i ≡ a + suc i = omega arith in subst (λ (x : ℕ). In x (from a (suc n))) e (there (in_from (1 + a) n i (omega arith)))

-- what stands in a list made from numbers is made from one of them
from_made : {A : Type 0} (f : ℕ → A) (a n : ℕ) {x : A} → In x (map f (from a n)) → (i : ℕ) × (a ≤ i) × (i < a + n) × (x ≡ f i)
unfolding from
from_made f a zero i = elim i [ ]
from_made f a (suc n) here = (a, omega arith, omega arith, refl)
from_made f a (suc n) (there i) = let (j, g, h, e) = from_made f (1 + a) n i in (j, omega arith, omega arith, e)

-- one computed test
pub orders_numbered : map order_at (from 0 1024) ≡ orders
unfolding from orders
orders_numbered = refl

in_orders : (o : Order) → Small o.k → Small o.l → o.slots ≤ 3 → In o orders
in_orders o (x, a, e) (y, b, f) c =
    let n = 64 * x + 4 * y + o.slots in
    let k : (0 + n) / 64 ≡ x = omega arith in
    let l : (0 + n) / 4 % 16 ≡ y = omega arith in
    let s : (0 + n) % 4 ≡ o.slots = omega arith in
    let g : pos ((0 + n) / 64) ≡ o.k = ap pos k ∙ sym e in
    let h : pos ((0 + n) / 4 % 16) ≡ o.l = ap pos l ∙ sym f in
    subst (In o) orders_numbered (subst (λ (z : Order). In z (map order_at (from 0 1024))) (λ i. record { k = g i; l = h i; slots = s i }) (in_map order_at (in_from 0 1024 n (omega arith))))

orders_small : {o : Order} → In o orders → Small o.k × Small o.l × (o.slots ≤ 3)
orders_small {o} i =
    let (n, g, h, e) = from_made order_at 0 1024 (subst (In o) (sym orders_numbered) i) in
    ((n / 64, omega arith, ap (λ (x : Order). x.k) e), (n / 4 % 16, omega arith, ap (λ (x : Order). x.l) e), omega (arith, ap (λ (x : Order). x.slots) e))

-- they are sorted, and so are those of them that changed
numbered_sorted : (a b : ℕ) → a < b → before (a / 64 ∷ a / 4 % 16 ∷ a % 4 ∷ []) (b / 64 ∷ b / 4 % 16 ∷ b % 4 ∷ []) ≡ true
numbered_sorted a b h = go (dec_lt (a / 64) (b / 64)) (dec_lt (a / 4 % 16) (b / 4 % 16))
  where
    go : Dec (a / 64 < b / 64) → Dec (a / 4 % 16 < b / 4 % 16) → before (a / 64 ∷ a / 4 % 16 ∷ a % 4 ∷ []) (b / 64 ∷ b / 4 % 16 ∷ b % 4 ∷ []) ≡ true
    go (yes k) l = before_less _ _ _ _ k
    go (no k) (yes l) = before_agrees _ _ _ _ (omega arith) ∙ before_less _ _ _ _ l
    go (no k) (no l) = before_agrees _ _ _ _ (omega arith) ∙ before_agrees _ _ _ _ (omega arith) ∙ before_less _ _ _ _ (omega arith)

from_sorted : (a n : ℕ) → Sorted (map order_at (from a n))
unfolding from
from_sorted a zero = tt
from_sorted a (suc n) = (
  λ p i. let (j, g, h, e) = from_made order_at (1 + a) n i in
      subst (λ (x : Order). before (a / 64 ∷ a / 4 % 16 ∷ a % 4 ∷ []) (sort_key x) ≡ true) (sym e) (numbered_sorted a j (omega arith)),
  from_sorted (1 + a) n,
)

sorted_changed : (os : List Order) → Sorted os → Sorted (changed os)
unfolding changed
sorted_changed [] s = tt
sorted_changed (o ∷ os) s = go (same_plan (old_of o) (new_of o)) (sorted_changed os s.1)
  where
    go : (t : Bool) → Sorted (changed os) → Sorted (cond t (changed os) (o ∷ changed os))
    go true r = r
    go false r = (λ p i. s.0 p (changed_in os i).0, r)

pub listed_sorted : Sorted (changed orders)
listed_sorted = sorted_changed orders (subst Sorted orders_numbered (from_sorted 0 1024))

-- an order has a line exactly where it is looked at and its plan changed
pub listed_exactly : (o : Order) → In o (changed orders) ↔ Affected o
listed_exactly o = (
  λ i. let r = changed_in orders i in let s = orders_small r.0 in record { k_small = s.0; l_small = s.1; slots_few = s.2; differs = r.1 },
  λ c. in_changed orders (in_orders o c.k_small c.l_small c.slots_few) c.differs,
)

-- its fields read as the order
scalar_read : (z : ℤ) → Small z → read_scalar card (scalar z) ≡ some z
scalar_read z (n, h, e) =
    let large : 16 ≤ 16 ^ 132 = leb-true 16 (16 ^ 132) refl in
    subst (λ (x : ℤ). read_scalar card (scalar x) ≡ some x) (sym e) (read_whole_lem 16 132 (omega arith) (omega arith) (pos n) (omega arith) (le_trans h large))

pub order_read : (o : Order) → In o (changed orders) → read_fields card (order_fields o) ≡ some o
unfolding read_fields
order_read o i =
    let s = orders_small (changed_in orders i).0 in
    rw (
      scalar_read o.k s.0,
      scalar_read o.l s.1,
      number_numeral 10 (omega arith) (omega arith) 4 o.slots (omega arith) (omega (arith, s.2)),
    )

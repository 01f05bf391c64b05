-- The first limit that pays is the one that the words say, and the only one. A larger limit has no more additions, and the signs of the
-- scalars change none. From the laws of the cheapest plan.
use Rattle.std.specs.Prelude.{◌≡◌, Bool, cond, List, ℤ, pos, nat_abs}
use Rattle.std.proofs.Math.Path.{refl, ap}
use Rattle.std.proofs.Common.{sym, ap₂, ◌∙◌}
use Rattle.std.proofs.Math.Bool.{true, false}
use Prim.Native.Nat.{ℕ, zero, suc, ◌+◌, ◌-◌, ◌≤◌, ◌<◌}
use native.Mathlib.Omega.{arith}
use borrow.Author.Tests.{ltb-true, ltb-false}
use Rattle.std.proofs.Math.Dec.{ltb}
use Rattle.digits.specs.Scalar.{scalar, signed_scalar}
use Rattle.digits.proofs.Laws.Scalar.Signed.{scalar_size}
use Rattle.sheet.specs.declared.Plan.{Plan}
use Rattle.sheet.specs.Plan.{most_slots}
use Rattle.written.proofs.Laws.Promise.{written_signs}
use Rattle.written.specs.Written.{written_additions}
use Rattle.std.specs.declared.option.Option.{Option}
use Rattle.std.specs.declared.option.Option.TheVariants.{None}
use Rattle.chooser.specs.declared.next.Pays.{Pays}
use Rattle.chooser.specs.Cheapest.{cheapest_plan}
use Rattle.chooser.proofs.Laws.Cheapest.Least.{plan_within, plan_least}
use Rattle.chooser.proofs.Laws.Cheapest.Signs.{plan_signs}
use Rattle.chooser.specs.Next.{fewest, paying, first_below, Next, pays, none, next_limit}

module _ (f : ℕ → ℕ) where
  -- of the limits from n to the one before end, the first with fewer than a additions, or none
  data Below (a n end : ℕ) : Option Pays → Type 0 where
    found : {m : ℕ} → n ≤ m → m < end → f m < a → ((i : ℕ) → n ≤ i → i < m → a ≤ f i) → Below a n end (paying m (f m))
    missing : ((i : ℕ) → n ≤ i → i < end → a ≤ f i) → Below a n end None

  -- from one limit earlier on, which is not below a
  one_more : {a n : ℕ} (i : ℕ) → a ≤ f n → n ≤ i → (suc n ≤ i → a ≤ f i) → a ≤ f i
  one_more {a} {n} i h g q = go (ltb n i) refl
    where
      go : (t : Bool) → ltb n i ≡ t → a ≤ f i
      go true e = q (omega (arith, ltb-true n i e))
      go false e = let same : n ≡ i = omega (arith, ltb-false n i e) in omega (arith, h, ap f same)

  below_later : {a n end : ℕ} {r : Option Pays} → a ≤ f n → Below a (suc n) end r → Below a n end r
  below_later h (found {m} u v w q) = found {m = m} (omega arith) v w (λ i x y. one_more i h x (λ z. q i z y))
  below_later h (missing q) = missing (λ i x y. one_more i h x (λ z. q i z y))

  first_below_lem : (a n more : ℕ) → Below a n (n + more) (first_below f a n more)
  unfolding first_below
  first_below_lem a n zero = missing (λ i h g. absurd (omega arith))
  first_below_lem a n (suc more) =
      let e : suc n + more ≡ n + suc more = omega arith in
      go (ltb (f n) a) refl (rw e at (first_below_lem a (suc n) more))
    where
      go : (t : Bool) → ltb (f n) a ≡ t → Below a (suc n) (n + suc more) (first_below f a (suc n) more)
          → Below a n (n + suc more) (cond t (paying n (f n)) (first_below f a (suc n) more))
      go true e b = found {m = n} (omega arith) (omega arith) (ltb-true (f n) a e) (λ i h g. absurd (omega arith))
      go false e b = below_later (omega (arith, ltb-false (f n) a e)) b

  -- the first of the limits above one, up to 31, is the one that the words say
  pub first_next : (limit : ℕ) → Next f limit (first_below f (f limit) (suc limit) (most_slots - limit))
  first_next limit = go (first_below_lem (f limit) (suc limit) (most_slots - limit))
    where
      go : {r : Option Pays} → Below (f limit) (suc limit) (suc limit + (most_slots - limit)) r → Next f limit r
      go (found {m} u v w q) = pays {n = m} {a = f m} (omega arith) (omega arith) refl w (λ i x y. q i (omega arith) y)
      go (missing q) = none (λ i x y. q i (omega arith) (omega arith))

  -- and there is only one
  pub next_one : {limit : ℕ} {r s : Option Pays} → Next f limit r → Next f limit s → r ≡ s
  next_one (pays {n} {a} u v e w q) (pays {n = m} {a = b} u' v' e' w' q') = go (ltb n m) (ltb m n) refl refl
    where
      go : (s t : Bool) → ltb n m ≡ s → ltb m n ≡ t → paying n a ≡ paying m b
      go true t c d = absurd (omega (arith, ltb-true n m c, q' n u (ltb-true n m c)))
      go false true c d = absurd (omega (arith, ltb-true m n d, q m u' (ltb-true m n d)))
      go false false c d =
          let same : n ≡ m = omega (arith, ltb-false n m c, ltb-false m n d) in
          ap₂ paying same (sym e ∙ ap f same ∙ e')
  next_one (pays {n} u v e w q) (none q') = absurd (omega (arith, q' n u v))
  next_one (none q) (pays {n} u v e w q') = absurd (omega (arith, q n u v))
  next_one (none q) (none q') = refl

module _ (k l : ℤ) where
  -- a larger limit has no more additions
  pub fewest_falls : (n m : ℕ) → n ≤ m → fewest k l m ≤ fewest k l n
  fewest_falls n m h = plan_least k l m (cheapest_plan k l n) (plan_within k l n).0 (omega (arith, (plan_within k l n).1))

  pub fewest_signs : (limit : ℕ) → fewest k l limit ≡ fewest (pos (nat_abs k)) (pos (nat_abs l)) limit
  fewest_signs limit =
      (written_signs (cheapest_plan k l limit) k l (plan_within k l limit).0).0
      ∙ ap (λ (p : Plan). written_additions p (pos (nat_abs k)) (pos (nat_abs l))) (plan_signs k l limit)

  pub next_signs : (limit : ℕ) → next_limit k l limit ≡ next_limit (pos (nat_abs k)) (pos (nat_abs l)) limit
  unfolding next_limit
  next_signs limit = ap (λ (f : ℕ → ℕ). first_below f (f limit) (suc limit) (most_slots - limit)) (λ i n. fewest_signs n i)

  -- the limit that the call answers is the one that the words say, and what they say is the answer
  pub next_meets : (limit : ℕ) → Next (fewest k l) limit (next_limit k l limit)
  unfolding next_limit
  next_meets limit = first_next (fewest k l) limit

  pub next_only : (limit : ℕ) (r : Option Pays) → Next (fewest k l) limit r → r ≡ next_limit k l limit
  next_only limit r h = next_one (fewest k l) h (next_meets limit)

-- the limit for two signed scalars is that for their bytes
pub next_unsigned : (k : List ℕ) (k_sign : ℕ) (l : List ℕ) (l_sign : ℕ) (limit : ℕ) → next_limit (signed_scalar k k_sign) (signed_scalar l l_sign) limit ≡ next_limit (pos (scalar k)) (pos (scalar l)) limit
next_unsigned k k_sign l l_sign limit =
    next_signs (signed_scalar k k_sign) (signed_scalar l l_sign) limit ∙ ap₂ (λ (a b : ℕ). next_limit (pos a) (pos b) limit) (scalar_size k k_sign) (scalar_size l l_sign)

-- Trying every scalar of a size finds the one that the words say, and they say no other. Assumes nothing.
use Rattle.std.specs.Prelude.{◌≡◌, refl, ◌≢◌, Bool, true, false, cond, ℕ, zero, suc, ◌+◌, ◌^◌, ◌≤◌, ◌<◌, max, ltb, eqb}
use Rattle.std.proofs.Common.{sym, ◌∙◌, arith, ltb-true, ltb-false, eqb-true, pow_pos}
use Rattle.std.proofs.lemmas.Bool.{eqb-false}
use Rattle.dearest.specs.Dearest.{naf_weight, most_below, first_with, most, dearest, Heaviest}

-- what holds of n, and of d where d is below n, holds of d up to n; and where d is above n, from n on
up_to : (P : ℕ → Type 0) (d n : ℕ) → d ≤ n → (d < n → P d) → P n → P d
up_to P d n h below last = go (ltb d n) refl
  where
    go : (t : Bool) → ltb d n ≡ t → P d
    go true e = below (ltb-true d n e)
    go false e = let same : n ≡ d = omega (arith, ltb-false d n e) in rw same at last

from : (P : ℕ → Type 0) (n d : ℕ) → n ≤ d → P n → (n < d → P d) → P d
from P n d h first above = go (ltb n d) refl
  where
    go : (t : Bool) → ltb n d ≡ t → P d
    go true e = above (ltb-true n d e)
    go false e = let same : n ≡ d = omega (arith, ltb-false n d e) in rw same at first

-- no scalar below n has more than the most
most_bounds : (n d : ℕ) → d < n → naf_weight d ≤ most_below n
unfolding most_below
most_bounds zero d h = absurd (omega arith)
most_bounds (suc n) d h =
    up_to (λ (x : ℕ). naf_weight x ≤ max (most_below n) (naf_weight n)) d n (omega arith) (λ l. omega (arith, most_bounds n d l)) (omega arith)

-- one of those from c to the one before end that has w
record Among (c end w : ℕ) : Type 0 where
  pub at : ℕ
  pub after : c ≤ at
  pub before : at < end
  pub has : naf_weight at ≡ w

-- and one has as many
most_there : (n : ℕ) → Among 0 (suc n) (most_below (suc n))
unfolding most_below
most_there zero = record { at = 0; after = omega arith; before = omega arith; has = omega arith }
most_there (suc n) = go (ltb (most_below (suc n)) (naf_weight (suc n))) refl (most_there n)
  where
    go : (t : Bool) → ltb (most_below (suc n)) (naf_weight (suc n)) ≡ t → Among 0 (suc n) (most_below (suc n)) → Among 0 (suc (suc n)) (max (most_below (suc n)) (naf_weight (suc n)))
    go true e a = record { at = suc n; after = omega arith; before = omega arith; has = omega (arith, ltb-true (most_below (suc n)) (naf_weight (suc n)) e) }
    go false e a =
        record { at = a.at; after = omega arith; before = omega (arith, a.before); has = omega (arith, a.has, ltb-false (most_below (suc n)) (naf_weight (suc n)) e) }

-- r is the first of them
record First (c end w r : ℕ) : Type 0 where
  pub before : r < end
  pub has : naf_weight r ≡ w
  pub none_sooner : (d : ℕ) → c ≤ d → d < r → naf_weight d ≢ w

first_with_lem : (w c more : ℕ) → Among c (c + more) w → First c (c + more) w (first_with w c more)
unfolding first_with
first_with_lem w c zero a = absurd (omega (arith, a.after, a.before))
first_with_lem w c (suc more) a =
    let e : suc c + more ≡ c + suc more = omega arith in go (eqb (naf_weight c) w) refl (rw e at (first_with_lem w (suc c) more))
  where
    later : (naf_weight c ≡ w → ⊥) → Among (suc c) (c + suc more) w
    later ne =
        record {
          at = a.at;
          after = from (λ (x : ℕ). naf_weight x ≡ w → suc c ≤ x) c a.at a.after (λ q. absurd (ne q)) (λ l q. l) a.has;
          before = a.before;
          has = a.has;
        }

    go : (t : Bool) → eqb (naf_weight c) w ≡ t → (Among (suc c) (c + suc more) w → First (suc c) (c + suc more) w (first_with w (suc c) more))
        → First c (c + suc more) w (cond t c (first_with w (suc c) more))
    go true e rest =
        record { before = omega arith; has = eqb-true (naf_weight c) w e; none_sooner = λ d h l. absurd (omega arith) }
    go false e rest =
        let ne = eqb-false (naf_weight c) w e in
        let f = rest (later ne) in
        record {
          before = f.before;
          has = f.has;
          none_sooner = λ d h l. from (λ (x : ℕ). naf_weight x ≢ w) c d h ne (λ g. f.none_sooner d g l);
        }

-- the scalar found is the dearest
pub dearest_meets : (bits : ℕ) → Heaviest bits (dearest bits) (most bits)
unfolding dearest most
dearest_meets bits = go (2 ^ bits) refl (pow_pos bits)
  where
    go : (n : ℕ) → 2 ^ bits ≡ n → 0 < n → Heaviest bits (first_with (most_below (2 ^ bits)) 0 (2 ^ bits)) (most_below (2 ^ bits))
    go zero e h = absurd (omega arith)
    go (suc n) e h =
        let none : 0 + suc n ≡ suc n = omega arith in
        let f = rw none at (first_with_lem (most_below (suc n)) 0 (suc n) (rw none (most_there n))) in
        rw e
        (record {
          within = omega (arith, e, f.before);
          has = f.has;
          none_more = λ d l. most_bounds (suc n) d (omega (arith, e));
          none_smaller = λ d l. f.none_sooner d (omega arith) l;
        })

-- no smaller scalar has as many, nor more
pub fewer_below : (bits d : ℕ) → d < dearest bits → naf_weight d < naf_weight (dearest bits)
fewer_below bits d h =
    let m = dearest_meets bits in
    let ne = m.none_smaller d h in omega (arith, m.has, m.none_more d (omega (arith, m.within)))

-- there is no other
dearest_one : {bits c w d v : ℕ} → Heaviest bits c w → Heaviest bits d v → (c ≡ d) × (w ≡ v)
dearest_one {bits} {c} {w} {d} {v} p q = (go (ltb c d) (ltb d c) refl refl, same)
  where
    same : w ≡ v
    same = omega (arith, p.none_more d q.within, q.none_more c p.within, p.has, q.has)

    go : (s t : Bool) → ltb c d ≡ s → ltb d c ≡ t → c ≡ d
    go true t e f = absurd (q.none_smaller c (ltb-true c d e) (p.has ∙ same))
    go false true e f = absurd (p.none_smaller d (ltb-true d c f) (q.has ∙ sym same))
    go false false e f = omega (arith, ltb-false c d e, ltb-false d c f)

pub dearest_only : (bits c w : ℕ) → Heaviest bits c w → (c ≡ dearest bits) × (w ≡ most bits)
dearest_only bits c w h = dearest_one h (dearest_meets bits)

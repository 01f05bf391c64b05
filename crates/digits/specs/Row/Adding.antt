-- What can be done to a row over a window without making it heavier: add a small number for one more digit, halve, drop the
-- lowest place, strip a small number off a multiple of a power of two (Möller 2004). By induction on the list. Assumes nothing.
use Rattle.std.specs.Prelude.{◌≡◌, refl, ◌⊎◌, List, ◌∷◌, ℕ, zero, suc, ◌+◌, ◌*◌, ◌%◌, ◌^◌, ◌≤◌, ℤ, pos, negsuc, ◌-ℤ◌, neg_ℤ, nat_abs}
use Rattle.std.proofs.Common.{inl, inr, ⊎_elim, arith}
use Rattle.digits.specs.Integer.{up, down, half}
use Rattle.digits.specs.Integer.Parts.{half_even, integers, one_side, size, difference, negation}
use Rattle.digits.specs.Integer.Congruent.{Congruent, power_step}
use Rattle.digits.specs.Row.{Digit, none, odd, Over, empty, more, count, weight}
use Rattle.digits.specs.Row.Parts.{plus, minus}

-- some row over the window has the value p − n and at most w digits that are not 0
pub record HasRow (m p n w : ℕ) : Type 0 where
  pub ds : List ℤ
  pub over : Over m ds
  pub worth : plus ds + n ≡ minus ds + p
  pub light : weight ds ≤ w

-- it begins with an odd digit d; above it is a row with the value p' − n' and one non-zero digit less
pub record Begins (m p n w : ℕ) : Type 0 where
  pub d : ℤ
  pub odd : nat_abs d % 2 ≡ 1
  pub small : nat_abs d ≤ m
  pub p' : ℕ
  pub n' : ℕ
  pub w' : ℕ
  pub above : HasRow m p' n' w'
  pub worth : up d + 2 * p' + n ≡ down d + 2 * n' + p
  pub light : suc w' ≤ w

-- half the difference of d and e, within the window
pub record Halfway (m : ℕ) (d e : ℤ) : Type 0 where
  pub z : ℤ
  pub small : nat_abs z ≤ m
  pub worth : up d + down e + 2 * down z ≡ down d + up e + 2 * up z

parity : (n : ℕ) → (n % 2 ≡ 0) ⊎ (n % 2 ≡ 1)
parity n = go (n % 2) refl
  where
    go : (k : ℕ) → n % 2 ≡ k → (n % 2 ≡ 0) ⊎ (n % 2 ≡ 1)
    go zero e = inl e
    go (suc zero) e = inr e
    go (suc (suc k)) e = absurd (omega arith)

-- a digit counts for 1 at most
pub count_most : (d : ℤ) → count d ≤ 1
count_most (pos zero) = omega arith
count_most (pos (suc n)) = omega arith
count_most (negsuc n) = omega arith

-- an odd one does
pub count_odd : (d : ℤ) → nat_abs d % 2 ≡ 1 → count d ≡ 1
count_odd (pos zero) h = absurd (omega arith)
count_odd (pos (suc n)) h = refl
count_odd (negsuc n) h = refl

negated : (e : ℤ) → nat_abs (neg_ℤ e) ≡ nat_abs e
negated e = omega (arith, negation e, size e, size (neg_ℤ e))

half_most : (e : ℤ) (m : ℕ) → nat_abs e ≤ 2 * m → nat_abs e % 2 ≡ 0 → nat_abs (half e) ≤ m
half_most e m l h = omega (arith, half_even e h, size e, size (half e), one_side (half e))

-- two odd numbers within the window have it
pub halfway : (m : ℕ) (d e : ℤ) → nat_abs d % 2 ≡ 1 → nat_abs e % 2 ≡ 1 → nat_abs d ≤ m → nat_abs e ≤ m → Halfway m d e
halfway m d e p q k l =
    record { z = half s; small = half_most s m most even; worth = omega (arith, difference d e, half_even s even) }
  where
    s : ℤ
    s = d -ℤ e

    even : nat_abs s % 2 ≡ 0
    even = omega (arith, difference d e, size d, size e, size s)

    most : nat_abs s ≤ 2 * m
    most = omega (arith, difference d e, size d, size e, size s, one_side s)

module _ {m : ℕ} where
  -- a row, and the row with no digits
  pub own : {ds : List ℤ} → Over m ds → HasRow m (plus ds) (minus ds) (weight ds)
  own {ds} o = record { ds = ds; over = o; worth = omega arith; light = omega arith }

  nothing : HasRow m 0 0 0
  unfolding plus minus weight
  nothing = own empty

  -- the same value, written as another difference
  pub moved : {p n w : ℕ} (p' n' w' : ℕ) → HasRow m p n w → p + n' ≡ p' + n → w ≤ w' → HasRow m p' n' w'
  moved p' n' w' h e l = record { ds = h.ds; over = h.over; worth = omega (arith, h.worth); light = omega (arith, h.light) }

  -- a digit in front
  put : (d : ℤ) {p n w : ℕ} → Digit m d → HasRow m p n w → HasRow m (up d + 2 * p) (down d + 2 * n) (count d + w)
  unfolding plus minus weight
  put d g h =
      record { ds = d ∷ h.ds; over = more g h.over; worth = omega (arith, h.worth); light = omega (arith, h.light) }

  -- doubling
  pub doubled : {p n w : ℕ} → HasRow m p n w → HasRow m (2 * p) (2 * n) w
  doubled {p} {n} {w} h = moved (2 * p) (2 * n) w (put (pos 0) none h) (omega arith) (omega arith)

  -- a number within the window has a row with one digit that is not 0; the first number bounds it
  alone : (f : ℕ) (e : ℤ) → nat_abs e ≤ f → f ≤ m → HasRow m (up e) (down e) 1
  alone zero e l h = moved (up e) (down e) 1 nothing (omega (arith, size e)) (omega arith)
  alone (suc f) e l h =
      ⊎_elim (λ q. later q (alone f (half e) (half_most e f (omega arith) q) (omega arith))) here (parity (nat_abs e))
    where
      later : nat_abs e % 2 ≡ 0 → HasRow m (up (half e)) (down (half e)) 1 → HasRow m (up e) (down e) 1
      later q r = moved (up e) (down e) 1 (doubled r) (omega (arith, half_even e q)) (omega arith)

      here : nat_abs e % 2 ≡ 1 → HasRow m (up e) (down e) 1
      here q =
          let l' : nat_abs e ≤ m = omega arith in
          moved (up e) (down e) 1 (put e (odd q l') nothing) (omega arith) (omega (arith, count_most e))

  add_front : {d : ℤ} {ds : List ℤ} → Digit m d → Over m ds
      → ((e : ℤ) → nat_abs e ≤ m → HasRow m (plus ds + up e) (minus ds + down e) (suc (weight ds)))
      → (e : ℤ) → nat_abs e ≤ m → (nat_abs e % 2 ≡ 0) ⊎ (nat_abs e % 2 ≡ 1)
      → HasRow m (up d + 2 * plus ds + up e) (down d + 2 * minus ds + down e) (suc (count d + weight ds))
  add_front {d} {ds} g o r e l (inl q) =
      moved (up d + 2 * plus ds + up e) (down d + 2 * minus ds + down e) (suc (count d + weight ds))
      (put d g (r (half e) (half_most e m (omega arith) q))) (omega (arith, half_even e q)) (omega arith)
  add_front {d} {ds} none o r e l (inr q) =
      moved (0 + 2 * plus ds + up e) (0 + 2 * minus ds + down e) (suc (0 + weight ds))
      (put e (odd q l) (own o)) (omega arith) (omega (arith, count_most e))
  add_front {d} {ds} (odd p k) o r e l (inr q) =
      last (halfway m d (neg_ℤ e) p (omega (arith, negated e)) k (omega (arith, negated e)))
    where
      last : Halfway m d (neg_ℤ e) → HasRow m (up d + 2 * plus ds + up e) (down d + 2 * minus ds + down e) (suc (count d + weight ds))
      last h =
          moved (up d + 2 * plus ds + up e) (down d + 2 * minus ds + down e) (suc (count d + weight ds))
          (put (pos 0) none (r h.z h.small)) (omega (arith, negation e)) (omega (arith, count_odd d p))

  add : {ds : List ℤ} → Over m ds → (e : ℤ) → nat_abs e ≤ m → HasRow m (plus ds + up e) (minus ds + down e) (suc (weight ds))
  unfolding plus minus weight
  add empty e l = moved (0 + up e) (0 + down e) 1 (alone m e l (omega arith)) (omega arith) (omega arith)
  add (more g o) e l = add_front g o (add o) e l (parity (nat_abs e))

  -- ADD. A number within the window is added for one more digit
  pub added : {p n w : ℕ} (e : ℤ) → nat_abs e ≤ m → HasRow m p n w → HasRow m (p + up e) (n + down e) (suc w)
  added {p} {n} {w} e l h =
      moved (p + up e) (n + down e) (suc w) (add h.over e l) (omega (arith, h.worth)) (omega (arith, h.light))

  halve : {ds : List ℤ} (p n w : ℕ) → Over m ds → plus ds + 2 * n ≡ minus ds + 2 * p → weight ds ≤ w → HasRow m p n w
  unfolding plus minus weight
  halve p n w empty e l = moved p n w nothing (omega arith) (omega arith)
  halve p n w (more none o) e l = moved p n w (own o) (omega arith) (omega arith)
  halve p n w (more {d = d} (odd q k) o) e l = absurd (omega (arith, size d))

  -- HALVE. An even value begins with 0
  pub halved : {p n w : ℕ} → HasRow m (2 * p) (2 * n) w → HasRow m p n w
  halved {p} {n} {w} h = halve p n w h.over h.worth h.light

  begin : {ds : List ℤ} (p n w : ℕ) → (p + n) % 2 ≡ 1 → Over m ds → plus ds + n ≡ minus ds + p → weight ds ≤ w → Begins m p n w
  unfolding plus minus weight
  begin p n w q empty e l = absurd (omega arith)
  begin p n w q (more none o) e l = absurd (omega arith)
  begin p n w q (more {d = d} (odd q' k) o) e l =
      record { d = d; odd = q'; small = k; p' = _; n' = _; w' = _; above = own o; worth = omega arith; light = omega (arith, count_odd d q') }

  -- an odd value begins with an odd digit
  pub begins : {p n w : ℕ} → (p + n) % 2 ≡ 1 → HasRow m p n w → Begins m p n w
  begins {p} {n} {w} q h = begin p n w q h.over h.worth h.light

  -- DROP. An odd number within the window at the lowest place goes
  pub dropped : {p n w : ℕ} (e : ℤ) → nat_abs e % 2 ≡ 1 → nat_abs e ≤ m → HasRow m (2 * p + up e) (2 * n + down e) w → HasRow m p n w
  dropped {p} {n} {w} e q k h = first (begins (omega (arith, size e)) h)
    where
      last : (b : Begins m (2 * p + up e) (2 * n + down e) w) → Halfway m b.d e → HasRow m p n w
      last b t = moved p n w (added t.z t.small b.above) (omega (arith, b.worth)) (omega (arith, b.light))

      first : Begins m (2 * p + up e) (2 * n + down e) w → HasRow m p n w
      first b = last b (halfway m b.d e b.odd q b.small k)

  -- STRIP. A number within the window is taken off a multiple of 2^k, where it is no other multiple of 2^k than 0
  pub strip : (k a b w : ℕ) (e : ℤ) → nat_abs e ≤ m → (Congruent (2 ^ k) e (pos 0) → e ≡ pos 0)
      → HasRow m (2 ^ k * a + up e) (2 ^ k * b + down e) w → HasRow m (2 ^ k * a) (2 ^ k * b) w
  strip zero a b w e l n h =
      moved (2 ^ 0 * a) (2 ^ 0 * b) w h
      (omega (integers, n (record { a = up e; b = down e; parts = omega arith }))) (omega arith)
  strip (suc k) a b w e l n h = ⊎_elim (λ q. raised (strip k a b w (half e) (half_most e m (omega arith) q) (none q) (even q))) odd (parity (nat_abs e))
    where
      raised : HasRow m (2 ^ k * a) (2 ^ k * b) w → HasRow m (2 ^ suc k * a) (2 ^ suc k * b) w
      raised r = moved (2 ^ suc k * a) (2 ^ suc k * b) w (doubled r) (omega (arith, power_step k a, power_step k b)) (omega arith)

      none : nat_abs e % 2 ≡ 0 → Congruent (2 ^ k) (half e) (pos 0) → half e ≡ pos 0
      none q c =
          omega (
            integers,
            half_even e q,
            n (record { a = c.a; b = c.b; parts = omega (arith, c.parts, half_even e q, power_step k c.a, power_step k c.b) }),
          )

      even : nat_abs e % 2 ≡ 0 → HasRow m (2 ^ k * a + up (half e)) (2 ^ k * b + down (half e)) w
      even q =
          halved (moved (2 * (2 ^ k * a + up (half e))) (2 * (2 ^ k * b + down (half e))) w h
          (omega (arith, half_even e q, power_step k a, power_step k b)) (omega arith))

      odd : nat_abs e % 2 ≡ 1 → HasRow m (2 ^ suc k * a) (2 ^ suc k * b) w
      odd q =
          raised (dropped e q l (moved (2 * (2 ^ k * a) + up e) (2 * (2 ^ k * b) + down e) w h
          (omega (arith, power_step k a, power_step k b)) (omega arith)))

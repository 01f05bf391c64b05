-- No row over a window's digits has fewer non-zero ones than the row of its value (Möller 2004). Along the row's rule, from
-- what can be done to a row without making it heavier.
use Rattle.std.specs.Prelude.{◌≡◌, List, ℕ, ◌+◌, ◌*◌, ◌^◌, ◌≤◌, ℤ, pos, ◌+ℤ◌, ◌-ℤ◌}
use Rattle.std.proofs.Common.{ap, inl, inr, arith}
use Rattle.digits.specs.Integer.{up, down}
use Rattle.digits.specs.Integer.Parts.{integers, size}
use Rattle.digits.specs.Integer.Congruent.{Congruent, power_step}
use Rattle.digits.specs.Row.{value, Over, count, weight}
use Rattle.digits.specs.Row.Parts.{value_parts}
use Rattle.digits.specs.Row.Adding.{HasRow, Begins, Halfway, count_most, halfway, own, moved, halved, begins, strip}
use Rattle.forms.specs.Row.{RowRule, end, place, row}
use Rattle.forms.specs.Row.OddDigit.{OddDigit, Cases, digit_cases, halves, rest_multiple}
use Rattle.forms.proofs.Laws.Row.Only.{row_meets}

-- one place: a row of c gives one of what is left, c', that is lighter by what the digit d counts
module _ {m : ℕ} (c d c' : ℤ) (e : c -ℤ d ≡ c' +ℤ c') {w : ℕ} (r : HasRow m (up c) (down c) w) where
  -- below an odd c: the row's own digit differs from d by 2z, and z is stripped off
  module _ (o : OddDigit m c d) (b : Begins m (up c) (down c) w) (h : Halfway m d b.d) where
    only_zero : Congruent (2 ^ o.j) h.z (pos 0) → h.z ≡ pos 0
    only_zero k =
        omega (
          integers,
          h.worth,
          o.only b.d b.small
              (record { a = k.b; b = k.a; parts = omega (arith, h.worth, k.parts, power_step o.j k.a, power_step o.j k.b) }),
        )

    left_odd : HasRow m (up c') (down c') b.w'
    left_odd =
        let s : Congruent (2 ^ o.j) c' (pos 0) = rest_multiple c d c' e o in
        moved (up c') (down c') b.w'
        (strip o.j s.a s.b b.w' h.z h.small only_zero
        (moved (2 ^ o.j * s.a + up h.z) (2 ^ o.j * s.b + down h.z) b.w' b.above
        (omega (arith, s.parts, h.worth, b.worth, halves c d c' e)) (omega arith)))
        (omega (arith, s.parts)) (omega arith)

  left : Cases m c d → (v : ℕ) × (count d + v ≤ w) × HasRow m (up c') (down c') v
  left (inl p) = (
    w,
    omega (arith, ap count p.1),
    halved (moved (2 * up c') (2 * down c') w r (omega (integers, p.1, halves c d c' e)) (omega arith)),
  )
  left (inr o) =
      let b : Begins m (up c) (down c) w = begins (omega (arith, o.odd, size d, halves c d c' e)) r in
      (b.w', omega (arith, b.light, count_most d), left_odd o b (halfway m d b.d o.odd b.odd o.small b.small))

-- MIN, along the places
fewest : {m : ℕ} {c : ℤ} {ds : List ℤ} {w : ℕ} → 1 ≤ m → RowRule m c ds → HasRow m (up c) (down c) w → weight ds ≤ w
unfolding weight
fewest h end r = omega arith
fewest {m} {w = w} h (place {c = c} {c' = c'} {d = d} {ds = ds} n g t s) r =
    let l : (v : ℕ) × (count d + v ≤ w) × HasRow m (up c') (down c') v = left c d c' t r (digit_cases h g) in
    let f : weight ds ≤ l.0 = fewest h s l.2 in
    omega (arith, l.1)

-- no row over the same digits has fewer that are not 0
pub row_fewest : (m : ℕ) (c : ℤ) (ds : List ℤ) → 1 ≤ m → Over m ds → value ds ≡ c → weight (row m c) ≤ weight ds
row_fewest m c ds h o e =
    fewest h (row_meets m c h) (moved (up c) (down c) (weight ds) (own o) (omega (integers, value_parts ds)) (omega arith))

-- The closed form: with n bits, 1 or more, the most is ⌊n/2⌋ + 1, and the dearest scalar is (2 × 4^⌊n/2⌋ + 1)/3. A scalar with more than w
-- digits that are not 0 is not below (2 × 4^w + 1)/3, which has w + 1 of them. From how the two lowest bits of a scalar give its digit.
use Rattle.std.specs.Prelude.{◌≡◌, refl, ◌⊎◌, ℕ, zero, suc, ◌+◌, ◌*◌, ◌/◌, ◌%◌, ◌^◌, ◌≤◌, ◌<◌}
use Rattle.std.proofs.Common.{sym, ap, ◌∙◌, inl, inr, ⊎_elim, pow-suc, arith, pow_pos, pow_mono}
use Rattle.std.proofs.Math.Logic.{⊎_map}
use Rattle.dearest.specs.Body.{pairs}
use Rattle.dearest.specs.Dearest.{naf_weight, most, dearest, Heaviest}
use Rattle.dearest.proofs.Laws.Dearest.Weight.{weight_zero, weight_even, weight_one, weight_three}
use Rattle.dearest.proofs.Laws.Dearest.Tried.{dearest_only}

-- a scalar by its remainder by four
data ByFour : ℕ → Type 0 where
  even : (c : ℕ) → ByFour (2 * c)
  one : (c : ℕ) → ByFour (4 * c + 1)
  three : (c : ℕ) → ByFour (4 * c + 3)

by_four : (x : ℕ) → ByFour x
by_four x = go (x % 4) refl
  where
    go : (r : ℕ) → x % 4 ≡ r → ByFour x
    go zero e = let same : 2 * (x / 2) ≡ x = omega arith in rw same at (even (x / 2))
    go (suc zero) e = let same : 4 * (x / 4) + 1 ≡ x = omega arith in rw same at (one (x / 4))
    go (suc (suc zero)) e = let same : 2 * (x / 2) ≡ x = omega arith in rw same at (even (x / 2))
    go (suc (suc (suc zero))) e = let same : 4 * (x / 4) + 3 ≡ x = omega arith in rw same at (three (x / 4))
    go (suc (suc (suc (suc r)))) e = absurd (omega arith)

-- below (2 × 4^w + 1)/3 no scalar has more than w: where that holds of smaller scalars, of x
lighter : {x : ℕ} (w : ℕ) → ((c v : ℕ) → c < x → 3 * c ≤ 2 * 4 ^ v → naf_weight c ≤ v) → 3 * x ≤ 2 * 4 ^ w → ByFour x → naf_weight x ≤ w
lighter w smaller l (even zero) = omega (arith, weight_zero)
lighter w smaller l (even (suc c)) = omega (arith, weight_even (suc c), smaller (suc c) w (omega arith) (omega arith))
lighter zero smaller l (one c) = absurd (omega arith)
lighter (suc w) smaller l (one c) = omega (arith, weight_one c, smaller c w (omega arith) (omega (arith, pow-suc 4 w)))
lighter zero smaller l (three c) = absurd (omega arith)
lighter (suc w) smaller l (three c) =
    omega (arith, weight_three c, smaller (suc c) w (omega arith) (omega (arith, pow-suc 4 w)))

light_below : (n x w : ℕ) → x < n → 3 * x ≤ 2 * 4 ^ w → naf_weight x ≤ w
light_below zero x w h l = absurd (omega arith)
light_below (suc n) x w h l = lighter w (λ c v g. light_below n c v (omega arith)) l (by_four x)

light : (x w : ℕ) → 3 * x ≤ 2 * 4 ^ w → naf_weight x ≤ w
light x w l = light_below (suc x) x w (omega arith) l

-- (2 × 4^w + 1)/3 is one more than w pairs of bits 10, and has w + 1
pairs_closed : (w : ℕ) → 3 * suc (pairs w) ≡ 2 * 4 ^ w + 1
unfolding pairs
pairs_closed zero = refl
pairs_closed (suc w) = omega (arith, pairs_closed w, pow-suc 4 w)

pairs_weight : (w : ℕ) → naf_weight (suc (pairs w)) ≡ suc w
unfolding pairs
pairs_weight zero = weight_one 0 ∙ ap suc weight_zero
pairs_weight (suc w) =
    let three : suc (4 * pairs w + 2) ≡ 4 * pairs w + 3 = omega arith in ap naf_weight three ∙ weight_three (pairs w) ∙ ap suc (pairs_weight w)

-- the powers of two by those of four
two_four : (n : ℕ) → (2 ^ n ≡ 4 ^ (n / 2)) ⊎ (2 ^ n ≡ 2 * 4 ^ (n / 2))
two_four zero = inl refl
two_four (suc zero) = inr refl
two_four (suc (suc n)) =
    let half : suc (suc n) / 2 ≡ suc (n / 2) = omega arith in
    rw (half, pow-suc 2 (suc n), pow-suc 2 n, pow-suc 4 (n / 2)) (⊎_map (λ e. omega arith) (λ e. omega arith) (two_four n))

-- so with so many bits, w being half of them, it is the dearest
pairs_dearest : (bits : ℕ) → 1 ≤ bits → Heaviest bits (suc (pairs (bits / 2))) (suc (bits / 2))
pairs_dearest bits h = go (two_four bits)
  where
    w : ℕ
    w = bits / 2

    go : (2 ^ bits ≡ 4 ^ w) ⊎ (2 ^ bits ≡ 2 * 4 ^ w) → Heaviest bits (suc (pairs w)) (suc w)
    go e =
        record {
          within = ⊎_elim (λ q. omega (arith, pairs_closed w, pow_mono {i = 1} {j = bits} h)) (λ q. omega (arith, pairs_closed w, pow_pos w)) e;
          has = pairs_weight w;
          none_more = λ d l. light d (suc w) (⊎_elim (λ q. omega (arith, pow-suc 4 w)) (λ q. omega (arith, pow-suc 4 w)) e);
          none_smaller = λ d l q. omega (arith, light d w (omega (arith, pairs_closed w)));
        }

pub dearest_pairs : (bits : ℕ) → 1 ≤ bits → dearest bits ≡ suc (pairs (bits / 2))
dearest_pairs bits h = sym (dearest_only bits (suc (pairs (bits / 2))) (suc (bits / 2)) (pairs_dearest bits h)).0

pub most_closed : (bits : ℕ) → 1 ≤ bits → most bits ≡ bits / 2 + 1
most_closed bits h = omega (arith, (dearest_only bits (suc (pairs (bits / 2))) (suc (bits / 2)) (pairs_dearest bits h)).1)

pub dearest_closed : (bits : ℕ) → 1 ≤ bits → 3 * dearest bits ≡ 2 * 4 ^ (bits / 2) + 1
dearest_closed bits h = ap (λ (x : ℕ). 3 * x) (dearest_pairs bits h) ∙ pairs_closed (bits / 2)

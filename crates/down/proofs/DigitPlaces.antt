-- The digits of a window whose value is 2^z times an odd number: that number at its place, and zeros about it. And a run of equal bits
-- is a run of zeros. From the digits of a value by its parity.
use mathlib.Core.Path.{◌≡◌, sym, ap, ◌∙◌}
use mathlib.Core.List.{List, [], ◌∷◌, ◌++◌, append_assoc, append-nil}
use Prim.Native.Nat.{ℕ, zero, suc, ◌+◌, ◌*◌, ◌-◌, ◌%◌, ◌^◌, ◌≤◌, ◌<◌}
use native.Mathlib.Nat.{mul-le-mul_left, le_of_suc-le-suc, one-mul}
use native.Mathlib.Omega.{arith}
use lib.IntN.{ℤ, pos, neg_ℤ, nat_abs}
use lib.ListN.{drop, replicate}
use lib.Pow.{pow-lt}
use Rattle.digits.specs.Integer.{half, signed_by}
use Rattle.digits.specs.Integer.Congruent.{power_step}
use Rattle.digits.specs.Integer.Parts.{integers, one_side, size, negation, half_even}
use Rattle.digits.specs.Integer.Sign.{signed_size}
use Rattle.down.specs.Down.{under, worth, settled, window, places}
use Rattle.down.proofs.Laws.Down.Settled.{settled_even, settled_odd, worth_size}
use Rattle.down.proofs.Laws.Down.Row.{places_equal}
use Rattle.down.proofs.AheadBits.{under_place}

-- zeros, a digit, zeros
abbrev pub alone : ℕ → ℤ → ℕ → List ℤ
alone a d b = replicate a (pos 0) ++ (d ∷ replicate b (pos 0))

half_signed : (t y : ℕ) → half (signed_by t (pos (2 * y))) ≡ signed_by t (pos y)
half_signed zero y = omega (integers, half_even (pos (2 * y)) (omega arith), one_side (half (pos (2 * y))))
half_signed (suc t) y =
    let d : ℤ = neg_ℤ (pos (2 * y)) in
    omega (integers, half_even d (omega (arith, size d, negation (pos (2 * y)))), one_side (half d), negation (pos (2 * y)), negation (pos y))

settled_digit : (t o z w : ℕ) → o % 2 ≡ 1 → z < w → settled w (signed_by t (pos (2 ^ z * o))) ≡ alone z (signed_by t (pos o)) (w - suc z)
settled_digit t o z zero h l = absurd (omega arith)
settled_digit t o zero (suc w) h l =
    ap (λ (n : ℕ). settled (suc w) (signed_by t (pos n))) (one-mul o)
    ∙ settled_odd w (signed_by t (pos o)) (ap (λ (n : ℕ). n % 2) (signed_size t (pos o)) ∙ h)
    ∙ ap (λ (n : ℕ). signed_by t (pos o) ∷ replicate n (pos 0)) {x = w} {y = suc w - suc zero} (omega arith)
settled_digit t o (suc z) (suc w) h l =
    let y : ℕ = 2 ^ z * o in
    ap (λ (n : ℕ). settled (suc w) (signed_by t (pos n))) (power_step z o)
    ∙ settled_even w (signed_by t (pos (2 * y))) (ap (λ (n : ℕ). n % 2) (signed_size t (pos (2 * y))) ∙ omega arith)
    ∙ ap (λ (ds : List ℤ). pos 0 ∷ ds) (ap (settled w) (half_signed t y) ∙ settled_digit t o z w h (le_of_suc-le-suc l))
    ∙ ap (alone (suc z) (signed_by t (pos o))) {x = w - suc z} {y = suc w - suc (suc z)} (omega arith)

drop_some : (e z : ℕ) (ds : List ℤ) → e ≤ z → drop e (replicate z (pos 0) ++ ds) ≡ replicate (z - e) (pos 0) ++ ds
drop_some zero z ds h = ap (λ (n : ℕ). replicate n (pos 0) ++ ds) {x = z} {y = z - zero} (omega arith)
drop_some (suc e) zero ds h = absurd (omega arith)
drop_some (suc e) (suc z) ds h = drop_some e z ds (le_of_suc-le-suc h) ∙ ap (λ (n : ℕ). replicate n (pos 0) ++ ds) {x = z - e} {y = suc z - suc e} (omega arith)

module _ (u j v t z o : ℕ) (is : worth u j (suc v) ≡ signed_by t (pos (2 ^ z * o))) (odd : o % 2 ≡ 1) where
  -- the value is at most half of 2^w
  small : 2 ^ z * o ≤ 2 ^ v
  small = omega (arith, worth_size u j v, ap nat_abs is, signed_size t (pos (2 ^ z * o)))

  least : 2 ^ z ≤ 2 ^ z * o
  least = omega (arith, mul-le-mul_left {m = 1} {n = o} (2 ^ z) (omega arith))

  pub zeros_within : z ≤ v
  zeros_within = let over : ¬ (v < z) = λ l. omega (arith, small, least, pow-lt {i = v} {j = z} l) in omega arith

  -- the window's digits from place 0 on
  pub window_is : suc v ≤ suc j + z → window u j (suc v) ≡ alone (z - (suc v - suc j)) (signed_by t (pos o)) (suc v - suc z)
  unfolding window
  window_is reach =
      ap (λ (d : ℤ). drop (suc v - suc j) (settled (suc v) d)) is
      ∙ ap (drop (suc v - suc j)) (settled_digit t o z (suc v) odd (omega (arith, zeros_within)))
      ∙ drop_some (suc v - suc j) z (signed_by t (pos o) ∷ replicate (suc v - suc z) (pos 0)) (omega arith)

-- s places with equal bits, and the next bit equal too, are s zeros
module _ (m u : ℕ) (some : 1 ≤ m) where
  pub run_zeros : (s i : ℕ) → s ≤ suc i → ((k : ℕ) → k < s → under u i k ≡ under u i (suc k))
      → places m u (suc i) ≡ places m u (suc i - s) ++ replicate s (pos 0)
  run_zeros zero i l e = sym (append-nil (places m u (suc i - zero)) ∙ ap (places m u) {x = suc i - zero} {y = suc i} (omega arith))
  run_zeros (suc s) i l e =
      let within : s ≤ i = omega arith in
      let next : under u (i - s) 0 ≡ under u (i - s) 1 =
      under_place u i s 0 within ∙ ap (under u i) {x = s + 0} {y = s} (omega arith) ∙ e s (omega arith) ∙ sym (under_place u i s 1 within ∙ ap (under u i) {x = s + 1} {y = suc s} (omega arith))
      in
      run_zeros s i (omega arith) (λ k h. e k (omega arith))
      ∙ ap (λ (ds : List ℤ). ds ++ replicate s (pos 0)) (ap (places m u) {x = suc i - s} {y = suc (i - s)} (omega arith) ∙ places_equal m u (i - s) some next)
      ∙ append_assoc (places m u (i - s)) (pos 0 ∷ []) (replicate s (pos 0))
      ∙ ap (λ (n : ℕ). places m u n ++ replicate (suc s) (pos 0)) {x = i - s} {y = suc i - suc s} (omega arith)

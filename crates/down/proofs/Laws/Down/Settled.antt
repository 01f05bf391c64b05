-- The digits of a window: their number, their value, at most one that is not 0, and all of them the window's. From what a window is worth.
use Rattle.std.specs.Prelude.{◌≡◌, Bool, not, cond, List, [], ◌∷◌, ◌++◌, T, eqb, leb, ℤ, pos, ◌+ℤ◌, ◌-ℤ◌, length, ◌≢◌}
use Rattle.std.proofs.Math.Path.{refl, ap, subst}
use Rattle.std.proofs.Common.{sym, ap₂, ◌∙◌, mul-add, mul_comm, mul_assoc, mul-zero, mul-one, mul_left_comm, mul-le-mul_left, suc-add, one-mul, mod-lt, sub-one, pow_pos, arith, leb→le, length-drop, eqb-true, eq-eqb, ne_eqb}
use Rattle.std.proofs.Math.Bool.{true, false}
use Prim.Native.Nat.{ℕ, zero, suc, ◌+◌, ◌*◌, ◌-◌, ◌/◌, ◌%◌, ◌^◌, ◌≤◌, ◌<◌}
use Rattle.std.proofs.Math.Nat.{pow-succ', div-add-mod}
use Rattle.std.proofs.Math.Dec.{nleb→lt}
use Rattle.std.proofs.Math.IntN.{nat_abs}
use Rattle.std.proofs.Math.ListN.{drop, replicate}
use Rattle.std.proofs.lemmas.List.{length-replicate}
use Rattle.std.proofs.lemmas.Bool.{eqb-false}
use Rattle.digits.specs.Integer.{up, down, half}
use Rattle.digits.specs.Integer.Parts.{integers, one_side, size, sum, difference, half_even}
use Rattle.digits.specs.Integer.Congruent.{power_step, power_split}
use Rattle.digits.specs.Row.{value, weight, none, odd, Over, empty, more}
use Rattle.digits.specs.Row.Adding.{count_most}
use Rattle.digits.specs.Row.Weight.{weight_zeros}
use Rattle.down.specs.Down.{under, bits, worth, settled, window}
use Rattle.down.specs.Down.Bits.{under_is, near, near_zero, near_down, worth_near}
use Rattle.down.specs.Down.Settled.{low}

-- ── the digits of a value ───────────────────────────────────────────────────────────────────

-- an even value has a 0 in front, an odd one is followed by zeros
pub settled_even : (w : ℕ) (d : ℤ) → nat_abs d % 2 ≡ 0 → settled (suc w) d ≡ pos 0 ∷ settled w (half d)
unfolding settled
settled_even w d e = rw (eq-eqb (nat_abs d % 2) 0 e) refl

pub settled_odd : (w : ℕ) (d : ℤ) → nat_abs d % 2 ≡ 1 → settled (suc w) d ≡ d ∷ replicate w (pos 0)
unfolding settled
settled_odd w d e = rw (ne_eqb (nat_abs d % 2) 0 (omega arith)) refl

zeros_value : (n : ℕ) → value (replicate n (pos 0)) ≡ pos 0
unfolding value
zeros_value zero = refl
zeros_value (suc n) = ap (λ (v : ℤ). pos 0 +ℤ (v +ℤ v)) (zeros_value n)

zeros_over : {m : ℕ} (n : ℕ) → Over m (replicate n (pos 0))
zeros_over zero = empty
zeros_over (suc n) = more none (zeros_over n)

-- what holds of the digits of a value d, by its parity
module _ (P : ℕ → ℤ → List ℤ → Type 0) (start : (d : ℤ) → P 0 d [])
    (even : (w : ℕ) (d : ℤ) → nat_abs d % 2 ≡ 0 → P w (half d) (settled w (half d)) → P (suc w) d (pos 0 ∷ settled w (half d)))
    (odd : (w : ℕ) (d : ℤ) → nat_abs d % 2 ≡ 1 → P (suc w) d (d ∷ replicate w (pos 0))) where
  by_parity : (w : ℕ) (d : ℤ) → P w d (settled w d)
  unfolding settled
  by_parity zero d = start d
  by_parity (suc w) d = go (eqb (nat_abs d % 2) 0) (eqb-true (nat_abs d % 2) 0) (eqb-false (nat_abs d % 2) 0) (by_parity w (half d))
    where
      go : (b : Bool) → (b ≡ true → nat_abs d % 2 ≡ 0) → (b ≡ false → nat_abs d % 2 ≢ 0) → P w (half d) (settled w (half d))
          → P (suc w) d (cond b (pos 0 ∷ settled w (half d)) (d ∷ replicate w (pos 0)))
      go true p q r = even w d (p refl) r
      go false p q r = let n : nat_abs d % 2 ≢ 0 = q refl in odd w d (omega arith)

-- there are as many as places
pub settled_length : (w : ℕ) (d : ℤ) → length (settled w d) ≡ w
settled_length = by_parity (λ w d ds. length ds ≡ w) (λ d. refl) (λ w d e r. ap suc r) (λ w d o. ap suc (length-replicate w (pos 0)))

-- at most one is not 0
pub settled_weight : (w : ℕ) (d : ℤ) → weight (settled w d) ≤ 1
unfolding weight
settled_weight = by_parity (λ w d ds. weight ds ≤ 1) (λ d. omega arith) (λ w d e r. omega arith) (λ w d o. omega (arith, count_most d, weight_zeros w))

-- they read back to the value, if it is not too large
pub settled_value : (w : ℕ) (d : ℤ) → nat_abs d < 2 ^ w → value (settled w d) ≡ d
unfolding value
settled_value =
    by_parity (λ w d ds. nat_abs d < 2 ^ w → value ds ≡ d)
    (λ d l. omega (integers, size d))
    (λ w d e r l.
    let h : ℤ = value (settled w (half d)) in
    let same : h ≡ half d = r (omega (arith, half_even d e, size d, size (half d), one_side (half d))) in
    omega (integers, half_even d e, sum (pos 0) (h +ℤ h), sum h h))
    (λ w d o l. omega (integers, zeros_value w, sum d (pos 0), ap (λ (v : ℤ). d +ℤ (v +ℤ v)) (zeros_value w)))

-- they are the window's where the value is, or is even and at most twice as large
pub settled_over : {m : ℕ} (w : ℕ) (d : ℤ) → nat_abs d ≤ 2 * m → (nat_abs d % 2 ≡ 1 → nat_abs d ≤ m) → Over m (settled w d)
settled_over {m} =
    by_parity (λ w d ds. nat_abs d ≤ 2 * m → (nat_abs d % 2 ≡ 1 → nat_abs d ≤ m) → Over m ds)
    (λ d l f. empty)
    (λ w d e r l f.
    let most : nat_abs (half d) ≤ m = omega (arith, half_even d e, size d, size (half d), one_side (half d)) in
    more none (r (omega arith) (λ _. most)))
    (λ w d o l f. more (odd o (f o)) (zeros_over w))

-- twice the value has a 0 in front of the digits, so the lowest s of 2^s times a value fall away
dropped : (s n : ℕ) (d e : ℤ) → up d + 2 ^ s * down e ≡ down d + 2 ^ s * up e → drop s (settled (s + n) d) ≡ settled n e
dropped zero n d e h = let same : d ≡ e = omega integers in ap₂ settled (omega arith) same
dropped (suc s) n d e h =
    let even : nat_abs d % 2 ≡ 0 = omega (arith, power_step s (down e), power_step s (up e), size d) in
    ap (λ (w : ℕ). drop (suc s) (settled w d)) (suc-add s n) ∙ ap (drop (suc s)) (settled_even (s + n) d even)
    ∙ dropped s n (half d) e (omega (arith, power_step s (down e), power_step s (up e), half_even d even))

-- and these are zeros
fallen : (s n : ℕ) (d e : ℤ) → up d + 2 ^ s * down e ≡ down d + 2 ^ s * up e → settled (s + n) d ≡ replicate s (pos 0) ++ drop s (settled (s + n) d)
fallen zero n d e h = refl
fallen (suc s) n d e h =
    let even : nat_abs d % 2 ≡ 0 = omega (arith, power_step s (down e), power_step s (up e), size d) in
    let front : settled (suc s + n) d ≡ pos 0 ∷ settled (s + n) (half d) = ap (λ (w : ℕ). settled w d) (suc-add s n) ∙ settled_even (s + n) d even in
    front
    ∙ ap (λ (ds : List ℤ). pos 0 ∷ ds) (fallen s n (half d) e (omega (arith, power_step s (down e), power_step s (up e), half_even d even)))
    ∙ ap (λ (ds : List ℤ). replicate (suc s) (pos 0) ++ drop (suc s) ds) (sym front)

drop_weight : (s : ℕ) (ds : List ℤ) → weight (drop s ds) ≤ weight ds
unfolding weight
drop_weight zero ds = omega arith
drop_weight (suc s) [] = omega arith
drop_weight (suc s) (d ∷ ds) = omega (arith, drop_weight s ds)

drop_over : {m : ℕ} (s : ℕ) {ds : List ℤ} → Over m ds → Over m (drop s ds)
drop_over zero o = o
drop_over (suc s) empty = empty
drop_over (suc s) (more g o) = drop_over s o

-- ── what a window is worth ──────────────────────────────────────────────────────────────────

bits_below : (u i n : ℕ) → bits u i n < 2 ^ n
unfolding bits
bits_below u i zero = omega arith
bits_below u i (suc n) = omega (arith, bits_below u i n, under_is u i (suc n))

-- at most half of 2^w in size
pub worth_size : (u i v : ℕ) → nat_abs (worth u i (suc v)) ≤ 2 ^ v
unfolding worth
worth_size u i v = rw sub-one (go (under u i 0) (omega (arith, under_is u i 0)))
  where
    a : ℕ
    a = bits u i v + under u i (suc v)

    go : (b : ℕ) → b < 2 → nat_abs (pos a -ℤ pos (2 ^ v * b)) ≤ 2 ^ v
    go zero h = omega (arith, size (pos a -ℤ pos (2 ^ v * 0)), difference (pos a) (pos (2 ^ v * 0)), one_side (pos a -ℤ pos (2 ^ v * 0)), bits_below u i v, under_is u i (suc v), mul-zero (2 ^ v))
    go (suc zero) h = omega (arith, size (pos a -ℤ pos (2 ^ v * 1)), difference (pos a) (pos (2 ^ v * 1)), one_side (pos a -ℤ pos (2 ^ v * 1)), bits_below u i v, under_is u i (suc v), mul-one (2 ^ v))
    go (suc (suc b)) h = absurd (omega arith)

-- rounding moves a number by no more than a half
pub near_bound : (u n : ℕ) → (2 * (2 ^ n * near u n) ≤ 2 * u + 2 ^ n) × (2 * u ≤ 2 * (2 ^ n * near u n) + 2 ^ n)
unfolding near
near_bound u n = (omega (arith, rounded, parted, mod-lt (2 * u) (pow_pos n), odd_most), omega (arith, rounded, parted, mod-lt (2 * u) (pow_pos n)))
  where
    y : ℕ
    y = 2 * u / 2 ^ n

    parted : 2 ^ n * y + 2 * u % 2 ^ n ≡ 2 * u
    parted = div-add-mod (2 * u) (2 ^ n)

    rounded : 2 * (2 ^ n * ((y + 1) / 2)) ≡ 2 ^ n * y + 2 ^ n * (y % 2)
    rounded = mul_left_comm 2 (2 ^ n) ((y + 1) / 2) ∙ ap (λ (x : ℕ). 2 ^ n * x) (omega arith) ∙ mul-add (2 ^ n) y (y % 2)

    odd_most : 2 ^ n * (y % 2) ≤ 2 ^ n * 1
    odd_most = mul-le-mul_left (2 ^ n) (omega arith)

-- ── the digits of a window ──────────────────────────────────────────────────────────────────

-- as many as the window has places from place 0 on
pub window_length : (u i w : ℕ) → length (window u i w) + (suc i - w) ≡ suc i
unfolding window
window_length u i w = omega (arith, length-drop (w - suc i) (settled w (worth u i w)), settled_length w (worth u i w))

pub window_weight : (u i w : ℕ) → weight (window u i w) ≤ 1
unfolding window
window_weight u i w = omega (arith, drop_weight (w - suc i) (settled w (worth u i w)), settled_weight w (worth u i w))

pub window_over : {m : ℕ} (u i w : ℕ) → nat_abs (worth u i w) ≤ 2 * m → (nat_abs (worth u i w) % 2 ≡ 1 → nat_abs (worth u i w) ≤ m) → Over m (window u i w)
unfolding window
window_over u i w l f = drop_over (w - suc i) (settled_over w (worth u i w) l f)

low_size : (u n : ℕ) → nat_abs (low u n) < 2 ^ n
unfolding low
low_size u n =
    let x : ℕ = 2 ^ n * near u n in
    omega (arith, size (pos u -ℤ pos x), difference (pos u) (pos x), one_side (pos u -ℤ pos x), near_bound u n, pow_pos n)

-- a window that stays above place 0 has the digits of its value
inside : (u i w : ℕ) → w ≤ suc i → window u i w ≡ settled w (worth u i w)
unfolding window
inside u i w h = ap (λ (s : ℕ). drop s (settled w (worth u i w))) none
  where
    none : w - suc i ≡ 0
    none = omega arith

-- one that does not is worth 2^s times what is left of u
module _ (u i v : ℕ) (h : suc i ≤ suc v) where
  abbrev n : ℕ
  n = suc i

  abbrev w : ℕ
  w = suc v

  abbrev s : ℕ
  s = w - n

  abbrev x : ℕ
  x = 2 ^ n * near u n

  abbrev d : ℤ
  d = worth u i w

  abbrev e : ℤ
  e = pos u -ℤ pos x

  nought : n - w ≡ 0
  nought = omega arith

  power : 2 ^ w * near u n ≡ 2 ^ s * x
  power = ap (λ (y : ℕ). y * near u n) (power_split n w h ∙ mul_comm (2 ^ n) (2 ^ s)) ∙ mul_assoc (2 ^ s) (2 ^ n) (near u n)

  multiple : up d + 2 ^ s * down e ≡ down d + 2 ^ s * up e
  multiple =
      let parts : up e + x ≡ u + down e = omega (arith, difference (pos u) (pos x)) in
      omega (
        arith,
        worth_near u i v,
        near_down u n w,
        ap (λ (y : ℕ). 2 ^ s * y) (ap (near u) nought ∙ near_zero u),
        power,
        ap (λ (y : ℕ). 2 ^ s * y) parts,
        mul-add (2 ^ s) (up e) x,
        mul-add (2 ^ s) u (down e),
      )

  -- so it has the digits of that
  outside : window u i w ≡ settled n (low u n)
  unfolding window low
  outside = ap (λ (y : ℕ). drop s (settled y d)) (omega arith) ∙ dropped s n d e multiple

  -- and below place 0 none is set
  past : settled w d ≡ replicate s (pos 0) ++ window u i w
  unfolding window
  past = subst (λ (y : ℕ). settled y d ≡ replicate s (pos 0) ++ drop s (settled y d)) {x = s + n} {y = w} (omega arith) (fallen s n d e multiple)

-- below place 0 no digit is set
pub none_below : (u i v : ℕ) → settled (suc v) (worth u i (suc v)) ≡ replicate (suc v - suc i) (pos 0) ++ window u i (suc v)
none_below u i v = go (leb (suc v) (suc i)) (leb→le (suc v) (suc i)) (nleb→lt (suc v) (suc i))
  where
    go : (t : Bool) → (T t → suc v ≤ suc i) → (T (not t) → suc i < suc v) → settled (suc v) (worth u i (suc v)) ≡ replicate (suc v - suc i) (pos 0) ++ window u i (suc v)
    go true p q =
        let none : suc v - suc i ≡ 0 = omega (arith, p tt) in
        sym (inside u i (suc v) (p tt)) ∙ ap (λ (k : ℕ). replicate k (pos 0) ++ window u i (suc v)) (sym none)
    go false p q = past u i v (omega (arith, q tt))

-- their value takes u, rounded at the window's top, to u, rounded below it
pub window_value : (u i v : ℕ) → up (value (window u i (suc v))) + 2 ^ length (window u i (suc v)) * near u (suc i) ≡ down (value (window u i (suc v))) + near u (suc i - suc v)
unfolding low
window_value u i v = go (leb w n) (leb→le w n) (nleb→lt w n)
  where
    n : ℕ
    n = suc i

    w : ℕ
    w = suc v

    d : ℤ
    d = worth u i w

    goal : List ℤ → Type 0
    goal es = up (value es) + 2 ^ length es * near u n ≡ down (value es) + near u (n - w)

    here : (es : List ℤ) (z : ℤ) (k : ℕ) → value es ≡ z → length es ≡ k → up z + 2 ^ k * near u n ≡ down z + near u (n - w) → goal es
    here es z k e f r = rw (e, f) r

    go : (t : Bool) → (T t → w ≤ n) → (T (not t) → n < w) → goal (window u i w)
    go true p q =
        subst goal (sym (inside u i w (p tt)))
        (here (settled w d) d w (settled_value w d (omega (arith, worth_size u i v, pow-succ' 2 v, pow_pos v))) (settled_length w d)
        (worth_near u i v ∙ ap (λ (x : ℕ). down d + x) (near_down u n w ∙ ap (λ (s : ℕ). 2 ^ s * near u (n - w)) (none (p tt)) ∙ one-mul (near u (n - w)))))
      where
        none : w ≤ n → w - n ≡ 0
        none h = omega arith
    go false p q =
        subst goal (sym (outside u i v (omega (arith, q tt))))
        (here (settled n (low u n)) (low u n) n (settled_value n (low u n) (low_size u n)) (settled_length n (low u n))
        (omega (arith, difference (pos u) (pos (2 ^ n * near u n)), ap (near u) (nought (q tt)), near_zero u)))
      where
        nought : n < w → n - w ≡ 0
        nought h = omega arith

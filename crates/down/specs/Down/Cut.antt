-- CUT: where x and y agree in their p lowest places, y is not beyond a half of 2^p and x is far beyond it, the row of x has more non-zero
-- digits than the row of y. By induction on p along both rows, from the laws of the row's digits and from the row being the lightest.
use Rattle.std.specs.Prelude.{◌≡◌, refl, ◌≢◌, Bool, true, false, not, List, [], ◌∷◌, ℕ, zero, suc, ◌+◌, ◌*◌, ◌-◌, ◌/◌, ◌%◌, ◌^◌, ◌≤◌, ◌<◌, T, leb, ℤ, negsuc, ◌+ℤ◌}
use Rattle.std.proofs.Common.{sym, subst, ◌∙◌, inl, inr, mul-add, mul-pos, mul_assoc, mul-le-mul_right, arith, leb→le, pow_pos, pow_mono}
use Rattle.std.proofs.Math.Path.{ap}
use Rattle.std.proofs.Math.Nat.{mul-sub, pow-succ'}
use Rattle.std.proofs.Math.Dec.{nleb→lt}
use Rattle.std.proofs.Math.IntN.{pos, nat_abs}
use Rattle.digits.specs.Integer.{up, down, quo, rem}
use Rattle.digits.specs.Integer.Parts.{integers, one_side, size, sum, division, rem_lt, rem_only}
use Rattle.digits.specs.Integer.Congruent.{Congruent, power_step, power_split, coarser_power, Apart, apart}
use Rattle.digits.specs.Row.{value, count, weight, odd, empty, more}
use Rattle.digits.specs.Row.Adding.{count_most, count_odd}
use Rattle.forms.specs.Residue.{width}
use Rattle.forms.specs.Residue.Only.{congruent}
use Rattle.forms.specs.Residue.Width.{WidthIs, width_is}
use Rattle.forms.specs.Row.{DigitRule, even, wide, narrow, digit, rest, row}
use Rattle.forms.proofs.Laws.Row.Digit.{digit_meets, digit_mod}
use Rattle.forms.proofs.Laws.Row.Fewest.{row_fewest}
use Rattle.forms.specs.Row.OddDigit.{halves, half_multiple, digit_small}
use Rattle.forms.proofs.Laws.Row.Value.{row_value}
use Rattle.forms.proofs.Laws.Row.Only.{row_zero, row_unfold, rest_twice}

-- ── multiples and remainders ────────────────────────────────────────────────────────────────

-- a multiple of M below the next one is not above it
within : (M a b : ℕ) → M * a < M * b + M → M * a ≤ M * b
within M a b h = pick (apart M a b)
  where
    pick : Apart M (M * a) (M * b) → M * a ≤ M * b
    pick (inl e) = omega arith
    pick (inr (inl e)) = omega arith
    pick (inr (inr e)) = absurd (omega arith)

-- the size of a multiple of M
multiple : {M : ℕ} (x : ℤ) → Congruent M x (pos 0) → (a : ℕ) × (nat_abs x ≡ M * a)
multiple {M} x c = (
  c.a - c.b + (c.b - c.a),
  omega (arith, c.parts, size x, one_side x, mul-add M (c.a - c.b) (c.b - c.a), mul-sub M c.a c.b, mul-sub M c.b c.a),
)

-- congruent numbers have the same remainder
same_rem : (M : ℕ) (x y : ℤ) → 0 < M → Congruent M x y → rem x M ≡ rem y M
same_rem M x y h c =
    rem_only x M (rem y M) (c.a + up (quo y M)) (c.b + down (quo y M)) h (rem_lt y M h)
    (omega (arith, c.parts, division y M h, mul-add M c.a (up (quo y M)), mul-add M c.b (down (quo y M))))

zero_is : (z : ℤ) → nat_abs z ≡ 0 → z ≡ pos 0
zero_is z e = omega (integers, size z)

-- ── the row of an odd number ────────────────────────────────────────────────────────────────

-- a row without a digit that is not 0
light_value : (ds : List ℤ) → weight ds ≡ 0 → value ds ≡ pos 0
unfolding weight value
light_value [] e = refl
light_value (pos zero ∷ ds) e = ap (λ (v : ℤ). pos 0 +ℤ (v +ℤ v)) (light_value ds (omega arith))
light_value (pos (suc n) ∷ ds) e = absurd (omega arith)
light_value (negsuc n ∷ ds) e = absurd (omega arith)

module _ (m : ℕ) (h : 1 ≤ m) where
  -- the weight of a row is that of its lowest digit and of what is left above it
  weight_unfold : (c : ℤ) → c ≢ pos 0 → weight (row m c) ≡ count (digit m c) + weight (row m (rest m c))
  unfolding weight
  weight_unfold c n = ap weight (row_unfold m c h n)

  -- a number that is not 0 has a digit that is not 0
  pub heavy : (c : ℤ) → c ≢ pos 0 → 1 ≤ weight (row m c)
  heavy c n = go (weight (row m c)) refl
    where
      go : (w : ℕ) → weight (row m c) ≡ w → 1 ≤ w
      go zero e = absurd (n (sym (row_value m c h) ∙ light_value (row m c) e))
      go (suc w) e = omega arith

  -- an even number has the digit 0, an odd one agrees with its digit below W − 1
  even_digit : {c d : ℤ} → nat_abs c % 2 ≡ 0 → DigitRule m c d → d ≡ pos 0
  even_digit o (even e) = refl
  even_digit o (wide e r l) = absurd (omega arith)
  even_digit o (narrow e r l t) = absurd (omega arith)

  digit_near : {c d : ℤ} → nat_abs c % 2 ≡ 1 → DigitRule m c d → Congruent (2 ^ (width m - 1)) c d
  digit_near o (even e) = absurd (omega arith)
  digit_near o (wide e r l) = coarser_power (width m - 1) (width m) (omega arith) (congruent r)
  digit_near o (narrow e r l t) = congruent t

  -- an odd number within the window is its own row
  small_odd : (y : ℤ) → nat_abs y % 2 ≡ 1 → nat_abs y ≤ m → weight (row m y) ≤ 1
  unfolding value weight
  small_odd y o l =
      omega (arith, row_fewest m y (y ∷ []) h (more (odd o l) empty) (omega (integers, sum y (pos 0))), count_most y)

  -- one beyond it has two digits that are not 0
  large_odd : (x : ℤ) → nat_abs x % 2 ≡ 1 → m < nat_abs x → 2 ≤ weight (row m x)
  large_odd x o g =
      let d : ℤ = digit m x in
      let r : ℤ = rest m x in
      let rule : DigitRule m x d = digit_meets m x h in
      let e = rest_twice m x h in
      let two : up x + down d + 2 * down r ≡ up d + down x + 2 * up r = halves x d r e in
      let some : r ≢ pos 0 = λ z. omega (arith, two, ap up z, ap down z, size x, size d, one_side x, one_side d, digit_small h rule) in
      omega (arith, weight_unfold x (λ z. omega (arith, ap nat_abs z)), heavy r some, count_odd d (odd_digit two))
    where
      odd_digit : up x + down (digit m x) + 2 * down (rest m x) ≡ up (digit m x) + down x + 2 * up (rest m x) → nat_abs (digit m x) % 2 ≡ 1
      odd_digit e = omega (arith, size x, size (digit m x))

  -- ── one place ───────────────────────────────────────────────────────────────────────────────

  -- both have the same digit: what is left above it agrees in a place less, and the weights differ alike
  module _ (x y : ℤ) (x_some : x ≢ pos 0) (y_some : y ≢ pos 0) (same : digit m x ≡ digit m y) where
    halves_x : up x + down (digit m y) + 2 * down (rest m x) ≡ up (digit m y) + down x + 2 * up (rest m x)
    halves_x = omega (arith, ap up same, ap down same, halves x (digit m x) (rest m x) (rest_twice m x h))

    halves_y : up y + down (digit m y) + 2 * down (rest m y) ≡ up (digit m y) + down y + 2 * up (rest m y)
    halves_y = halves y (digit m y) (rest m y) (rest_twice m y h)

    agree : (q : ℕ) → Congruent (2 ^ suc q) x y → Congruent (2 ^ q) (rest m x) (rest m y)
    agree q c =
        record { a = c.a; b = c.b; parts = omega (arith, c.parts, halves_x, halves_y, power_step q c.a, power_step q c.b) }

    heavier : suc (weight (row m (rest m y))) ≤ weight (row m (rest m x)) → suc (weight (row m y)) ≤ weight (row m x)
    heavier l = omega (arith, ap count same, weight_unfold x x_some, weight_unfold y y_some)

  -- y is 0
  none : (x y : ℤ) → nat_abs y ≡ 0 → x ≢ pos 0 → suc (weight (row m y)) ≤ weight (row m x)
  unfolding weight
  none x y e n = omega (arith, heavy x n, ap (λ (z : ℤ). weight (row m z)) (zero_is y e), ap weight (row_zero m))

  -- what CUT says of the places below p
  abbrev Cuts : ℕ → Type 0
  Cuts p = (x y : ℤ) → Congruent (2 ^ p) x y → 2 * nat_abs y ≤ 2 ^ p → 2 ^ p * ((m + 1) / 2) ≤ nat_abs x → suc (weight (row m y)) ≤ weight (row m x)

  -- from the places below q to one more, by what y is
  module _ (q : ℕ) (ih : Cuts q) (x y : ℤ) (c : Congruent (2 ^ suc q) x y) (l : 2 * nat_abs y ≤ 2 ^ suc q) (g : 2 ^ suc q * ((m + 1) / 2) ≤ nat_abs x) (x_some : x ≢ pos 0) (y_some : y ≢ pos 0) where
    parity : nat_abs x % 2 ≡ nat_abs y % 2
    parity = omega (arith, c.parts, power_step q c.a, power_step q c.b, size x, size y)

    far : 2 * (2 ^ q * ((m + 1) / 2)) ≤ nat_abs x
    far = omega (arith, g, power_step q ((m + 1) / 2))

    near : nat_abs y ≤ 2 ^ q
    near = omega (arith, l, pow-succ' 2 q)

    -- even: both digits are 0
    even_turn : nat_abs y % 2 ≡ 0 → suc (weight (row m y)) ≤ weight (row m x)
    even_turn o =
        let e : digit m y ≡ pos 0 = even_digit o (digit_meets m y h) in
        let same : digit m x ≡ digit m y = even_digit (omega (arith, parity)) (digit_meets m x h) ∙ sym e in
        let hx = halves_x x y x_some y_some same in
        let hy = halves_y x y x_some y_some same in
        heavier x y x_some y_some same
        (ih (rest m x) (rest m y) (agree x y x_some y_some same q c)
        (omega (integers, e, hy, near, size y, size (rest m y), one_side y, one_side (rest m y)))
        (omega (integers, e, hx, far, size x, size (rest m x), one_side x, one_side (rest m x))))

    -- odd, and few places: y is a digit of the window, and x is beyond it
    few_turn : nat_abs y % 2 ≡ 1 → 2 ^ q ≤ m → suc (weight (row m y)) ≤ weight (row m x)
    few_turn o b =
        let more : 1 * ((m + 1) / 2) ≤ 2 ^ q * ((m + 1) / 2) = mul-le-mul_right ((m + 1) / 2) (pow_pos q) in
        omega (arith, small_odd y o (omega (arith, near)), large_odd x (omega (arith, parity)) (omega (arith, far, parity, more)))

    -- odd, and more places: both have the same digit, and what is left above it is a multiple of 2^k
    many_turn : (k r : ℕ) → width m ≡ suc (suc k) → m < 2 ^ suc k → q ≡ suc r → k ≤ r → nat_abs y % 2 ≡ 1 → suc (weight (row m y)) ≤ weight (row m x)
    many_turn k r is past e b o =
        heavier x y x_some y_some same (ih (rest m x) (rest m y) (agree x y x_some y_some same q c) y_near x_far)
      where
        H : ℕ
        H = (m + 1) / 2

        same : digit m x ≡ digit m y
        same = digit_mod m (suc q) x y h (omega arith) (same_rem (2 ^ suc q) x y (pow_pos (suc q)) c)

        small : nat_abs (digit m y) < 2 * 2 ^ k
        small = omega (arith, digit_small h (digit_meets m y h), past, pow-succ' 2 k)

        left : (z : ℤ) → nat_abs z % 2 ≡ 1 → (a : ℕ) × (nat_abs (rest m z) ≡ 2 ^ k * a)
        left z p =
            multiple (rest m z)
            ((half_multiple z (digit m z) (rest m z) (rest_twice m z h) k).0
            (subst (λ (n : ℕ). Congruent (2 ^ n) z (digit m z)) (omega arith) (digit_near p (digit_meets m z h))))

        y_near : 2 * nat_abs (rest m y) ≤ 2 ^ q
        y_near =
            let (a, t) = left y o in
            let power : 2 ^ q ≡ 2 * (2 ^ k * 2 ^ (r - k)) = ap (λ (n : ℕ). 2 ^ n) e ∙ pow-succ' 2 r ∙ ap (λ (n : ℕ). 2 * n) (power_split k r b) in
            omega (
              arith,
              t,
              power,
              within (2 ^ k) a (2 ^ (r - k))
                  (omega (arith, t, power, near, small, halves_y x y x_some y_some same, size y, size (digit m y), size (rest m y), one_side (rest m y))),
            )

        x_far : 2 ^ q * H ≤ nat_abs (rest m x)
        x_far =
            let (a, t) = left x (omega (arith, parity)) in
            let power : 2 ^ q * H ≡ 2 ^ k * (2 ^ (q - k) * H) = ap (λ (n : ℕ). n * H) (power_split k q (omega arith)) ∙ mul_assoc (2 ^ k) (2 ^ (q - k)) H in
            omega (
              arith,
              t,
              power,
              within (2 ^ k) (2 ^ (q - k) * H) a
                  (omega (arith, t, power, far, small, halves_x x y x_some y_some same, size x, size (digit m y), size (rest m x), one_side x, one_side (rest m x))),
            )

    -- by the parity of y, and by whether the window ends above the places
    turn : suc (weight (row m y)) ≤ weight (row m x)
    turn = by_parity (nat_abs y % 2) refl
      where
        w : WidthIs m
        w = width_is m h

        by_places : nat_abs y % 2 ≡ 1 → (n : ℕ) → q ≡ n → (t : Bool) → (T t → n ≤ w.k) → (T (not t) → w.k < n) → suc (weight (row m y)) ≤ weight (row m x)
        by_places o n e true a b = few_turn o (omega (arith, w.within, pow_mono (in_place n e (a tt))))
          where
            in_place : (n : ℕ) → q ≡ n → n ≤ w.k → q ≤ w.k
            in_place n e l = omega arith
        by_places o zero e false a b = absurd (omega (arith, b tt))
        by_places o (suc r) e false a b = many_turn w.k r w.is w.past e (omega (arith, b tt)) o

        by_parity : (n : ℕ) → nat_abs y % 2 ≡ n → suc (weight (row m y)) ≤ weight (row m x)
        by_parity zero o = even_turn o
        by_parity (suc zero) o = by_places o q refl (leb q w.k) (leb→le q w.k) (nleb→lt q w.k)
        by_parity (suc (suc n)) o = absurd (omega arith)

  -- so far beyond 2^p there is no 0
  some : (p : ℕ) (x : ℤ) → 2 ^ p * ((m + 1) / 2) ≤ nat_abs x → x ≢ pos 0
  some p x g e =
      let half : 1 ≤ (m + 1) / 2 = omega arith in
      omega (arith, ap nat_abs e, mul-pos (pow_pos p) half)

  -- CUT
  pub cut : (p : ℕ) → Cuts p
  cut zero x y c l g = none x y (omega arith) (some 0 x g)
  cut (suc q) x y c l g = go (cut q) (nat_abs y) refl
    where
      go : Cuts q → (n : ℕ) → nat_abs y ≡ n → suc (weight (row m y)) ≤ weight (row m x)
      go ih zero e = none x y e (some (suc q) x g)
      go ih (suc n) e = turn q ih x y c l g (some (suc q) x g) (λ z. omega (arith, ap nat_abs z))

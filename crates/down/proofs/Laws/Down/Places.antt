-- The digits of the lowest places: as many as places, the window's, worth what is left of the number below the top one, and no more of them
-- not 0 than 01's row of that has. Along the rule of the turns.
use Rattle.std.specs.Prelude.{◌≡◌, refl, ◌≢◌, List, [], ◌∷◌, ◌++◌, ℕ, zero, suc, ◌+◌, ◌*◌, ◌-◌, ◌/◌, ◌%◌, ◌^◌, ◌≤◌, ◌<◌, ℤ, pos, negsuc, ◌+ℤ◌, ◌-ℤ◌, nat_abs, length}
use Rattle.std.proofs.Common.{sym, ap, subst, ◌∙◌, mul-add, mul-zero, mul-one, mul-suc, mul_left_comm, mul-le-mul_left, mod-lt, mul_assoc, one-mul, arith, pow_pos, pow-add, length-append}
use Rattle.std.proofs.Math.Nat.{div-add-mod, pow-succ'}
use Rattle.digits.specs.Integer.{up, down}
use Rattle.digits.specs.Integer.Parts.{integers, one_side, size, sum, difference}
use Rattle.digits.specs.Integer.Congruent.{Congruent, power_step}
use Rattle.digits.specs.Row.{value, weight, Over, empty, more}
use Rattle.digits.specs.Row.Weight.{weight_append, weight_most}
use Rattle.forms.specs.Residue.{width}
use Rattle.forms.specs.Residue.Width.{WidthIs, width_is}
use Rattle.forms.specs.Row.{row}
use Rattle.down.specs.Down.{under, bits, worth, settled, window, places, TurnRule, equal, wide, narrow, DownRule, end, turn}
use Rattle.down.specs.Down.Bits.{under_is, shifted, near_here, shifted_half, near, near_zero, near_down, worth_near}
use Rattle.down.proofs.Laws.Down.Settled.{worth_size, near_bound, window_length, window_weight, window_over, window_value}
use Rattle.down.specs.Down.Unfold.{turn_some, places_meet}
use Rattle.down.specs.Down.Cut.{heavy, cut}

-- ── one behind the other ────────────────────────────────────────────────────────────────────

over_append : {m : ℕ} {xs ys : List ℤ} → Over m xs → Over m ys → Over m (xs ++ ys)
over_append empty o = o
over_append (more g p) o = more g (over_append p o)

-- the digits above count 2 for each place below them
pub value_append : (xs ys : List ℤ)
    → up (value (xs ++ ys)) + (down (value xs) + 2 ^ length xs * down (value ys)) ≡ down (value (xs ++ ys)) + (up (value xs) + 2 ^ length xs * up (value ys))
unfolding value
value_append [] ys = omega arith
value_append (x ∷ xs) ys =
    let v : ℤ = value xs in
    let w : ℤ = value (xs ++ ys) in
    omega (
      arith,
      value_append xs ys,
      power_step (length xs) (down (value ys)),
      power_step (length xs) (up (value ys)),
      sum x (v +ℤ v),
      sum v v,
      sum x (w +ℤ w),
      sum w w,
    )

-- a 0 above counts nothing
zero_value : (xs : List ℤ) → value (xs ++ (pos 0 ∷ [])) ≡ value xs
unfolding value
zero_value [] = refl
zero_value (x ∷ xs) = ap (λ (v : ℤ). x +ℤ (v +ℤ v)) (zero_value xs)

zero_weight : (xs : List ℤ) → weight (xs ++ (pos 0 ∷ [])) ≡ weight xs
unfolding weight
zero_weight xs = omega (arith, weight_append xs (pos 0 ∷ []))

-- ── every turn ──────────────────────────────────────────────────────────────────────────────

rule_length : {m u n : ℕ} {ds : List ℤ} → DownRule m u n ds → length ds ≡ n
rule_length end = refl
rule_length {u = u} (turn {i = i} {w = w} {ds = ds} t r) =
    omega (arith, length-append ds (window u i w), rule_length r, window_length u i w)

-- there are as many as places
pub places_length : (m u n : ℕ) → 1 ≤ m → length (places m u n) ≡ n
places_length m u n h = rule_length (places_meet m u n h)

-- a window for w places is worth at most half of 2^w
sized : (u i w k : ℕ) → w ≡ suc k → nat_abs (worth u i w) ≤ 2 ^ k
sized u i w k e = subst (λ (x : ℕ). nat_abs (worth u i x) ≤ 2 ^ k) (sym e) (worth_size u i k)

-- so it has the digits of m
turn_over : {m u i w : ℕ} → 1 ≤ m → TurnRule m u i w → Over m (window u i w)
turn_over {m} {u} {i} h (equal e) = window_over u i 1 (omega (arith, worth_size u i 0)) (λ _. omega (arith, worth_size u i 0))
turn_over {m} {u} {i} h (wide n l) =
    let w : WidthIs m = width_is m h in
    window_over u i (width m) (omega (arith, sized u i (width m) (suc w.k) w.is, w.within, pow-succ' 2 w.k)) l
turn_over {m} {u} {i} h (narrow n o l) =
    let w : WidthIs m = width_is m h in
    let most : nat_abs (worth u i (width m - 1)) ≤ m = omega (arith, sized u i (width m - 1) w.k (omega (arith, w.is)), w.within) in
    window_over u i (width m - 1) (omega arith) (λ _. most)

rule_over : {m u n : ℕ} {ds : List ℤ} → 1 ≤ m → DownRule m u n ds → Over m ds
rule_over h end = empty
rule_over h (turn t r) = over_append (rule_over h r) (turn_over h t)

-- they are the window's
pub places_over : (m u n : ℕ) → 1 ≤ m → Over m (places m u n)
places_over m u n h = rule_over h (places_meet m u n h)

-- ── the value ───────────────────────────────────────────────────────────────────────────────

-- z is what is left of u below place n
abbrev Left : ℕ → ℕ → ℤ → Type 0
Left u n z = up z + 2 ^ n * near u n ≡ down z + u

turn_value : (u i w : ℕ) (ds : List ℤ) → 1 ≤ w → length ds ≡ suc i - w → Left u (suc i - w) (value ds) → Left u (suc i) (value (ds ++ window u i w))
turn_value u i zero ds h l e = absurd (omega arith)
turn_value u i (suc v) ds h l e =
    omega (
      arith,
      e,
      parts,
      ap (λ (x : ℕ). M * x) (window_value u i v),
      mul-add M (up (value es)) (2 ^ length es * near u n),
      mul-add M (down (value es)) (near u n'),
      power,
    )
  where
    n : ℕ
    n = suc i

    n' : ℕ
    n' = suc i - suc v

    M : ℕ
    M = 2 ^ n'

    es : List ℤ
    es = window u i (suc v)

    parts : up (value (ds ++ es)) + (down (value ds) + M * down (value es)) ≡ down (value (ds ++ es)) + (up (value ds) + M * up (value es))
    parts = subst (λ (k : ℕ). up (value (ds ++ es)) + (down (value ds) + 2 ^ k * down (value es)) ≡ down (value (ds ++ es)) + (up (value ds) + 2 ^ k * up (value es))) l (value_append ds es)

    power : M * (2 ^ length es * near u n) ≡ 2 ^ n * near u n
    power =
        sym (mul_assoc M (2 ^ length es) (near u n))
        ∙ ap (λ (x : ℕ). x * near u n) (sym (pow-add 2 n' (length es)) ∙ ap (λ (x : ℕ). 2 ^ x) (omega (arith, window_length u i (suc v))))

rule_value : {m u n : ℕ} {ds : List ℤ} → 1 ≤ m → DownRule m u n ds → Left u n (value ds)
unfolding value
rule_value {u = u} h end = omega (arith, near_zero u)
rule_value {u = u} h (turn {i = i} {w = w} {ds = ds} t r) = turn_value u i w ds (turn_some h t) (rule_length r) (rule_value h r)

-- they are worth what is left of the number
pub places_value : (m u n : ℕ) → 1 ≤ m → up (value (places m u n)) + 2 ^ n * near u n ≡ down (value (places m u n)) + u
places_value m u n h = rule_value h (places_meet m u n h)

-- ── the weight ──────────────────────────────────────────────────────────────────────────────

-- what is left is not beyond a half of 2^n
left_near : (u n : ℕ) (z : ℤ) → Left u n z → 2 * nat_abs z ≤ 2 ^ n
left_near u n z e = omega (arith, e, near_bound u n, size z, one_side z)

-- equal bits have the digit 0
pub window_equal : (u i : ℕ) → under u i 0 ≡ under u i 1 → window u i 1 ≡ pos 0 ∷ []
unfolding window worth bits settled
window_equal u i e = rw (nothing, none) refl
  where
    none : 1 - suc i ≡ 0
    none = omega arith

    nothing : pos (0 + under u i 1) -ℤ pos (1 * under u i 0) ≡ pos 0
    nothing = omega (integers, difference (pos (0 + under u i 1)) (pos (1 * under u i 0)))

-- at unequal bits at least a fourth of 2^n is left
left_far : (u i : ℕ) (z : ℤ) → under u i 0 ≢ under u i 1 → Left u (suc i) z → 2 ^ suc i ≤ 4 * nat_abs z
unfolding shifted
left_far u i z n e = go (x % 2) (y % 2) refl refl
  where
    M : ℕ
    M = 2 ^ i

    x : ℕ
    x = shifted u i 0

    y : ℕ
    y = shifted u i 1

    a : ℕ
    a = x / 2

    parted : M * y + 2 ^ 1 * u % M ≡ 2 * u
    parted = div-add-mod (2 ^ 1 * u) M

    bits_differ : x % 2 ≢ y % 2
    bits_differ p = n (under_is u i 0 ∙ p ∙ sym (under_is u i 1))

    split : (c : ℕ) → y ≡ 4 * a + c → M * y ≡ 4 * (M * a) + M * c
    split c p = ap (λ (v : ℕ). M * v) p ∙ mul-add M (4 * a) c ∙ ap (λ (v : ℕ). v + M * c) (mul_left_comm M 4 a)

    rounded_down : x % 2 ≡ 0 → near u (suc i) ≡ a
    rounded_down p = omega (arith, near_here u i)

    rounded_up : x % 2 ≡ 1 → near u (suc i) ≡ suc a
    rounded_up p = omega (arith, near_here u i)

    go : (b c : ℕ) → x % 2 ≡ b → y % 2 ≡ c → 2 ^ suc i ≤ 4 * nat_abs z
    go zero zero p q = absurd (bits_differ (p ∙ sym q))
    go zero (suc zero) p q =
        omega (
          arith,
          e,
          parted,
          split 1 (omega (arith, p, q, shifted_half u i 0)),
          ap (λ (v : ℕ). M * v) (rounded_down p),
          power_step i (near u (suc i)),
          pow-succ' 2 i,
          mod-lt (2 ^ 1 * u) (pow_pos i),
          size z,
          one_side z,
        )
    go (suc zero) zero p q =
        omega (
          arith,
          e,
          parted,
          split 2 (omega (arith, p, q, shifted_half u i 0)),
          ap (λ (v : ℕ). M * v) (rounded_up p) ∙ mul-suc M a,
          power_step i (near u (suc i)),
          pow-succ' 2 i,
          mod-lt (2 ^ 1 * u) (pow_pos i),
          size z,
          one_side z,
        )
    go (suc zero) (suc zero) p q = absurd (bits_differ (p ∙ sym q))
    go (suc (suc b)) c p q = absurd (omega arith)
    go zero (suc (suc c)) p q = absurd (omega arith)
    go (suc zero) (suc (suc c)) p q = absurd (omega arith)

-- where W is taken and places are left, that is far beyond what is left there
wide_far : (m u i : ℕ) (z : ℤ) → 1 ≤ m → 1 ≤ suc i - width m → under u i 0 ≢ under u i 1 → Left u (suc i) z → 2 ^ (suc i - width m) * ((m + 1) / 2) ≤ nat_abs z
wide_far m u i z h l n e =
    omega (arith, left_far u i z n e, power, mul-le-mul_left M half_most)
  where
    w : WidthIs m
    w = width_is m h

    M : ℕ
    M = 2 ^ (suc i - width m)

    half_most : (m + 1) / 2 ≤ 2 ^ w.k
    half_most = omega (arith, w.past, pow-succ' 2 w.k)

    places : suc i ≡ (suc i - width m) + (2 + w.k)
    places = omega (arith, w.is)

    power : 2 ^ suc i ≡ 4 * (M * 2 ^ w.k)
    power = ap (λ (x : ℕ). 2 ^ x) places ∙ pow-add 2 (suc i - width m) (2 + w.k) ∙ ap (λ (x : ℕ). M * x) (pow-add 2 2 w.k) ∙ mul_left_comm M 4 (2 ^ w.k)

-- and where W − 1 is taken
narrow_far : (m u i : ℕ) (z : ℤ) → 1 ≤ m → 1 ≤ suc i - (width m - 1) → nat_abs (worth u i (width m)) % 2 ≡ 1 → m < nat_abs (worth u i (width m)) → Left u (suc i) z
    → 2 ^ (suc i - (width m - 1)) * ((m + 1) / 2) ≤ nat_abs z
narrow_far m u i z h l o g e = go (worth u i (width m)) wider far
  where
    w : WidthIs m
    w = width_is m h

    n : ℕ
    n = suc i

    q : ℕ
    q = n - width m

    M : ℕ
    M = 2 ^ q

    H : ℕ
    H = (m + 1) / 2

    N : ℕ
    N = near u n

    none : width m - n ≡ 0
    none = omega (arith, w.is)

    -- the wider window's value
    wide_value : up (worth u i (width m)) + 2 ^ width m * N ≡ down (worth u i (width m)) + near u q
    wide_value =
        subst (λ (v : ℕ). up (worth u i v) + 2 ^ v * N ≡ down (worth u i v) + near (2 ^ v * u) n) (sym w.is) (worth_near u i (suc w.k))
        ∙ ap (λ (x : ℕ). down (worth u i (width m)) + x) (near_down u n (width m) ∙ ap (λ (x : ℕ). 2 ^ x * near u q) none ∙ one-mul (near u q))

    power : M * (2 ^ width m * N) ≡ 2 ^ n * N
    power =
        sym (mul_assoc M (2 ^ width m) N)
        ∙ ap (λ (x : ℕ). x * N) (sym (pow-add 2 q (width m)) ∙ ap (λ (x : ℕ). 2 ^ x) (omega (arith, w.is)))

    wider : M * up (worth u i (width m)) + 2 ^ n * N ≡ M * down (worth u i (width m)) + M * near u q
    wider =
        omega (
          arith,
          ap (λ (x : ℕ). M * x) wide_value,
          mul-add M (up (worth u i (width m))) (2 ^ width m * N),
          mul-add M (down (worth u i (width m))) (near u q),
          power,
        )

    -- it is odd and beyond m
    far : M * (4 * H + 1) ≤ M * (2 * nat_abs (worth u i (width m)))
    far = mul-le-mul_left M (omega arith)

    top : 2 ^ (n - (width m - 1)) * H ≡ 2 * (M * H)
    top = ap (λ (x : ℕ). 2 ^ x * H) (places w.is) ∙ power_step q H
      where
        places : width m ≡ suc (suc w.k) → n - (width m - 1) ≡ suc q
        places is = omega arith

    go : (s : ℤ) → M * up s + 2 ^ n * N ≡ M * down s + M * near u q → M * (4 * H + 1) ≤ M * (2 * nat_abs s) → 2 ^ (n - (width m - 1)) * H ≤ nat_abs z
    go (pos a) v f =
        omega (
          arith,
          e,
          v,
          f,
          top,
          near_bound u q,
          mul-zero M,
          mul-add M (4 * H) 1,
          mul-one M,
          mul_left_comm M 4 H,
          mul_left_comm M 2 a,
          size z,
          one_side z,
        )
    go (negsuc a) v f =
        omega (
          arith,
          e,
          v,
          f,
          top,
          near_bound u q,
          mul-zero M,
          mul-add M (4 * H) 1,
          mul-one M,
          mul_left_comm M 4 H,
          mul_left_comm M 2 (suc a),
          size z,
          one_side z,
        )

-- digits above the n lowest places are a multiple of 2^n
above : (xs ys : List ℤ) → Congruent (2 ^ length xs) (value (xs ++ ys)) (value xs)
above xs ys = record { a = up (value ys); b = down (value ys); parts = omega (arith, value_append xs ys) }

-- a digit more than below is not beyond the digit more that 01's row has
far_turn : (m u i w : ℕ) (ds : List ℤ) → 1 ≤ m → under u i 0 ≢ under u i 1 → 1 ≤ w → DownRule m u (suc i - w) ds → weight ds ≤ weight (row m (value ds))
    → ((z : ℤ) → 1 ≤ suc i - w → Left u (suc i) z → 2 ^ (suc i - w) * ((m + 1) / 2) ≤ nat_abs z)
    → weight (ds ++ window u i w) ≤ weight (row m (value (ds ++ window u i w)))
far_turn m u i w ds h n s r ih far = go (suc i - w) refl
  where
    es : List ℤ
    es = window u i w

    x : ℤ
    x = value (ds ++ es)

    left : Left u (suc i) x
    left = turn_value u i w ds s (rule_length r) (rule_value h r)

    both : weight (ds ++ es) ≤ weight ds + 1
    both = omega (arith, weight_append ds es, window_weight u i w)

    some : x ≢ pos 0
    some e = omega (arith, left_far u i x n left, ap nat_abs e, pow_pos (suc i))

    go : (k : ℕ) → suc i - w ≡ k → weight (ds ++ es) ≤ weight (row m x)
    go zero e = omega (arith, both, heavy m h x some, weight_most ds, rule_length r)
    go (suc k) e =
        omega (
          arith,
          both,
          ih,
          cut m h (suc i - w) x (value ds) (subst (λ (j : ℕ). Congruent (2 ^ j) x (value ds)) (rule_length r) (above ds es))
              (left_near u (suc i - w) (value ds) (rule_value h r)) (far x (omega arith) left),
        )

rule_weight : {m u n : ℕ} {ds : List ℤ} → 1 ≤ m → DownRule m u n ds → weight ds ≤ weight (row m (value ds))
rule_weight h end = omega (arith, weight_most [])
rule_weight {m} {u} h (turn {i = i} {ds = ds} (equal e) r) =
    subst (λ (es : List ℤ). weight (ds ++ es) ≤ weight (row m (value (ds ++ es)))) (sym (window_equal u i e))
    (omega (arith, zero_weight ds, ap (λ (z : ℤ). weight (row m z)) (zero_value ds), rule_weight h r))
rule_weight {m} {u} h (turn {i = i} {ds = ds} (wide n l) r) =
    let t : TurnRule m u i (width m) = wide n l in
    far_turn m u i (width m) ds h n (turn_some h t) r (rule_weight h r) (λ z k v. wide_far m u i z h k n v)
rule_weight {m} {u} h (turn {i = i} {ds = ds} (narrow n o l) r) =
    let t : TurnRule m u i (width m - 1) = narrow n o l in
    far_turn m u i (width m - 1) ds h n (turn_some h t) r (rule_weight h r) (λ z k v. narrow_far m u i z h k o l v)

-- no more of them are not 0 than 01's row of their value has
pub places_weight : (m u n : ℕ) → 1 ≤ m → weight (places m u n) ≤ weight (row m (value (places m u n)))
places_weight m u n h = rule_weight h (places_meet m u n h)

-- One digit more at its place: the limb that changes, and the number that the limbs make. From the value of a list of limbs.
use mathlib.Core.Path.{◌≡◌, refl, sym, ap, subst, ◌∙◌}
use mathlib.Core.Bool.{Bool, true, false}
use mathlib.Core.List.{List, [], ◌∷◌}
use Prim.Native.Nat.{ℕ, zero, suc, ◌+◌, ◌-◌, ◌*◌, ◌/◌, ◌%◌, ◌^◌, ◌≤◌, ◌<◌}
use native.Mathlib.Nat.{mul-le-mul, pow-suc}
use native.Mathlib.Omega.{arith}
use lib.Dec.{eqb}
use lib.IntN.{ℤ, pos, ◌+ℤ◌, ◌*ℤ◌}
use lib.ListN.{length, get_or, set, length-set, length-replicate, get_or-replicate}
use lib.Pow.{pow-add, pow_mono, shl_exact}
use lib.Seq.{get_or-set_same, get_or-set_other}
use borrow.Author.Tests.{eqb-true, eqb-false}
use Rattle.digits.specs.Integer.{up, down}
use Rattle.digits.specs.Integer.Parts.{negation, sum, times}
use Rattle.lines.specs.Coded.{whole, number_of}
use Rattle.lines.specs.declared.point.Signed.{Signed}
use Rattle.survey.specs.Sum.{limb, start, unit, most, value, empty, Near, Roomy, Holds}

-- ── the limbs of 0 ──────────────────────────────────────────────────────────────────────────

empty_limb : (c i : ℕ) → i < c → get_or (empty c) i 0 ≡ start
unfolding empty
empty_limb c i h = get_or-replicate c i start 0 h

empty_long : (c : ℕ) → length (empty c) ≡ c
unfolding empty
empty_long c = length-replicate {A = ℕ} c start

-- ── a digit by its sign and its size ────────────────────────────────────────────────────────

pub sign_minus : (s : Signed) → s.negative ≡ true → (up (whole s) ≡ 0) × (down (whole s) ≡ s.size)
sign_minus s e =
    subst (λ (b : Bool). (up (number_of b s.size) ≡ 0) × (down (number_of b s.size) ≡ s.size)) (sym e)
    ((negation (pos s.size)).0, (negation (pos s.size)).1)

pub sign_plus : (s : Signed) → s.negative ≡ false → (up (whole s) ≡ s.size) × (down (whole s) ≡ 0)
sign_plus s e = subst (λ (b : Bool). (up (number_of b s.size) ≡ s.size) × (down (number_of b s.size) ≡ 0)) (sym e) (refl, refl)

-- ── a digit at its place ────────────────────────────────────────────────────────────────────

-- a limb replaced
value_set : (xs : List ℕ) (i y : ℕ) → i < length xs → value (set xs i y) + get_or xs i 0 * limb ^ i ≡ value xs + y * limb ^ i
unfolding value
value_set [] i y h = absurd (omega arith)
value_set (x ∷ xs) zero y h = omega arith
value_set (x ∷ xs) (suc i) y h =
    let e = ap (λ (n : ℕ). limb * n) (value_set xs i y (omega arith)) in
    let f : limb ^ suc i ≡ limb ^ i * limb = pow-suc limb i in
    omega (arith, e, ap (λ (n : ℕ). get_or xs i 0 * n) f, ap (λ (n : ℕ). y * n) f)

-- 2 to a place, by its limb
power_limb : (i : ℕ) → 2 ^ (16 * i) ≡ limb ^ i
power_limb zero = refl
power_limb (suc i) =
    let e : 16 * suc i ≡ 16 * i + 16 = omega arith in
    ap (λ (n : ℕ). 2 ^ n) e ∙ pow-add 2 (16 * i) 16 ∙ omega (arith, power_limb i, pow-suc limb i)

power : (n : ℕ) → 2 ^ n ≡ 2 ^ (n % 16) * limb ^ (n / 16)
power n =
    let e : n ≡ n % 16 + 16 * (n / 16) = omega arith in
    ap (λ (k : ℕ). 2 ^ k) e ∙ pow-add 2 (n % 16) (16 * (n / 16)) ∙ ap (λ (k : ℕ). 2 ^ (n % 16) * k) (power_limb (n / 16))

-- the digit in its limb
pub units_most : (d k : ℕ) → d < 4294967296 → d * 2 ^ (k % 16) ≤ unit
units_most d k h = mul-le-mul {n₁ = d} {m₁ = 2 ^ (k % 16)} {n₂ = 4294967296} {m₂ = 2 ^ 15} (omega arith) (pow_mono {i = k % 16} {j = 15} (omega arith))

module _ {count n : ℕ} {xs : List ℕ} (c : Near count n xs) (i y : ℕ) (h : i < count) where
  -- the limb moves by a unit at most
  near_set : y ≤ get_or xs i 0 + unit → get_or xs i 0 ≤ y + unit → Near count (suc n) (set xs i y)
  near_set above below =
      record {
        long = length-set xs i y ∙ c.long;
        least = λ k l. go_least k l (eqb k i) refl;
        high = λ k l. go_high k l (eqb k i) refl;
      }
    where
      here : (k : ℕ) → eqb k i ≡ true → get_or (set xs i y) k 0 ≡ y
      here k e = ap (λ (m : ℕ). get_or (set xs i y) m 0) (eqb-true k i e) ∙ get_or-set_same xs i y 0 (omega (arith, c.long))

      go_least : (k : ℕ) → k < count → (t : Bool) → eqb k i ≡ t → start ≤ get_or (set xs i y) k 0 + suc n * unit
      go_least k l true e = omega (arith, here k e, c.least i h, below)
      go_least k l false e = omega (arith, get_or-set_other xs i k y 0 (eqb-false k i e), c.least k l)

      go_high : (k : ℕ) → k < count → (t : Bool) → eqb k i ≡ t → get_or (set xs i y) k 0 ≤ start + suc n * unit
      go_high k l true e = omega (arith, here k e, c.high i h, above)
      go_high k l false e = omega (arith, get_or-set_other xs i k y 0 (eqb-false k i e), c.high k l)

-- the machine's shift loses no bit
pub units_are : (d k : ℕ) → d < 4294967296 → (d * 2 ^ (k % 16)) % 18446744073709551616 ≡ d * 2 ^ (k % 16)
units_are d k h = shl_exact {a = d} 32 (k % 16) 64 h (omega arith)

-- a digit d at the place k
module _ {count n : ℕ} {xs : List ℕ} {z : ℤ} (c : Holds count n xs z) (k : ℕ) (d : Signed) (low : k < 16 * length xs) (small : d.size < 4294967296) where
  abbrev units : ℕ
  units = d.size * 2 ^ (k % 16)

  -- at its place it counts for 2^k
  counts : units * limb ^ (k / 16) ≡ d.size * 2 ^ k
  counts = omega (arith, ap (λ (m : ℕ). d.size * m) (power k))

  next_number : (up (z +ℤ pos (2 ^ k) *ℤ whole d) + (down z + 2 ^ k * down (whole d)) ≡ up z + 2 ^ k * up (whole d) + down (z +ℤ pos (2 ^ k) *ℤ whole d))
  next_number = omega (arith, sum z (pos (2 ^ k) *ℤ whole d), times (2 ^ k) (whole d))

  inside : k / 16 < count
  inside = omega (arith, c.near.long)

  changed : (y : ℕ) → value (set xs (k / 16) y) + get_or xs (k / 16) 0 * limb ^ (k / 16) ≡ value xs + y * limb ^ (k / 16)
  changed y = value_set xs (k / 16) y (omega (arith, c.near.long))

  pub digit_plus : d.negative ≡ false → Holds count (suc n) (set xs (k / 16) (get_or xs (k / 16) 0 + units)) (z +ℤ pos (2 ^ k) *ℤ whole d)
  digit_plus e =
      let y = get_or xs (k / 16) 0 + units in
      let s = sign_plus d e in
      record {
        near = near_set c.near (k / 16) y inside (omega (arith, units_most d.size k small)) (omega arith);
        is = omega (arith, c.is, changed y, counts, next_number, ap (λ (m : ℕ). 2 ^ k * m) s.0, ap (λ (m : ℕ). 2 ^ k * m) s.1);
      }

  pub digit_minus : d.negative ≡ true → units ≤ get_or xs (k / 16) 0 → Holds count (suc n) (set xs (k / 16) (get_or xs (k / 16) 0 - units)) (z +ℤ pos (2 ^ k) *ℤ whole d)
  digit_minus e l =
      let y = get_or xs (k / 16) 0 - units in
      let s = sign_minus d e in
      let back : y * limb ^ (k / 16) + units * limb ^ (k / 16) ≡ get_or xs (k / 16) 0 * limb ^ (k / 16) =
      let whole : y + units ≡ get_or xs (k / 16) 0 = omega arith in omega (arith, ap (λ (m : ℕ). m * limb ^ (k / 16)) whole) in
      record {
        near = near_set c.near (k / 16) y inside (omega arith) (omega (arith, units_most d.size k small));
        is = omega (arith, c.is, changed y, counts, next_number, back, ap (λ (m : ℕ). 2 ^ k * m) s.0, ap (λ (m : ℕ). 2 ^ k * m) s.1);
      }

-- ── the limbs of 0, and bounds that are wider ───────────────────────────────────────────────

pub near_later : {count n m : ℕ} {xs : List ℕ} → Near count n xs → n ≤ m → Near count m xs
near_later c h =
    record {
      long = c.long;
      least = λ i l. omega (arith, c.least i l);
      high = λ i l. omega (arith, c.high i l);
    }

pub holds_later : {count n m : ℕ} {xs : List ℕ} {z : ℤ} → Holds count n xs z → n ≤ m → Holds count m xs z
holds_later c h = record { near = near_later c.near h; is = c.is }

pub holds_none : {c : ℕ} {xs : List ℕ} → xs ≡ empty c → Holds c 0 xs (pos 0)
holds_none {c} {xs} e =
    record {
      near = record { long = ap length e ∙ empty_long c; least = λ i l. omega (arith, at i l); high = λ i l. omega (arith, at i l) };
      is = omega (arith, ap value e);
    }
  where
    at : (i : ℕ) → i < c → get_or xs i 0 ≡ start
    at i l = ap (λ (ys : List ℕ). get_or ys i 0) e ∙ empty_limb c i l

-- so many digits leave room for one more
pub roomy : {count n : ℕ} {xs : List ℕ} → Near count n xs → n ≤ most → Roomy xs
roomy {xs = xs} c h = subst (λ (m : ℕ). Near m most xs) (sym c.long) (near_later c h)

-- the limbs by another name of their number
pub holds_as : {count other n : ℕ} {xs : List ℕ} {z : ℤ} → count ≡ other → Holds count n xs z → Holds other n xs z
holds_as {n = n} {xs} {z} e c = subst (λ (m : ℕ). Holds m n xs z) e c

-- Numbers in limbs: a scalar by its last figures, and the turns of the comparison. From the value of a list of limbs.
use mathlib.Core.Path.{◌≡◌, refl, sym, ap, ◌∙◌}
use mathlib.Core.Logic.{◌≢◌}
use mathlib.Core.Bool.{Bool, true, false, and-eq-true_iff}
use mathlib.Core.List.{List, [], ◌∷◌, ◌++◌}
use Prim.Native.Nat.{ℕ, zero, suc, ◌+◌, ◌*◌, ◌/◌, ◌%◌, ◌≤◌, ◌<◌}
use native.Mathlib.Omega.{arith}
use lib.Dec.{eqb, ltb}
use lib.ListN.{length, get_or, take, drop, drop_of_length-le}
use lib.Seq.{drop-cons, take-suc, take-length}
use borrow.Author.Tests.{eq-eqb, ne_eqb, eqb-true, eqb-false, ltb-true}
use lib.IntN.{ℤ, pos, negsuc}
use Rattle.digits.specs.Integer.{signed_by}
use Rattle.sheet.specs.Numeral.{worth, figures, followed}
use Rattle.sheet.specs.Questions.{same_number}
use Rattle.survey.specs.Sum.{limb, value, Holds}
use Rattle.reader.specs.Scalar.{before}

-- ── a scalar ────────────────────────────────────────────────────────────────────────────────

followed_last : (n : ℕ) (s : List ℕ) (c : ℕ) → followed 16 n (s ++ (c ∷ [])) ≡ followed 16 n s * 16 + worth c
unfolding followed
followed_last n [] c = refl
followed_last n (x ∷ s) c = followed_last (n * 16 + worth x) s c

-- no figure before the first place
pub before_none : (s : List ℕ) → before s 0 ≡ 0
unfolding followed
before_none s = refl

-- one figure
pub before_last : (s : List ℕ) (i : ℕ) → i < length s → before s (suc i) ≡ 16 * before s i + worth (get_or s i 0)
before_last s i h = ap (followed 16 0) (take-suc s i 0 h) ∙ followed_last 0 (take i s) (get_or s i 0) ∙ omega arith

pub before_all : (s : List ℕ) → before s (length s) ≡ followed 16 0 s
before_all s = ap (followed 16 0) (take-length s)

pub figure_small : (s : List ℕ) (i : ℕ) → figures 16 s ≡ true → i < length s → worth (get_or s i 0) < 16
unfolding figures
figure_small [] i e h = absurd (omega arith)
figure_small (c ∷ s) zero e h = ltb-true (worth c) 16 ((and-eq-true_iff (ltb (worth c) 16) (figures 16 s)).0 e).0
figure_small (c ∷ s) (suc i) e h = figure_small s i ((and-eq-true_iff (ltb (worth c) 16) (figures 16 s)).0 e).1 (omega arith)

-- ── the comparison ──────────────────────────────────────────────────────────────────────────

-- two tests that hold together are the same
pub same_test : (a b c d : ℕ) → (a ≡ b → c ≡ d) → (c ≡ d → a ≡ b) → eqb a b ≡ eqb c d
same_test a b c d f g = go (eqb c d) refl
  where
    go : (t : Bool) → eqb c d ≡ t → eqb a b ≡ t
    go true e = eq-eqb a b (g (eqb-true c d e))
    go false e = ne_eqb a b (λ h. eqb-false c d e (f h))

-- the figures from here on count x, which is limb * rest + l; the sums go on with a and b, and behind them with xs and ys
module _ (x rest l : ℕ) (e : x ≡ limb * rest + l) (xs ys : List ℕ) (i left right a b : ℕ) (h : i < length xs) (k : i < length ys) (p : a ≡ get_or xs i 0) (q : b ≡ get_or ys i 0) where
  pub sum_turn : (j : ℕ) → j ≡ i + 1 → (l + a + left) % limb ≡ (b + right) % limb
      → eqb (rest + value (drop j xs) + (l + a + left) / limb) (value (drop j ys) + (b + right) / limb)
      ≡ eqb (x + value (drop i xs) + left) (value (drop i ys) + right)
  unfolding value
  sum_turn j n s =
      rw (n, native.Mathlib.Numerals.add-one, drop-cons xs i 0 h, drop-cons ys i 0 k, ← p, ← q)
      (same_test (rest + value (drop (suc i) xs) + (l + a + left) / limb) (value (drop (suc i) ys) + (b + right) / limb)
      (x + (a + limb * value (drop (suc i) xs)) + left) (b + limb * value (drop (suc i) ys) + right)
      (λ t. omega arith) (λ t. omega arith))

  pub sum_stop : (l + a + left) % limb ≢ (b + right) % limb → false ≡ eqb (x + value (drop i xs) + left) (value (drop i ys) + right)
  unfolding value
  sum_stop s =
      rw (drop-cons xs i 0 h, drop-cons ys i 0 k, ← p, ← q)
      (sym (ne_eqb (x + (a + limb * value (drop (suc i) xs)) + left) (b + limb * value (drop (suc i) ys) + right) (λ t. s (omega arith))))

pub sum_end : (x : ℕ) (xs ys : List ℕ) (i left right : ℕ) → x ≡ 0 → length xs ≤ i → length ys ≤ i
    → eqb left right ≡ eqb (x + value (drop i xs) + left) (value (drop i ys) + right)
unfolding value
sum_end x xs ys i left right e h k =
    rw (drop_of_length-le xs h, drop_of_length-le ys k)
    (same_test left right (x + 0 + left) (0 + right) (λ q. omega arith) (λ q. omega arith))

pub sum_start : (x y z : ℕ) → eqb (x + y + 0) (z + 0) ≡ eqb (x + y) z
sum_start x y z = same_test (x + y + 0) (z + 0) (x + y) z (λ q. omega arith) (λ q. omega arith)

-- the sum xs against a sign and a size k: with a plus, k and the empty sum ys come to it; with a minus, k and it come to ys
module _ {c m n : ℕ} (xs ys : List ℕ) (none : Holds c m ys (pos 0)) where
  pub is_plus : (sign k : ℕ) (z : ℤ) → sign ≡ 0 → Holds c n xs z → eqb (k + value ys) (value xs) ≡ same_number z (signed_by sign (pos k))
  is_plus zero k (pos a) e i = same_test (k + value ys) (value xs) a k (λ q. omega (arith, none.is, i.is)) (λ q. omega (arith, none.is, i.is))
  is_plus zero k (negsuc a) e i = ne_eqb (k + value ys) (value xs) (λ q. omega (arith, none.is, i.is))
  is_plus (suc s) k z e i = absurd (omega arith)

  pub is_minus : (sign k : ℕ) (z : ℤ) → sign ≢ 0 → Holds c n xs z → eqb (k + value xs) (value ys) ≡ same_number z (signed_by sign (pos k))
  is_minus zero k z e i = absurd (e refl)
  is_minus (suc s) zero (pos a) e i = same_test (0 + value xs) (value ys) a 0 (λ q. omega (arith, none.is, i.is)) (λ q. omega (arith, none.is, i.is))
  is_minus (suc s) zero (negsuc a) e i = ne_eqb (0 + value xs) (value ys) (λ q. omega (arith, none.is, i.is))
  is_minus (suc s) (suc k) (pos a) e i = ne_eqb (suc k + value xs) (value ys) (λ q. omega (arith, none.is, i.is))
  is_minus (suc s) (suc k) (negsuc a) e i =
      same_test (suc k + value xs) (value ys) a k (λ q. omega (arith, none.is, i.is)) (λ q. omega (arith, none.is, i.is))

-- The figures of a field and the number that they come to. From the definitions of Numeral.
use mathlib.Core.Path.{◌≡◌, refl}
use mathlib.Core.Bool.{Bool, true, false, cond, not, ◌&&◌, and-eq-true_iff}
use mathlib.Core.List.{List, [], ◌∷◌}
use mathlib.Core.Option.{none, some}
use Prim.Native.Nat.{ℕ, zero, suc, ◌+◌, ◌*◌, ◌^◌, ◌≤◌, ◌<◌}
use native.Mathlib.Nat.{pow-suc, mul-le-mul_right}
use native.Mathlib.Numerals.{add-one}
use native.Mathlib.Omega.{arith}
use lib.Dec.{leb, ltb}
use lib.ListN.{length, get_or, drop, drop_of_length-le}
use lib.Seq.{drop-cons}
use borrow.Author.Tests.{lt-ltb, le-ltb, ltb-true, leb-true, not-true}
use Rattle.std.specs.Bool.{MatchBool}
use Rattle.std.specs.List.{AllWithin, HoldsAt}
use Rattle.sheet.specs.Numeral.{worth, padded, figures, followed, number}
use Rattle.sheet.specs.Spelling.Field.{is_numeral}

module _ (base : ℕ) (s : List ℕ) (i : ℕ) (h : i < length s) where
  -- a figure stands at i
  pub figure_at : figures base (drop i s) ≡ true → (worth (get_or s i 0) < base) × (figures base (drop (i + 1) s) ≡ true)
  unfolding figures
  figure_at e =
      let (first, others) = (and-eq-true_iff (ltb (worth (get_or s i 0)) base) (figures base (drop (suc i) s))).0 (rw (drop-cons s i 0 h) at e) in
      (ltb-true (worth (get_or s i 0)) base first, rw add-one others)

  pub followed_turn : (v : ℕ) → followed base (v * base + worth (get_or s i 0)) (drop (i + 1) s) ≡ followed base v (drop i s)
  unfolding followed
  followed_turn v = rw (add-one, drop-cons s i 0 h)

-- whether every byte is a figure, by a test that stops at one that is none
pub figures_all : (base : ℕ) (s : List ℕ) (b : Bool) → MatchBool b (AllWithin (λ c. worth c < base) s 0 (length s)) ((k : ℕ) × (k < length s) × HoldsAt (λ c. base ≤ worth c) s k) → b ≡ figures base s
unfolding figures
figures_all base [] true p = refl
figures_all base [] false (k, h, p) = absurd (omega arith)
figures_all base (c ∷ s) true p =
    rw (lt-ltb (worth c) base (p 0 0 (omega arith) (omega arith))) (figures_all base s true (λ k d l h. p (suc k) d (omega arith) (omega arith)))
figures_all base (c ∷ s) false (zero, h, p) = rw (le-ltb (worth c) base (p 0))
figures_all base (c ∷ s) false (suc k, h, p) = go (ltb (worth c) base) (figures_all base s false (k, omega arith, p))
  where
    go : (t : Bool) → false ≡ figures base s → false ≡ (t && figures base s)
    go true e = e
    go false e = refl

pub followed_end : (base v : ℕ) (s : List ℕ) (i : ℕ) → length s ≤ i → v ≡ followed base v (drop i s)
unfolding followed
followed_end base v s i h = rw (drop_of_length-le s h)

-- one figure more is one power more
pub power_turn : (base v w i : ℕ) → v < base ^ i → w < base → v * base + w < base ^ (i + 1)
power_turn base v w i p q = rw (add-one, pow-suc base i) (omega (arith, mul-le-mul_right {m = suc v} {n = base ^ i} base p))

pub numeral_value : (base most : ℕ) (s : List ℕ) (b : Bool) → is_numeral base most s ≡ b → number base most s ≡ cond b (some (followed base 0 s)) none
unfolding number
numeral_value base most s b e = rw e

-- what a numeral is
pub record Numeral (base most : ℕ) (s : List ℕ) : Type 0 where
  pub some_figures : 1 ≤ length s
  pub few : length s ≤ most
  pub unpadded : padded s ≡ false
  pub all : figures base s ≡ true

module _ (base most : ℕ) (s : List ℕ) where
  -- a numeral meets them all
  pub numeral_parts : is_numeral base most s ≡ true → Numeral base most s
  numeral_parts e =
      let (abc, d) = (and-eq-true_iff (leb 1 (length s) && leb (length s) most && not (padded s)) (figures base s)).0 e in
      let (ab, c) = (and-eq-true_iff (leb 1 (length s) && leb (length s) most) (not (padded s))).0 abc in
      let (a, b) = (and-eq-true_iff (leb 1 (length s)) (leb (length s) most)).0 ab in
      record { some_figures = leb-true 1 (length s) a; few = leb-true (length s) most b; unpadded = not-true (padded s) c; all = d }

-- Two figures make a byte: the scalar of the bytes is the number that the figures spell.
use mathlib.Core.Path.{◌≡◌, refl, ap, ◌∙◌}
use mathlib.Core.Bool.{true}
use mathlib.Core.List.{List, [], ◌∷◌, ◌++◌, reverse-append}
use Prim.Native.Nat.{ℕ, zero, suc, ◌+◌, ◌-◌, ◌*◌, ◌≤◌, ◌<◌}
use native.Mathlib.Numerals.{add-one}
use native.Mathlib.Omega.{arith}
use lib.Dec.{ltb}
use lib.ListN.{length, get_or, set, take, replicate, length-set, length-append, length-replicate}
use lib.Seq.{take-suc, take-suc-set, take_all}
use borrow.Author.Tests.{ltb-true}
use Rattle.digits.specs.Scalar.Sized.{both}
use Rattle.digits.specs.Scalar.{Bytes, scalar, little}
use Rattle.sheet.specs.Numeral.{worth, figures, followed}

followed_append : (base n : ℕ) (s t : List ℕ) → followed base n (s ++ t) ≡ followed base (followed base n s) t
unfolding followed
followed_append base n [] t = refl
followed_append base n (c ∷ s) t = followed_append base (n * base + worth c) s t

followed_one : (base n c : ℕ) → followed base n (c ∷ []) ≡ n * base + worth c
unfolding followed
followed_one base n c = refl

-- one figure more
pub more_figures : (s : List ℕ) (i : ℕ) → i < length s → followed 16 0 (take (suc i) s) ≡ 16 * followed 16 0 (take i s) + worth (get_or s i 48)
more_figures s i h =
    ap (followed 16 0) (take-suc s i 48 h) ∙ followed_append 16 0 (take i s) (get_or s i 48 ∷ []) ∙ followed_one 16 (followed 16 0 (take i s)) (get_or s i 48)
    ∙ omega arith

-- zeros in front change nothing
pub padded_figures : (pad : ℕ) (s : List ℕ) → followed 16 0 (replicate pad 48 ++ s) ≡ followed 16 0 s
unfolding followed
padded_figures zero s = refl
padded_figures (suc pad) s = padded_figures pad s

scalar_more : (s : List ℕ) (b : ℕ) → scalar (s ++ (b ∷ [])) ≡ b + 256 * scalar s
unfolding scalar little
scalar_more s b = ap little (reverse-append s (b ∷ []))

bytes_set : (s : List ℕ) (i b : ℕ) → b < 256 → Bytes s → Bytes (set s i b)
bytes_set [] i b h f j = f j
bytes_set (x ∷ s) zero b h f zero = h
bytes_set (x ∷ s) zero b h f (suc j) = f (suc j)
bytes_set (x ∷ s) (suc i) b h f zero = f zero
bytes_set (x ∷ s) (suc i) b h f (suc j) = bytes_set s i b h (λ k. f (suc k)) j

pub zeros : (n : ℕ) → Bytes (replicate n 0)
zeros zero j = omega arith
zeros (suc n) zero = omega arith
zeros (suc n) (suc j) = zeros n j

-- what stands after i bytes
pub record Made (s bytes : List ℕ) (i : ℕ) : Type 0 where
  pub long : length bytes ≡ 66
  pub are_bytes : Bytes bytes
  pub number : scalar (take i bytes) ≡ followed 16 0 (take (2 * i) s)

pub made_none : (s bytes : List ℕ) → length bytes ≡ 66 → Bytes bytes → Made s bytes 0
unfolding scalar little followed
made_none s bytes h are = record { long = h; are_bytes = are; number = refl }

pub made_more : (s bytes : List ℕ) (i a b : ℕ) → i < 66 → 2 * i + 1 < length s → a ≡ worth (get_or s (2 * i) 48) → b ≡ worth (get_or s (2 * i + 1) 48) → 16 * a + b < 256
    → Made s bytes i → Made s (set bytes i (16 * a + b)) (i + 1)
made_more s bytes i a b h l e f w m =
    record {
      long = length-set bytes i (16 * a + b) ∙ m.long;
      are_bytes = bytes_set bytes i (16 * a + b) w m.are_bytes;
      number =
          ap (λ (n : ℕ). scalar (take n (set bytes i (16 * a + b)))) (add-one i)
          ∙ ap scalar (take-suc-set bytes i (16 * a + b) (omega (arith, m.long)))
          ∙ scalar_more (take i bytes) (16 * a + b)
          ∙ numbers;
    }
  where
    next : followed 16 0 (take (2 * (i + 1)) s) ≡ 16 * (16 * followed 16 0 (take (2 * i) s) + worth (get_or s (2 * i) 48)) + worth (get_or s (2 * i + 1) 48)
    next =
        let u : 2 * (i + 1) ≡ suc (2 * i + 1) = omega arith in
        let v : 2 * i + 1 ≡ suc (2 * i) = omega arith in
        ap (λ (n : ℕ). followed 16 0 (take n s)) u ∙ more_figures s (2 * i + 1) l
        ∙ ap (λ (n : ℕ). 16 * n + worth (get_or s (2 * i + 1) 48)) (ap (λ (n : ℕ). followed 16 0 (take n s)) v ∙ more_figures s (2 * i) (omega arith))

    numbers : 16 * a + b + 256 * scalar (take i bytes) ≡ followed 16 0 (take (2 * (i + 1)) s)
    numbers = omega (arith, next, m.number, e, f)

pub made_all : (s bytes : List ℕ) (i : ℕ) → length s ≤ 2 * i → Made s bytes i → scalar (take i bytes) ≡ followed 16 0 s
made_all s bytes i h m = m.number ∙ ap (followed 16 0) (take_all (2 * i) s h)

-- ── figures behind zeros ────────────────────────────────────────────────────────────────────

pub own_figure : (pad at : ℕ) (s : List ℕ) → pad ≤ at → get_or (replicate pad 48 ++ s) at 48 ≡ get_or s (at - pad) 48
own_figure zero at s h = let e : at ≡ at - 0 = omega arith in ap (λ (i : ℕ). get_or s i 48) e
own_figure (suc pad) zero s h = absurd (omega arith)
own_figure (suc pad) (suc at) s h = let e : at - pad ≡ suc at - suc pad = omega arith in own_figure pad at s (omega arith) ∙ ap (λ (i : ℕ). get_or s i 48) e

pub figure_below : (s : List ℕ) (i : ℕ) → figures 16 s ≡ true → i < length s → worth (get_or s i 0) < 16
unfolding figures
figure_below [] i e h = absurd (omega arith)
figure_below (c ∷ s) zero e h = ltb-true (worth c) 16 (both (ltb (worth c) 16) (figures 16 s) e).0
figure_below (c ∷ s) (suc i) e h = figure_below s i (both (ltb (worth c) 16) (figures 16 s) e).1 (omega arith)

pub padded_length : (pad : ℕ) (s : List ℕ) → length (replicate pad 48 ++ s) ≡ pad + length s
padded_length pad s = length-append (replicate pad 48) s ∙ ap (λ (n : ℕ). n + length s) (length-replicate pad 48)

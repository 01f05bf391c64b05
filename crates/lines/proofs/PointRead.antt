-- What the parsers of digits and points answer, from the tests and the fields that they read.
use mathlib.Core.Path.{◌≡◌, refl, ap, ◌∙◌}
use mathlib.Core.Logic.{◌≢◌, ◌⊎◌, inl, inr}
use mathlib.Core.Bool.{Bool, true, false, cond, ◌&&◌, and-false}
use mathlib.Core.List.{List, [], ◌∷◌}
use mathlib.Core.Option.{Option, none, some}
use Prim.Native.Nat.{ℕ, zero, suc, ◌+◌, ◌*◌, ◌≤◌, ◌<◌}
use native.Mathlib.Omega.{arith}
use lib.Dec.{eqb}
use lib.IntN.{ℤ}
use lib.ListN.{get_or, drop}
use borrow.Author.Tests.{ne_eqb, lt-ltb}
use Rattle.sheet.specs.Numeral.{worth, figures, followed, number}
use Rattle.sheet.specs.Plan.{point}
use Rattle.sheet.specs.Spelling.{◌>>=◌, minus, plain, negative, read_digit, read_point}
use Rattle.sheet.specs.Spelling.Field.{sign_of, unsigned, decimal_of}
use Rattle.std.specs.Option.{option_and_then}
use Rattle.std.specs.declared.option.Option as declared
use Rattle.std.specs.declared.option.Option.TheVariants.{Some, None}
use Rattle.lines.specs.Coded.{coded_digit, coded_pair}
use Rattle.lines.specs.declared.point.Signed.{Signed}
use Rattle.lines.specs.declared.point.Point as point_type

-- ── one or two figures ──────────────────────────────────────────────────────────────────────

module _ (c : ℕ) where
  pub one_is : worth c < 10 → number 10 2 (c ∷ []) ≡ some (worth c)
  unfolding number figures followed
  one_is h = rw (lt-ltb (worth c) 10 h) (ap some (omega arith))

  module _ (d : ℕ) where
    pub two_are : c ≢ 48 → worth c ≤ 9 → worth d ≤ 9 → number 10 2 (c ∷ d ∷ []) ≡ some (10 * worth c + worth d)
    unfolding number figures followed
    two_are n f h = rw (ne_eqb c 48 n, lt-ltb (worth c) 10 (omega arith), lt-ltb (worth d) 10 (omega arith)) (ap some (omega arith))

-- ── digits and points ───────────────────────────────────────────────────────────────────────

-- by the sign of a field and the size that stands behind it
by_sign : (s : List ℕ) → cond (eqb (sign_of s) 1) (negative (number 10 2 (unsigned s))) (plain (number 10 2 (unsigned s))) ≡ read_digit s
unfolding number
by_sign [] = refl
by_sign (c ∷ s) = go (eqb c minus)
  where
    go : (b : Bool) → cond (eqb (cond b 1 0) 1) (negative (number 10 2 (drop (cond b 1 0) (c ∷ s)))) (plain (number 10 2 (drop (cond b 1 0) (c ∷ s))))
        ≡ cond b (negative (number 10 2 s)) (plain (number 10 2 (c ∷ s)))
    go true = refl
    go false = refl

-- the digit of a sign and a decimal behind it
abbrev signed_of : Bool → declared.Option ℕ → declared.Option Signed
signed_of negative None = None
signed_of negative (Some n) = cond (negative && eqb n 0) None (Some (record { negative = negative; size = n }))

signed_is : (b : Bool) (o : Option ℕ) → signed_of b (decimal_of o) ≡ coded_digit (cond b (negative o) (plain o))
signed_is true none = refl
signed_is true (some zero) = refl
signed_is true (some (suc n)) = rw (ne_eqb (suc n) 0 (omega arith))
signed_is false none = refl
signed_is false (some n) = refl

pub digit_is : (s : List ℕ) {d : declared.Option ℕ} → d ≡ decimal_of (number 10 2 (unsigned s)) → signed_of (eqb (sign_of s) 1) d ≡ coded_digit (read_digit s)
digit_is s e =
    ap (signed_of (eqb (sign_of s) 1)) e ∙ signed_is (eqb (sign_of s) 1) (number 10 2 (unsigned s)) ∙ ap coded_digit (by_sign s)

-- a minus stands before no 0
pub digit_some : (s : List ℕ) {n : ℕ} → Some n ≡ decimal_of (number 10 2 (unsigned s)) → ((sign_of s ≡ 1) × (n ≢ 0)) ⊎ (sign_of s ≢ 1)
    → Some (record { negative = eqb (sign_of s) 1; size = n }) ≡ coded_digit (read_digit s)
digit_some s {n} e h = go (eqb (sign_of s) 1) (allowed h) ∙ digit_is s e
  where
    allowed : ((sign_of s ≡ 1) × (n ≢ 0)) ⊎ (sign_of s ≢ 1) → (eqb (sign_of s) 1 && eqb n 0) ≡ false
    allowed (inl (i, h)) = rw (ne_eqb n 0 h) (and-false (eqb (sign_of s) 1))
    allowed (inr h) = rw (ne_eqb (sign_of s) 1 h)

    go : (b : Bool) → (b && eqb n 0) ≡ false → Some (record { negative = b; size = n }) ≡ signed_of b (Some n)
    go b z = rw z

-- the point of two digits
abbrev point_as : declared.Option Signed → declared.Option Signed → declared.Option point_type.Point
point_as a b = option_and_then (λ p. option_and_then (λ q. Some (record { p = p; q = q })) b) a

pub point_is : (fs : List (List ℕ)) {a b : declared.Option Signed} → a ≡ coded_digit (read_digit (get_or fs 1 [])) → b ≡ coded_digit (read_digit (get_or fs 2 []))
    → point_as a b ≡ coded_pair (read_point fs)
unfolding read_point
point_is fs d e = rw (d, e) (go (read_digit (get_or fs 1 [])) (read_digit (get_or fs 2 [])))
  where
    go : (y z : Option ℤ) → point_as (coded_digit y) (coded_digit z) ≡ coded_pair (y >>= (λ a. z >>= (λ b. some (point a b))))
    go none z = refl
    go (some y) none = refl
    go (some y) (some z) = refl

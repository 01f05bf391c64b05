-- A number that is read in at most so many figures of a base is below that power of the base. Assumes nothing.
use Rattle.std.specs.Prelude.{◌≡◌, refl, Bool, true, false, ◌&&◌, cond, ltb}
use Rattle.std.proofs.Common.{sym, ◌∙◌, lt_of_lt_of_le, mul-le-mul_right, arith}
use Rattle.std.proofs.Math.Path.{ap, subst}
use Rattle.std.proofs.Math.Bool.{not}
use mathlib.Core.List.{List, [], ◌∷◌}
use Rattle.std.proofs.Math.Option.{none, some}
use Prim.Native.Nat.{ℕ, suc, ◌+◌, ◌*◌, ◌^◌, ◌≤◌, ◌<◌}
use Rattle.std.proofs.Math.Nat.{mul_assoc, mul-one, suc-mul, pow-succ', pow-zero, pow-le-pow_right}
use Rattle.std.proofs.Math.Dec.{leb}
use Rattle.std.proofs.Math.ListN.{length}
use borrow.Author.Tests.{ltb-true, leb-true}
use Rattle.digits.specs.Scalar.Sized.{both}
use Rattle.sheet.specs.Numeral.{worth, figures, padded, followed, number}

module _ (base : ℕ) where
  followed_below : (n : ℕ) (s : List ℕ) → figures base s ≡ true → followed base n s < suc n * base ^ length s
  unfolding followed figures
  followed_below n [] e = let one : suc n * base ^ 0 ≡ suc n = ap (λ (x : ℕ). suc n * x) (pow-zero base) ∙ mul-one (suc n) in rw one (omega arith)
  followed_below n (c ∷ s) e =
      let (a, b) = both (ltb (worth c) base) (figures base s) e in
      let step : suc (n * base + worth c) ≤ suc n * base = omega (arith, ltb-true (worth c) base a, suc-mul n base) in
      let same : suc n * base * base ^ length s ≡ suc n * base ^ suc (length s) = mul_assoc (suc n) base (base ^ length s) ∙ ap (λ (x : ℕ). suc n * x) (sym (pow-succ' base (length s))) in
      subst (λ (x : ℕ). followed base (n * base + worth c) s < x) same
      (lt_of_lt_of_le (followed_below (n * base + worth c) s b) (mul-le-mul_right (base ^ length s) step))

  -- what was read is what the figures come to
  read_as : (t : Bool) (m n : ℕ) → cond t (some m) none ≡ some n → (t ≡ true) × (m ≡ n)
  read_as true m n e = (refl, cc)
  read_as false m n e = let z : ◌≡◌ {A = ℕ} 0 1 = cc in absurd (omega arith)

  pub number_below : (most n : ℕ) (s : List ℕ) → 0 < base → number base most s ≡ some n → n < base ^ most
  unfolding number
  number_below most n s h e =
      let (tests, v) = read_as (leb 1 (length s) && leb (length s) most && not (padded s) && figures base s) (followed base 0 s) n e in
      let (abc, d) = both (leb 1 (length s) && leb (length s) most && not (padded s)) (figures base s) tests in
      let (ab, c) = both (leb 1 (length s) && leb (length s) most) (not (padded s)) abc in
      let (a, b) = both (leb 1 (length s)) (leb (length s) most) ab in
      subst (λ (x : ℕ). x < base ^ most) v
      (lt_of_lt_of_le (followed_below 0 s d) (omega (arith, pow-le-pow_right {n = base} h {i = length s} {j = most} (leb-true (length s) most b))))

-- The lowest of numbers up to a place, and the turns of the loop that finds the first place at which it falls.
use mathlib.Core.Path.{◌≡◌, refl, sym, ap, ◌∙◌}
use mathlib.Core.Bool.{Bool, true, false}
use mathlib.Core.List.{List}
use Prim.Native.Nat.{ℕ, zero, suc, ◌+◌, ◌-◌, ◌≤◌, ◌<◌, min}
use native.Mathlib.Decide.{dec_lt}
use native.Mathlib.Omega.{arith}
use borrow.Author.Tests.{leb-true, leb-false}
use lib.Dec.{leb}
use lib.ListN.{get_or}
use Rattle.std.specs.declared.option.Option.TheVariants.{None}
use Rattle.chooser.specs.Body.BySlots.{lowest}
use Rattle.chooser.specs.Next.{paying, Next, pays, none}

module _ (t : List ℕ) where
  -- it is one of the numbers, and no more than any
  pub lowest_one : (n : ℕ) → (s : ℕ) × ((s ≤ n) × (lowest t n ≡ get_or t s 0))
  unfolding lowest
  lowest_one zero = (0, (omega arith, refl))
  lowest_one (suc n) = go (lowest_one n) (leb (lowest t n) (get_or t (suc n) 0)) refl
    where
      go : (s : ℕ) × ((s ≤ n) × (lowest t n ≡ get_or t s 0)) → (b : Bool) → leb (lowest t n) (get_or t (suc n) 0) ≡ b
          → (s : ℕ) × ((s ≤ suc n) × (min (lowest t n) (get_or t (suc n) 0) ≡ get_or t s 0))
      go (s, (h, e)) true c = (s, (omega arith, omega (arith, e, leb-true (lowest t n) (get_or t (suc n) 0) c)))
      go r false c = (suc n, (omega arith, omega (arith, leb-false (lowest t n) (get_or t (suc n) 0) c)))

  pub lowest_all : (n s : ℕ) → s ≤ n → lowest t n ≤ get_or t s 0
  unfolding lowest
  lowest_all zero s h = let e : s ≡ 0 = omega arith in omega (arith, ap (λ (i : ℕ). get_or t i 0) e)
  lowest_all (suc n) s h = go (lowest_all n s) (leb s n) refl
    where
      go : (s ≤ n → lowest t n ≤ get_or t s 0) → (b : Bool) → leb s n ≡ b → min (lowest t n) (get_or t (suc n) 0) ≤ get_or t s 0
      go ih true c = omega (arith, ih (leb-true s n c))
      go ih false c = let e : s ≡ suc n = omega (arith, leb-false s n c) in omega (arith, ap (λ (i : ℕ). get_or t i 0) e)

  -- so it never rises
  pub lowest_falls : (n m : ℕ) → n ≤ m → lowest t m ≤ lowest t n
  lowest_falls n m h = let (s, (below, e)) = lowest_one n in omega (arith, lowest_all m s (omega arith), e)

  -- it is known up to the place before n, and up to the limit where this is before n
  pub record Seen (limit n least : ℕ) : Type 0 where
    pub far : n ≤ 32
    pub up_to : least ≡ lowest t (n - 1)
    pub asked : limit < n → least ≡ lowest t limit

  lowest_next : (n : ℕ) → lowest t n ≡ min (lowest t (n - 1)) (get_or t n 0)
  unfolding lowest
  lowest_next zero = omega arith
  lowest_next (suc n) = let e : suc n - 1 ≡ n = omega arith in sym (ap (λ (i : ℕ). min (lowest t i) (get_or t (suc n) 0)) e)

  module _ (limit : ℕ) where
    pub seen_first : Seen limit 0 (get_or t 0 0)
    unfolding lowest
    seen_first = record { far = omega arith; up_to = refl; asked = λ h. absurd (omega arith) }

    module _ (n least : ℕ) (s : Seen limit n least) where
      -- a lower number behind the limit
      pub seen_lower : n < 32 → get_or t n 0 < least → limit < n → Next (lowest t) limit (paying n (get_or t n 0))
      seen_lower h less behind =
          let here : lowest t n ≡ get_or t n 0 = omega (arith, lowest_next n, s.up_to) in
          pays {n = n} behind (omega arith) here (omega (arith, s.asked behind)) (λ i u v. omega (arith, s.asked behind, s.up_to, lowest_falls i (n - 1) (omega arith)))

      -- another number, or one not behind the limit
      pub seen_more : n < 32 → (limit < n → least ≤ get_or t n 0) → Seen limit (n + 1) (min least (get_or t n 0))
      seen_more h kept =
          let next : min least (get_or t n 0) ≡ lowest t n = omega (arith, lowest_next n, s.up_to) in
          let same : n + 1 - 1 ≡ n = omega arith in
          record { far = omega arith; up_to = next ∙ sym (ap (lowest t) same); asked = λ g. go next g (dec_lt limit n) }
        where
          go : min least (get_or t n 0) ≡ lowest t n → limit < n + 1 → Dec (limit < n) → min least (get_or t n 0) ≡ lowest t limit
          go next g (yes e) = omega (arith, kept e, s.asked e)
          go next g (no e) = let at : n ≡ limit = omega arith in next ∙ ap (lowest t) at

      -- all numbers
      pub seen_all : 32 ≤ n → Next (lowest t) limit None
      seen_all h = none (λ i u v. omega (arith, s.asked (omega (arith, s.far)), s.up_to, lowest_falls i (n - 1) (omega (arith, s.far))))

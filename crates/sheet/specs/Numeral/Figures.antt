-- The figures of a number: one, or those of what is left above the last one, and the last. Assumes nothing.
use Rattle.std.specs.Prelude.{◌≡◌, refl, Bool, true, false, ℕ, zero, suc, ◌/◌, ◌%◌, ◌≤◌, ◌<◌, ltb}
use Rattle.std.proofs.Common.{sym, ◌∙◌, arith, lt-ltb, le-ltb, ltb-true, ltb-false}
use Rattle.std.proofs.Math.Path.{ap}
use mathlib.Core.List.{List, [], ◌∷◌, ◌++◌}
use Rattle.std.proofs.Math.Nat.{div-lt_self}
use Rattle.sheet.specs.Numeral.{figure, numeral_in, numeral}

module _ (base : ℕ) (low : 2 ≤ base) where
  pub in_low : (f n : ℕ) → n < base → numeral_in (suc f) base n ≡ figure n ∷ []
  unfolding numeral_in
  in_low f n h = rw (lt-ltb n base h, numeral_in)

  pub in_high : (f n : ℕ) → base ≤ n → numeral_in (suc f) base n ≡ numeral_in f base (n / base) ++ (figure (n % base) ∷ [])
  unfolding numeral_in
  in_high f n h = rw (le-ltb n base h, numeral_in)

  less : (n : ℕ) → base ≤ n → n / base < n
  less n h = div-lt_self (omega arith) (omega arith)

  -- the bound on the figures does not matter
  enough : (f g n : ℕ) → n < f → n < g → numeral_in f base n ≡ numeral_in g base n
  enough zero g n p q = absurd (omega arith)
  enough (suc f) zero n p q = absurd (omega arith)
  enough (suc f) (suc g) n p q = go (ltb n base) refl (λ h. enough f g (n / base) (omega (arith, less n h)) (omega (arith, less n h)))
    where
      go : (b : Bool) → ltb n base ≡ b → (base ≤ n → numeral_in f base (n / base) ≡ numeral_in g base (n / base)) → numeral_in (suc f) base n ≡ numeral_in (suc g) base n
      go true e r = in_low f n (ltb-true n base e) ∙ sym (in_low g n (ltb-true n base e))
      go false e r =
          let h : base ≤ n = ltb-false n base e in
          in_high f n h ∙ ap (λ (s : List ℕ). s ++ (figure (n % base) ∷ [])) (r h) ∙ sym (in_high g n h)

  pub numeral_low : (n : ℕ) → n < base → numeral base n ≡ figure n ∷ []
  unfolding numeral
  numeral_low n h = in_low n n h

  pub numeral_high : (n : ℕ) → base ≤ n → numeral base n ≡ numeral base (n / base) ++ (figure (n % base) ∷ [])
  unfolding numeral
  numeral_high n h =
      in_high n n h ∙ ap (λ (s : List ℕ). s ++ (figure (n % base) ∷ [])) (enough n (suc (n / base)) (n / base) (less n h) (omega arith))

-- A digit of at most 31 in size, as the machine holds it: it fits a byte, is read back as it is, and what `less` asks of the one
-- and says of it holds of the other.
use mathlib.Core.Path.{◌≡◌, sym, ap, subst, ◌∙◌}
use Prim.Native.Nat.{ℕ, ◌+◌, ◌≤◌}
use native.Mathlib.Omega.{arith}
use lib.IntN.{ℤ, pos, nat_abs, ◌-ℤ◌}
use mir.Syntax.{w8, w16}
use mir.Val.{SFits, to_z, of_z}
use mir.Facts.{to_z-of_z}
use Rattle.digits.specs.Integer.{half}
use Rattle.digits.specs.Integer.Parts.{size, mag_size}
use Rattle.digits.specs.Integer.Machine.{read_back}
use Rattle.recode.specs.declared.low.Low.{Low}

module _ (d : ℤ) (h : nat_abs d ≤ 31) where
  pub fits_byte : SFits w8 d
  fits_byte = record { sfits = omega (arith, size d, mag_size d) }

  same : to_z w16 (of_z w16 d) ≡ d
  same = read_back d (omega (arith, size d))

  pub cast_fits : SFits w8 (to_z w16 (of_z w16 d))
  cast_fits = subst (SFits w8) (sym same) fits_byte

  pub as_byte : to_z w8 (of_z w8 (to_z w16 (of_z w16 d))) ≡ d
  as_byte = ap (λ (x : ℤ). to_z w8 (of_z w8 x)) same ∙ to_z-of_z fits_byte

  pub less_asks : (s : Low) → 1 ≤ s.bits → (k : ℕ) × (half (pos s.low -ℤ d) ≡ pos k)
      → (1 ≤ s.bits) × ((nat_abs (to_z w16 (of_z w16 d)) ≤ 31) × ((k : ℕ) × (half (pos s.low -ℤ to_z w16 (of_z w16 d)) ≡ pos k)))
  less_asks s b k =
      (b, subst (λ (x : ℤ). (nat_abs x ≤ 31) × ((k : ℕ) × (half (pos s.low -ℤ x) ≡ pos k))) (sym same) (h, k))

  pub less_says : (s t : Low) → (t.at ≡ s.at) × ((t.bits + 1 ≡ s.bits) × (pos t.low ≡ half (pos s.low -ℤ to_z w16 (of_z w16 d))))
      → (t.at ≡ s.at) × ((t.bits + 1 ≡ s.bits) × (pos t.low ≡ half (pos s.low -ℤ d)))
  less_says s t e = (e.0, (e.1.0, e.1.1 ∙ ap (λ (x : ℤ). half (pos s.low -ℤ x)) same))

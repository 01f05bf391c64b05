-- `digit_of` meets its contract: what it takes is `chosen` (Window), which is the digit.
use mathlib.Core.Path.{◌≡◌, sym, ap, ap₂, subst, ◌∙◌}
use Prim.Native.Nat.{ℕ, ◌+◌, ◌-◌, ◌*◌, ◌%◌, ◌≤◌, ◌<◌}
use native.Mathlib.Nat.{mod-lt}
use native.Mathlib.Omega.{arith}
use lib.Bits.{bit_and}
use lib.IntN.{ℤ, pos, ◌-ℤ◌}
use mir.Syntax.{w16}
use mir.Val.{SFits, to_z, of_z}
use mir.Facts.{to_z_pos, to_z-of_z}
use Rattle.digits.specs.Integer.Parts.{difference, one_side}
use Rattle.digits.specs.Integer.Machine.{small_fits}
use Rattle.forms.specs.Row.{digit}
use Rattle.recode.proofs.Window.{half_bounds, masked, half_beyond, half_beyond_lem, half_most, chosen, chosen_is}
use Rattle.recode.proofs.digit.DigitRule.digit_of.Goals.{After-half_beyond-second, Start}
use Rattle.recode.proofs.digit.DigitRule.digit_of.Goals as goal

-- a difference of small numbers, as the machine has it
module _ (a b : ℕ) (h : a ≤ 64) (l : b ≤ 64) where
  plain : to_z w16 a -ℤ to_z w16 b ≡ pos a -ℤ pos b
  plain = ap₂ (λ (y z : ℤ). y -ℤ z) (to_z_pos w16 {n = a} (omega arith)) (to_z_pos w16 {n = b} (omega arith))

  fits : SFits w16 (to_z w16 a -ℤ to_z w16 b)
  fits =
      subst (SFits w16) (sym plain) (small_fits (pos a -ℤ pos b) (omega (arith, difference (pos a) (pos b), one_side (pos a -ℤ pos b))))

  read : to_z w16 (of_z w16 (to_z w16 a -ℤ to_z w16 b)) ≡ pos a -ℤ pos b
  read = to_z-of_z fits ∙ plain

module _ (c : Start) where
  bounds : (c.args.self.m < c.args.self.half) × (c.args.self.half ≤ 32)
  bounds = half_bounds c.args.self.m c.args.self.half c.args.self.some c.args.self.most c.args.self.is_half

  low-is : bit_and c.args.x (2 * c.args.self.half - 1) ≡ c.args.x % (2 * c.args.self.half)
  low-is = masked c.args.self.m c.args.self.half c.args.self.some c.args.self.most c.args.self.is_half c.args.x

  small : bit_and c.args.x (2 * c.args.self.half - 1) ≤ 64
  small = omega (arith, low-is, bounds, mod-lt c.args.x {m = 2 * c.args.self.half} (omega (arith, bounds)))

  found : chosen c.args.self.m c.args.self.half (bit_and c.args.x (2 * c.args.self.half - 1)) ≡ digit c.args.self.m (pos c.args.x)
  found =
      ap (chosen c.args.self.m c.args.self.half) low-is
      ∙ chosen_is c.args.self.m c.args.self.half c.args.x c.args.self.some c.args.self.most c.args.self.is_half c.requires.0 c.requires.1

-- the halves taken off
module _ (c : After-half_beyond-second) where
  halves : c.half_beyond-first.result + c.half_beyond-second.result ≡ half_beyond (bit_and c.args.x (2 * c.args.self.half - 1)) c.args.self.m c.args.self.half + half_beyond (bit_and c.args.x (2 * c.args.self.half - 1)) (2 * c.args.self.half - 1 - c.args.self.m) c.args.self.half
  halves =
      ap₂ (λ (a b : ℕ). a + b) (half_beyond_lem _ _ _ c.half_beyond-first.result c.half_beyond-first.ensures)
      (half_beyond_lem _ _ _ c.half_beyond-second.result c.half_beyond-second.ensures)

  few : c.half_beyond-first.result + c.half_beyond-second.result ≤ 64
  few =
      let a = c.args in
      let low = bit_and a.x (2 * a.self.half - 1) in
      omega (arith, halves, bounds (goal.at.overflow_cast-result-2 c).Start, half_most low a.self.m a.self.half, half_most low (2 * a.self.half - 1 - a.self.m) a.self.half)

pub overflow_mul-all : goal.overflow_mul-all
overflow_mul-all c = omega (arith, bounds c)

pub overflow_sub-all-2 : goal.overflow_sub-all-2
overflow_sub-all-2 c = omega (arith, bounds (goal.at.overflow_sub-all-2 c).Start)

pub overflow_cast-result-2 : goal.overflow_cast-result-2
overflow_cast-result-2 c = small_fits (pos _) (omega (arith, few c))

pub overflow_sub-result : goal.overflow_sub-result
overflow_sub-result c = fits _ _ (small (goal.at.overflow_sub-result c).Start) (few c)

pub returns : goal.returns
returns c =
    let a = c.args in
    read _ _ (small (goal.at.returns c).Start) (few c)
    ∙ ap (λ (n : ℕ). pos (bit_and a.x (2 * a.self.half - 1)) -ℤ pos n) (halves c)
    ∙ found (goal.at.returns c).Start

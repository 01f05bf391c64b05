-- `add` meets its contract: the limb of the place changes by the digit (Digits).
use native.Mathlib.Omega.{arith}
use mathlib.Core.Path.{sym, ap, subst, ◌∙◌}
use Prim.Native.Nat.{ℕ, suc, ◌+◌, ◌-◌, ◌/◌, ◌^◌, ◌<◌}
use lib.IntN.{pos, ◌+ℤ◌, ◌*ℤ◌}
use lib.ListN.{get_or, set}
use Rattle.lines.specs.Coded.{whole}
use Rattle.survey.specs.Sum.{Holds}
use Rattle.survey.proofs.Digits.{units_are, units_most, digit_plus, digit_minus}
use Rattle.survey.proofs.limbs.add.Goals.{then-digit, else-digit}
use Rattle.survey.proofs.limbs.add.Goals as goal

pub returns : goal.returns
returns c = λ m n z h.
    let a = c.args in
    let l : a.digit.size < 4294967296 = omega arith in
    let u = units_are a.digit.size a.place l in
    let limb = get_or a.limbs.now (a.place / 16) 0 in
    let is : ℕ → Type 0 = λ y. Holds m (suc n) (set a.limbs.now (a.place / 16) y) (z +ℤ pos (2 ^ a.place) *ℤ whole a.digit) in
    elim c.if-digit.branch [
      | then-digit w ↦ subst is (sym (w.limbs-is ∙ ap (λ (m : ℕ). limb - m) u))
          (digit_minus h a.place a.digit c.requires.1 l w.if-digit.true (omega (arith, units_most a.digit.size a.place l, c.requires.0.least (a.place / 16) (omega (arith, c.requires.1)))))
      | else-digit w ↦ subst is (sym (w.limbs-is ∙ ap (λ (m : ℕ). limb + m) u)) (digit_plus h a.place a.digit c.requires.1 l w.if-digit.false)
    ]

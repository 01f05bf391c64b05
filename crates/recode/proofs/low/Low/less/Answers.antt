-- `less` meets its contract, by that of `rest_of`.
use mathlib.Core.Path.{◌≡◌, refl, sym, ap, subst, ◌∙◌}
use Prim.Native.Nat.{ℕ, ◌≤◌}
use native.Mathlib.Omega.{arith}
use lib.IntN.{ℤ, pos, nat_abs, ◌-ℤ◌}
use lib.Pow.{pow_mono}
use mir.Facts.{to_z-of_z}
use Rattle.digits.specs.Integer.{half}
use Rattle.recode.proofs.LowBits.{less_bound}
use Rattle.recode.proofs.low.Low.less.Goals as goal

pub rest_of-requires : goal.rest_of-requires
rest_of-requires c =
    let same = sym (to_z-of_z c.ranges.digit) in (
      omega (arith, c.args.self.carried, pow_mono {j = 47} c.args.self.few),
      subst (λ (d : ℤ). (nat_abs d ≤ 32) × ((k : ℕ) × (half (pos c.args.self.low -ℤ d) ≡ pos k))) same (omega arith, c.requires.1.1),
    )

pub invariant_of-result : goal.invariant_of-result
invariant_of-result c =
    let s = c.args.self in
    let e = c.rest_of.ensures ∙ ap (λ (d : ℤ). half (pos s.low -ℤ d)) (to_z-of_z c.ranges.digit) in
    record { few = omega (arith, s.few); carried = less_bound s.bits s.low c.rest_of.result c.args.digit c.requires.0 s.carried c.requires.1.0 e }

pub returns : goal.returns
returns c =
    let s = c.args.self in
    (refl, (omega arith, c.rest_of.ensures ∙ ap (λ (d : ℤ). half (pos s.low -ℤ d)) (to_z-of_z c.ranges.digit)))

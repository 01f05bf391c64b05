-- Joint columns of natural numbers: doubling both puts a zero column in front. From the law of one step.
use Rattle.std.specs.Prelude.{◌≡◌, ◌∷◌, ◌++◌, ℕ, zero, suc, ◌+◌, ◌*◌, ◌%◌, ◌^◌, ◌<◌, ℤ, pos, replicate}
use Rattle.std.proofs.Common.{sym, ap₂, ◌∙◌, mul-add, mul-pos, one-mul, arith, pow_pos}
use Rattle.std.proofs.Math.Path.{ap}
use Rattle.digits.specs.Integer.{up}
use Rattle.digits.specs.Integer.Congruent.{power_step}
use Rattle.digits.specs.Two.{blank_column}
use Rattle.forms.specs.Joint.{digit, column, rest, joint}
use Rattle.forms.proofs.Laws.Joint.Digit.{rest_only}
use Rattle.forms.proofs.Laws.Joint.Rule.{joint_unfold}

even_digit : (n : ℕ) (o : ℤ) → digit (pos (2 * n)) o ≡ pos 0
unfolding digit
even_digit n o = let even : 2 * n % 2 ≡ 0 = omega arith in rw even

even_rest : (n : ℕ) (o : ℤ) → rest (pos (2 * n)) o ≡ pos n
even_rest n o = sym (rest_only (pos (2 * n)) o (pos n) (rw (even_digit n o) (ap pos (omega arith))))

joint_double : (k l : ℕ) → 0 < k + l → joint (pos (2 * k)) (pos (2 * l)) ≡ blank_column ∷ joint (pos k) (pos l)
unfolding column
joint_double k l p =
    joint_unfold (pos (2 * k)) (pos (2 * l)) (λ z. omega (arith, ap up z.0, ap up z.1))
    ∙ rw (even_digit k (pos (2 * l)), even_digit l (pos (2 * k)), even_rest k (pos (2 * l)), even_rest l (pos (2 * k)))

-- each doubling of both puts a zero column in front
pub joint_zeros : (z k l : ℕ) → 0 < k + l → joint (pos (2 ^ z * k)) (pos (2 ^ z * l)) ≡ replicate z blank_column ++ joint (pos k) (pos l)
joint_zeros zero k l p = ap₂ (λ (x y : ℕ). joint (pos x) (pos y)) (one-mul k) (one-mul l)
joint_zeros (suc z) k l p =
    let some : 0 < 2 ^ z * k + 2 ^ z * l = omega (arith, mul-pos (pow_pos z) p, mul-add (2 ^ z) k l) in
    rw (power_step z k, power_step z l, joint_double (2 ^ z * k) (2 ^ z * l) some, joint_zeros z k l p)

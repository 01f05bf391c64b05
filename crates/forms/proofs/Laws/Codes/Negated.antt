-- Signs of the numbers do not change the codes: a code is told by which digits are 0, and the columns are as many.
use Rattle.std.specs.Prelude.{◌≡◌, refl, Bool, cond, List, [], ◌∷◌, map, ℕ, zero, suc, ℤ, pos, get_or}
use Rattle.std.proofs.Common.{sym, ap, ◌∙◌}
use Rattle.std.proofs.Math.Path.{ap₂}
use Rattle.digits.specs.Integer.{signed_by}
use Rattle.digits.specs.Two.{Two, of, is_zero}
use Rattle.digits.specs.Two.Sign.{zero_signed}
use Rattle.forms.specs.Codes.{digits, code_at, below, codes}
use Rattle.forms.proofs.Laws.Codes.Next.{codes_next}
use Rattle.forms.proofs.Laws.Joint.Negated.{joint_negates, joint_signed_size}

-- a row with a sign has its zeros where it had them
zero_at : (sign : ℕ) (ds : List ℤ) (i : ℕ) → is_zero (get_or (map (signed_by sign) ds) i (pos 0)) ≡ is_zero (get_or ds i (pos 0))
zero_at sign [] i = refl
zero_at sign (d ∷ ds) zero = zero_signed sign d
zero_at sign (d ∷ ds) (suc i) = zero_at sign ds i

module _ (k l : ℤ) (k_sign l_sign : ℕ) (r : Two) where
  zero_same : (i : ℕ) → is_zero (get_or (digits (signed_by k_sign k) (signed_by l_sign l) r) i (pos 0)) ≡ is_zero (get_or (digits k l r) i (pos 0))
  zero_same i =
      ap (λ (ds : List ℤ). is_zero (get_or ds i (pos 0))) (joint_negates k l k_sign l_sign r)
      ∙ zero_at (of k_sign l_sign r) (digits k l r) i

  code_same : (i : ℕ) → code_at (signed_by k_sign k) (signed_by l_sign l) r i ≡ code_at k l r i
  code_same i =
      codes_next (signed_by k_sign k) (signed_by l_sign l) r i
      ∙ ap₂ (λ (a b : Bool). cond a 0 (cond b 1 2)) (zero_same i) (zero_same (suc i))
      ∙ sym (codes_next k l r i)

  pub codes_negate : codes (signed_by k_sign k) (signed_by l_sign l) r ≡ codes k l r
  unfolding codes
  codes_negate = ap₂ below (λ i n. code_same n i) (joint_signed_size k l k_sign l_sign).0

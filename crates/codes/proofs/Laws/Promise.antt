-- What the call for a joint form with its codes promises of the bytes it writes.
use Rattle.std.specs.Prelude.{◌≡◌, List, ℕ, length}
use Rattle.std.proofs.Common.{subst}
use Rattle.digits.specs.Buffer.{row_below}
use Rattle.digits.specs.declared.limits.Limits.{Limits}
use Rattle.digits.specs.Scalar.{signed_scalar}
use Rattle.digits.specs.Two.{Two, P, Q, of}
use Rattle.recode.specs.Call.{Recoded, wrote, joint_answer, joint_buffer}
use Rattle.codes.specs.Call.{codes_answer, codes_digits, codes_buffer, CodesOf, CodesPromised}
use Rattle.codes.proofs.Laws.Call.Standing as Standing

module _ (limits : Limits) (s : List ℕ) (s_sign : ℕ) (t : List ℕ) (t_sign : ℕ) (k l k_codes l_codes : List ℕ) (n w : ℕ)
    (written : codes_answer limits s s_sign t t_sign (length k) (length l) (length k_codes) (length l_codes) ≡ wrote n w) where
  -- a joint call with the same digit buffers answers the same, and leaves the same rows
  pub codes_joint : (joint_answer limits s s_sign t t_sign (length k) (length l) ≡ wrote n w)
      × ((r : Two) → codes_digits limits r s s_sign t t_sign k l k_codes l_codes ≡ joint_buffer limits r s s_sign t t_sign k l)
  codes_joint = Standing.codes_joint limits s s_sign t t_sign k l k_codes l_codes n w written

  -- at every place the code is the one whose condition held there, and the digit follows from it
  pub codes_written :
      CodesOf (signed_scalar s s_sign) (signed_scalar t t_sign)
      (λ r. row_below n (of (codes_digits limits P s s_sign t t_sign k l k_codes l_codes) (codes_digits limits Q s s_sign t t_sign k l k_codes l_codes) r))
      (of (codes_buffer limits P s s_sign t t_sign k l k_codes l_codes) (codes_buffer limits Q s s_sign t t_sign k l k_codes l_codes))
  codes_written =
      (subst
      (λ (a : Recoded). CodesPromised (signed_scalar s s_sign) (signed_scalar t t_sign) a
      (codes_digits limits P s s_sign t t_sign k l k_codes l_codes) (codes_digits limits Q s s_sign t t_sign k l k_codes l_codes)
      (codes_buffer limits P s s_sign t t_sign k l k_codes l_codes) (codes_buffer limits Q s s_sign t t_sign k l k_codes l_codes)) written
      (Standing.codes_promised limits s s_sign t t_sign k l k_codes l_codes)).1

-- What a joint call returns and leaves, by the first question missed, and where all are met.
use Rattle.std.specs.Prelude.{◌≡◌, refl, true, false, ◌&&◌, List, length, Err}
use Rattle.std.proofs.Math.Path.{subst}
use Prim.Native.Nat.{ℕ, ◌+◌, ◌*◌, ◌≤◌, ◌<◌, max}
use borrow.Author.Tests.{le-leb, lt-leb}
use Rattle.digits.specs.declared.limits.Limits.{Limits}
use Rattle.digits.specs.Scalar.{signed_scalar, sized}
use Rattle.digits.specs.Two.{P, Q}
use Rattle.forms.specs.Joint.{joint}
use Rattle.digits.specs.declared.missed.Missed.TheVariants.{BadScalar, NoRoom}
use Rattle.recode.specs.Call.{Recoded, number, wrote_columns, joint_question, joint_answer, joint_buffer, JointPromised, left, filled}
use Rattle.recode.proofs.Laws.Call.Standing.{joint_question_lem, joint_promised}
use Rattle.recode.specs.Call.Joint.{digits_of}

module _ (limits : Limits) (s : List ℕ) (s_sign : ℕ) (t : List ℕ) (t_sign : ℕ) (k l : List ℕ) where
  -- the contract of a call whose answer is a and that leaves k' and l'
  abbrev pub Returned : Recoded → List ℕ → List ℕ → Type 0
  Returned a k' l' =
      (a ≡ joint_answer limits s s_sign t t_sign (length k) (length l))
      × ((k' ≡ joint_buffer limits P s s_sign t t_sign k l)
      × ((l' ≡ joint_buffer limits Q s s_sign t t_sign k l)
      × (JointPromised (signed_scalar s s_sign) (signed_scalar t t_sign) a k' l' × (number a ≡ joint_question limits s t (length k) (length l)))))

  returned : (a : Recoded) → joint_answer limits s s_sign t t_sign (length k) (length l) ≡ a → Returned a (left a (digits_of P s s_sign t t_sign) k) (left a (digits_of Q s s_sign t t_sign) l)
  unfolding joint_buffer
  returned a e =
      subst (λ (x : Recoded). Returned x (left x (digits_of P s s_sign t t_sign) k) (left x (digits_of Q s s_sign t t_sign) l)) e
      (refl, (refl, (refl, (joint_promised limits s s_sign t t_sign k l, joint_question_lem limits s s_sign t t_sign (length k) (length l)))))

module _ (limits : Limits) (s : List ℕ) (s_sign : ℕ) (t : List ℕ) (t_sign : ℕ) (k l : List ℕ) where
  pub bad_scalar : (sized limits s && sized limits t) ≡ false → Returned limits s s_sign t t_sign k l (Err BadScalar) k l
  unfolding joint_answer
  bad_scalar e = returned limits s s_sign t t_sign k l (Err BadScalar) (rw e)

  module _ (sizes : (sized limits s && sized limits t) ≡ true) where
    pub no_first : length k < 8 * max (length s) (length t) + 1 → Returned limits s s_sign t t_sign k l (Err NoRoom) k l
    unfolding joint_answer
    no_first h =
        returned limits s s_sign t t_sign k l (Err NoRoom) (rw (sizes, lt-leb (8 * max (length s) (length t) + 1) (length k) h))

    module _ (room : 8 * max (length s) (length t) + 1 ≤ length k) where
      pub no_second : length l < 8 * max (length s) (length t) + 1 → Returned limits s s_sign t t_sign k l (Err NoRoom) k l
      unfolding joint_answer
      no_second h =
          returned limits s s_sign t t_sign k l (Err NoRoom)
          (rw (sizes, le-leb (8 * max (length s) (length t) + 1) (length k) room, lt-leb (8 * max (length s) (length t) + 1) (length l) h))

      pub written : (a : Recoded) (k' l' : List ℕ) → 8 * max (length s) (length t) + 1 ≤ length l → a ≡ wrote_columns (joint (signed_scalar s s_sign) (signed_scalar t t_sign))
          → k' ≡ filled (digits_of P s s_sign t t_sign) k → l' ≡ filled (digits_of Q s s_sign t t_sign) l → Returned limits s s_sign t t_sign k l a k' l'
      unfolding joint_answer
      written a k' l' h e f g =
          rw (e, f, g)
          (returned limits s s_sign t t_sign k l (wrote_columns (joint (signed_scalar s s_sign) (signed_scalar t t_sign)))
          (rw (sizes, le-leb (8 * max (length s) (length t) + 1) (length k) room, le-leb (8 * max (length s) (length t) + 1) (length l) h)))

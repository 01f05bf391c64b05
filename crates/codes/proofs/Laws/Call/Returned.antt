-- What the call returns and leaves, by the first question missed, and where all are met.
use Rattle.std.specs.Prelude.{◌≡◌, refl, Bool, true, false, ◌&&◌, cond, List, leb, length, Ok, Err}
use Rattle.std.proofs.Math.Path.{subst}
use Prim.Native.Nat.{ℕ, ◌+◌, ◌*◌, ◌≤◌, max}
use Rattle.std.proofs.Common.{sym, ap, ◌∙◌, arith, leb-true}
use Rattle.digits.specs.declared.limits.Limits.{Limits}
use Rattle.digits.specs.declared.missed.Missed.TheVariants.{BadScalar, NoRoom}
use Rattle.digits.specs.Scalar.{signed_scalar, sized}
use Rattle.digits.specs.Scalar.Sized.{both}
use Rattle.digits.specs.Two.{Column, Two, P, Q, of}
use Rattle.forms.specs.Joint.{joint}
use Rattle.recode.specs.Call.{Recoded, number, wrote_columns, roomy, filled, left, joint_answer, joint_buffer}
use Rattle.recode.specs.Call.Joint.{digits_of}
use Rattle.recode.specs.declared.answer.Written.{Written}
use Rattle.codes.specs.Call.{codes_question, if_roomy, codes_answer, codes_of, coded, left_codes, codes_digits, codes_buffer, CodesPromised}
use Rattle.codes.proofs.Laws.Call.Standing.{codes_question_lem, codes_promised}
use Rattle.codes.specs.Call.Returned.{rooms}

pub rooms_all : (room : ℕ) (k l kc lc : List ℕ) → rooms room k l kc lc ≡ true
    → ((room ≤ length k) × (room ≤ length l)) × ((room ≤ length kc) × (room ≤ length lc))
rooms_all room k l kc lc e =
    let (rows, codes) = both (leb room (length k) && leb room (length l)) (leb room (length kc) && leb room (length lc)) e in
    (pair (length k) (length l) rows, pair (length kc) (length lc) codes)
  where
    pair : (m n : ℕ) → (leb room m && leb room n) ≡ true → (room ≤ m) × (room ≤ n)
    pair m n e = let (a, b) = both (leb room m) (leb room n) e in (leb-true room m a, leb-true room n b)

module _ (limits : Limits) (s : List ℕ) (s_sign : ℕ) (t : List ℕ) (t_sign : ℕ) (k l kc lc : List ℕ) where
  -- the contract of a call whose answer is a and that leaves k', l', kc' and lc'
  abbrev pub Returned : Recoded → List ℕ → List ℕ → List ℕ → List ℕ → Type 0
  Returned a k' l' kc' lc' =
      (a ≡ codes_answer limits s s_sign t t_sign (length k) (length l) (length kc) (length lc))
      × ((k' ≡ codes_digits limits P s s_sign t t_sign k l kc lc)
      × ((l' ≡ codes_digits limits Q s s_sign t t_sign k l kc lc)
      × ((kc' ≡ codes_buffer limits P s s_sign t t_sign k l kc lc)
      × ((lc' ≡ codes_buffer limits Q s s_sign t t_sign k l kc lc)
      × (CodesPromised (signed_scalar s s_sign) (signed_scalar t t_sign) a k' l' kc' lc'
      × (number a ≡ codes_question limits s t (length k) (length l) (length kc) (length lc)))))))

  returned : (a : Recoded) → codes_answer limits s s_sign t t_sign (length k) (length l) (length kc) (length lc) ≡ a
      → Returned a (left a (digits_of P s s_sign t t_sign) k) (left a (digits_of Q s s_sign t t_sign) l) (left_codes a (codes_of P s s_sign t t_sign) kc) (left_codes a (codes_of Q s s_sign t t_sign) lc)
  unfolding codes_digits codes_buffer
  returned a e =
      subst (λ (x : Recoded). Returned x (left x (digits_of P s s_sign t t_sign) k) (left x (digits_of Q s s_sign t t_sign) l) (left_codes x (codes_of P s s_sign t t_sign) kc) (left_codes x (codes_of Q s s_sign t t_sign) lc)) e
      (refl, (refl, (refl, (refl, (refl, (codes_promised limits s s_sign t t_sign k l kc lc, codes_question_lem limits s s_sign t t_sign (length k) (length l) (length kc) (length lc)))))))

  pub bad_scalar : (sized limits s && sized limits t) ≡ false → Returned (Err BadScalar) k l kc lc
  unfolding codes_answer joint_answer
  bad_scalar e = returned (Err BadScalar) (rw e)

  module _ (sizes : (sized limits s && sized limits t) ≡ true) where
    -- where question 1 is met
    answered : (met : Bool) → rooms (8 * max (length s) (length t) + 1) k l kc lc ≡ met
        → codes_answer limits s s_sign t t_sign (length k) (length l) (length kc) (length lc) ≡ cond met (wrote_columns (joint (signed_scalar s s_sign) (signed_scalar t t_sign))) (Err NoRoom)
    unfolding codes_answer joint_answer
    answered met e = rw (sizes, ← e) (joined (roomy longer (length k) && roomy longer (length l)) (roomy longer (length kc) && roomy longer (length lc)))
      where
        longer : ℕ
        longer = max (length s) (length t)

        cs : List Column
        cs = joint (signed_scalar s s_sign) (signed_scalar t t_sign)

        joined : (a b : Bool) → if_roomy b (cond a (wrote_columns cs) (Err NoRoom)) ≡ cond (a && b) (wrote_columns cs) (Err NoRoom)
        joined true b = refl
        joined false b = refl

    pub no_room : rooms (8 * max (length s) (length t) + 1) k l kc lc ≡ false → Returned (Err NoRoom) k l kc lc
    no_room e = returned (Err NoRoom) (answered false e)

    pub written : (a : Recoded) (k' l' kc' lc' : List ℕ) → rooms (8 * max (length s) (length t) + 1) k l kc lc ≡ true
        → a ≡ wrote_columns (joint (signed_scalar s s_sign) (signed_scalar t t_sign))
        → k' ≡ filled (digits_of P s s_sign t t_sign) k → l' ≡ filled (digits_of Q s s_sign t t_sign) l → kc' ≡ coded (codes_of P s s_sign t t_sign) kc → lc' ≡ coded (codes_of Q s s_sign t t_sign) lc
        → Returned a k' l' kc' lc'
    written a k' l' kc' lc' h e f g i j = rw (e, f, g, i, j) (returned (wrote_columns (joint (signed_scalar s s_sign) (signed_scalar t t_sign))) (answered true h))

-- whether a buffer has room for the longer of two scalars
abbrev room : List ℕ → List ℕ → List ℕ → Bool
room s t buffer = roomy (max (length s) (length t)) (length buffer)

module _ (limits : Limits) (s : List ℕ) (s_sign : ℕ) (t : List ℕ) (t_sign : ℕ) (k l : List ℕ) where
  -- where the joint call writes, its buffers have room and are filled
  pub rows_roomy : (w : Written) → Ok w ≡ joint_answer limits s s_sign t t_sign (length k) (length l) → (room s t k ≡ true) × (room s t l ≡ true)
  unfolding joint_answer
  rows_roomy w e = both (room s t k) (room s t l) (go (sized limits s && sized limits t) (room s t k && room s t l) (sym e))
    where
      go : (a b : Bool) → cond a (cond b (wrote_columns (joint (signed_scalar s s_sign) (signed_scalar t t_sign))) (Err NoRoom)) (Err BadScalar) ≡ Ok w → b ≡ true
      go true true e = refl
      go true false e = absurd (omega (arith, ap number e))
      go false b e = absurd (omega (arith, ap number e))

  pub rows_filled : (w : Written) → Ok w ≡ joint_answer limits s s_sign t t_sign (length k) (length l)
      → (r : Two) → joint_buffer limits r s s_sign t t_sign k l ≡ filled (digits_of r s s_sign t t_sign) (of k l r)
  unfolding joint_buffer
  rows_filled w e r = rw (← e) refl

module _ (limits : Limits) (s : List ℕ) (s_sign : ℕ) (t : List ℕ) (t_sign : ℕ) (k l kc lc : List ℕ) where
  -- where the code buffers have room, the answer is that of a joint form
  as_joint : (room s t kc && room s t lc) ≡ true
      → codes_answer limits s s_sign t t_sign (length k) (length l) (length kc) (length lc) ≡ joint_answer limits s s_sign t t_sign (length k) (length l)
  unfolding codes_answer
  as_joint e = rw e (same (joint_answer limits s s_sign t t_sign (length k) (length l)))
    where
      same : (a : Recoded) → if_roomy true a ≡ a
      same (Ok w) = refl
      same (Err m) = refl

  -- where all questions are met
  pub answered_ok : (room s t kc && room s t lc) ≡ true → (w : Written) → Ok w ≡ joint_answer limits s s_sign t t_sign (length k) (length l)
      → (k' l' kc' lc' : List ℕ) → k' ≡ joint_buffer limits P s s_sign t t_sign k l → l' ≡ joint_buffer limits Q s s_sign t t_sign k l
      → kc' ≡ coded (codes_of P s s_sign t t_sign) kc → lc' ≡ coded (codes_of Q s s_sign t t_sign) lc → Returned limits s s_sign t t_sign k l kc lc (Ok w) k' l' kc' lc'
  unfolding joint_buffer
  answered_ok e w same k' l' kc' lc' f g i j = rw (f, g, i, j, ← same) (returned limits s s_sign t t_sign k l kc lc (Ok w) (as_joint e ∙ sym same))

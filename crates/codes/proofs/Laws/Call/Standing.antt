-- What stands in the buffers after the call, whatever was asked: the rows that a joint call leaves, and their codes. From the promises of
-- forms and recode, and from what was written being read back.
use Rattle.std.specs.Prelude.{◌≡◌, refl, Bool, ◌&&◌, cond, List, length, get_or, Ok, Err}
use Rattle.std.proofs.Math.Path.{sym, ap}
use Rattle.std.proofs.Common.{ap₂, ◌∙◌, arith}
use Rattle.std.proofs.Math.Bool.{true, false}
use Prim.Native.Nat.{ℕ, ◌-◌, max}
use Rattle.std.proofs.Math.IntN.{ℤ}
use Rattle.digits.specs.Buffer.{row_below}
use Rattle.digits.proofs.Laws.Buffer.Read.{column_row}
use Rattle.digits.specs.Buffer.Zeros.{padded_at}
use Rattle.digits.specs.declared.limits.Limits.{Limits}
use Rattle.digits.specs.Scalar.{signed_scalar, sized}
use Rattle.digits.specs.Two.{Column, Two, P, Q, other, of}
use Rattle.forms.specs.Codes.{digits, remainder_at, codes}
use Rattle.forms.specs.Joint.{joint}
use Rattle.forms.proofs.Laws.Joint.Value.{joint_small}
use Rattle.forms.proofs.Laws.Promise.{joint_value, joint_keeps, joint_top, remainder_is, codes_held, codes_digits_lem}
use Rattle.forms.specs.Test.{rows}
use Rattle.recode.specs.Call.{Recoded, number, wrote, wrote_columns, roomy, filled, left, joint_answer, joint_buffer}
use Rattle.recode.specs.Call.Joint.{digits_of}
use Rattle.recode.proofs.Laws.Promise.{joint_written, joint_only}
use Rattle.digits.specs.declared.missed.Missed.TheVariants.{BadScalar, NoRoom}
use Rattle.codes.specs.Call.{codes_question, if_roomy, codes_answer, codes_of, coded, left_codes, codes_digits, codes_buffer, CodesOf, CodesPromised}

-- the codes of a joint form are as promised
codes_are : (k l : ℤ) → CodesOf k l (digits k l) (codes k l)
codes_are k l =
    record {
      leaves = λ r i. (remainder_is k l r i (remainder_at k l r i)).0 refl;
      held = codes_held k l;
      follows = codes_digits_lem k l;
    }

-- also where the digits and the codes are read from elsewhere
same : {k l : ℤ} {ds ds' : Two → List ℤ} {ns ns' : Two → List ℕ} → ((r : Two) → ds' r ≡ ds r) → ((r : Two) (i : ℕ) → get_or (ns' r) i 0 ≡ get_or (ns r) i 0)
    → CodesOf k l ds ns → CodesOf k l ds' ns'
same e f h =
    record {
      leaves = λ r i. rw (e r) (h.leaves r i);
      held = λ r i. rw (e r, e (other r), f r i) (h.held r i);
      follows = λ r i. rw (e r, f r i) (h.follows r i);
    }

module _ (limits : Limits) (s : List ℕ) (s_sign : ℕ) (t : List ℕ) (t_sign : ℕ) where
  -- the number of the answer is that of the first question missed
  pub codes_question_lem : (places places' room room' : ℕ)
      → number (codes_answer limits s s_sign t t_sign places places' room room') ≡ codes_question limits s t places places' room room'
  unfolding codes_answer joint_answer
  codes_question_lem places places' room room' =
      go (sized limits s) (sized limits t) (roomy longer places) (roomy longer places') (roomy longer room) (roomy longer room')
    where
      longer : ℕ
      longer = max (length s) (length t)

      cs : List Column
      cs = joint (signed_scalar s s_sign) (signed_scalar t t_sign)

      go : (a b c d e f : Bool)
          → number (if_roomy (e && f) (cond (a && b) (cond (c && d) (wrote_columns cs) (Err NoRoom)) (Err BadScalar))) ≡ cond a (cond b (cond c (cond d (cond e (cond f 0 3) 3) 3) 3) 1) 1
      go true true true true true true = refl
      go true true true true true false = refl
      go true true true true false f = refl
      go true true true false e f = refl
      go true true false d e f = refl
      go true false c d e f = refl
      go false b c d e f = refl

  module _ (k l kc lc : List ℕ) where
    abbrev answer : Recoded
    answer = codes_answer limits s s_sign t t_sign (length k) (length l) (length kc) (length lc)

    -- where it writes, a joint call with the same digit buffers answers the same, and leaves the same rows
    pub codes_joint : (n w : ℕ) → answer ≡ wrote n w
        → (joint_answer limits s s_sign t t_sign (length k) (length l) ≡ wrote n w) × ((r : Two) → codes_digits limits r s s_sign t t_sign k l kc lc ≡ joint_buffer limits r s s_sign t t_sign k l)
    unfolding codes_answer codes_digits joint_buffer
    codes_joint n w e = (f, λ r. ap (λ (a : Recoded). left a (digits_of r s s_sign t t_sign) (of k l r)) (e ∙ sym f))
      where
        if_written : (met : Bool) (a : Recoded) → if_roomy met a ≡ wrote n w → a ≡ wrote n w
        if_written met (Err m) e = e
        if_written true (Ok v) e = e
        if_written false (Ok v) e = absurd (omega (arith, ap number e))

        f : joint_answer limits s s_sign t t_sign (length k) (length l) ≡ wrote n w
        f = if_written (roomy (max (length s) (length t)) (length kc) && roomy (max (length s) (length t)) (length lc)) (joint_answer limits s s_sign t t_sign (length k) (length l)) e

    -- the length is that of the joint form, and the buffers are filled
    codes_filled : (n w : ℕ) → answer ≡ wrote n w
        → (n ≡ length (joint (signed_scalar s s_sign) (signed_scalar t t_sign)))
        × ((r : Two) → (codes_digits limits r s s_sign t t_sign k l kc lc ≡ filled (digits_of r s s_sign t t_sign) (of k l r)) × (codes_buffer limits r s s_sign t t_sign k l kc lc ≡ coded (codes_of r s s_sign t t_sign) (of kc lc r)))
    unfolding codes_digits codes_buffer
    codes_filled n w e =
        let a : ℤ = signed_scalar s s_sign in
        let b : ℤ = signed_scalar t t_sign in (
          (joint_only limits s s_sign t t_sign k l n w (joint a b) (joint_keeps a b) (joint_top a b) (joint_value a b).0 (joint_value a b).1 (codes_joint n w e).0).0.0,
          λ r. (ap (λ (x : Recoded). left x (digits_of r s s_sign t t_sign) (of k l r)) e, ap (λ (x : Recoded). left_codes x (codes_of r s s_sign t t_sign) (of kc lc r)) e),
        )

    codes_stand : (n w : ℕ) → answer ≡ wrote n w
        → CodesOf (signed_scalar s s_sign) (signed_scalar t t_sign) (λ r. row_below n (of (codes_digits limits P s s_sign t t_sign k l kc lc) (codes_digits limits Q s s_sign t t_sign k l kc lc) r))
        (of (codes_buffer limits P s s_sign t t_sign k l kc lc) (codes_buffer limits Q s s_sign t t_sign k l kc lc))
    codes_stand n w e = same (rows _ (row P, row Q)) (rows _ (code P, code Q)) (codes_are (signed_scalar s s_sign) (signed_scalar t t_sign))
      where
        row : (r : Two) → row_below n (codes_digits limits r s s_sign t t_sign k l kc lc) ≡ digits_of r s s_sign t t_sign
        row r = ap₂ row_below (codes_filled n w e).0 ((codes_filled n w e).1 r).0 ∙ column_row r _ (joint_small (signed_scalar s s_sign) (signed_scalar t t_sign))

        code : (r : Two) (i : ℕ) → get_or (codes_buffer limits r s s_sign t t_sign k l kc lc) i 0 ≡ get_or (codes_of r s s_sign t t_sign) i 0
        code r i = rw ((codes_filled n w e).1 r).1 (padded_at (codes_of r s s_sign t t_sign) (length (of kc lc r) - length (codes_of r s s_sign t t_sign)) i)

    -- the answer and the buffers keep the promise
    pub codes_promised :
        CodesPromised (signed_scalar s s_sign) (signed_scalar t t_sign) answer
        (codes_digits limits P s s_sign t t_sign k l kc lc) (codes_digits limits Q s s_sign t t_sign k l kc lc) (codes_buffer limits P s s_sign t t_sign k l kc lc) (codes_buffer limits Q s s_sign t t_sign k l kc lc)
    codes_promised = go answer refl
      where
        go : (a : Recoded) → answer ≡ a
            → CodesPromised (signed_scalar s s_sign) (signed_scalar t t_sign) a
            (codes_digits limits P s s_sign t t_sign k l kc lc) (codes_digits limits Q s s_sign t t_sign k l kc lc) (codes_buffer limits P s s_sign t t_sign k l kc lc) (codes_buffer limits Q s s_sign t t_sign k l kc lc)
        go (Err m) e = tt
        go (Ok w) e =
            let (f, g) = codes_joint w.length w.weight e in
            (rw (g P, g Q) (joint_written limits s s_sign t t_sign k l w.length w.weight f), codes_stand w.length w.weight e)

-- The answer and the buffer of the call for the cheapest sheet: where a question about the plan is missed, and where none is.
use mathlib.Core.Path.{◌≡◌, refl, sym, ap, ◌∙◌}
use mathlib.Core.Bool.{true, ◌&&◌, cond}
use mathlib.Core.List.{List}
use Prim.Native.Nat.{ℕ}
use lib.IntN.{pos}
use lib.ListN.{length}
use Rattle.digits.specs.Scalar.{Bytes}
use Rattle.digits.specs.declared.limits.Limits.{Limits}
use Rattle.digits.specs.Scalar.{scalar, signed_scalar, sized}
use Rattle.sheet.specs.declared.Plan.{Plan}
use Rattle.sheet.specs.Plan.{is_limit}
use Rattle.sheet.specs.Questions.Planned.{of_window}
use Rattle.written.specs.Enough.{Enough}
use Rattle.written.specs.Valid.{Valid, for_j, for_i}
use Rattle.written.specs.Written.{written}
use Rattle.writer.specs.declared.answer.Sheet.{Sheet}
use Rattle.digits.specs.declared.missed.Missed.{Missed}
use Rattle.digits.specs.declared.missed.Missed.TheVariants.{NoRoom}
use Rattle.writer.specs.Call.{number, roomy, wrote, left, j_answer, j_buffer, i_answer, i_buffer}
use Rattle.std.specs.Prelude.{Result, Err}
use Rattle.chooser.specs.Body.Choice.{plan_answer, plan_buffer}
use Rattle.chooser.specs.Call.Met.{missed_first}
use Rattle.chooser.specs.Call.{choice_answer, cheapest_question, cheapest_answer, cheapest_buffer, Promised}
use Rattle.chooser.specs.Cheapest.{cheapest_plan, cheapest}
use Rattle.chooser.proofs.Laws.Cheapest.Least.{plan_within}
use Rattle.chooser.proofs.Laws.Cheapest.Signs.{plan_unsigned}
use Rattle.chooser.proofs.Laws.Call.Demand.{cheapest_promised, cheapest_question_lem}

-- ── its sheet ───────────────────────────────────────────────────────────────────────────────

module _ (limits : Limits) (k : List ℕ) (k_sign : ℕ) (l : List ℕ) (l_sign : ℕ) (buffer : List ℕ) (limit : ℕ) where
  -- what the call returns and leaves
  pub record Returned (a : Result Sheet Missed) (out : List ℕ) : Type 0 where
    pub answer : a ≡ cheapest_answer limits k k_sign l l_sign limit (length buffer)
    pub left_is : out ≡ cheapest_buffer limits k k_sign l l_sign limit buffer
    pub promised : Promised limits a out (signed_scalar k k_sign) (signed_scalar l l_sign) limit
    pub question : number a ≡ cheapest_question limits k l limit (length buffer)

  -- where a question about the plan is missed
  pub refused : {e : Missed} → choice_answer limits k l limit ≡ Err e → Returned (Err e) buffer
  unfolding cheapest_answer cheapest_buffer
  refused {e} h =
      let a : cheapest_answer limits k k_sign l l_sign limit (length buffer) ≡ Err e = missed_first limits k l limit _ h in
      record {
        answer = sym a;
        left_is = sym (ap (λ (x : Result Sheet Missed). left x (cheapest (signed_scalar k k_sign) (signed_scalar l l_sign) limit) buffer) a);
        promised = tt;
        question = ap number (sym a) ∙ cheapest_question_lem k k_sign l l_sign limits limit (length buffer);
      }

  module _ (enough : Enough limits) (k_bytes : Bytes k) (l_bytes : Bytes l) where
    -- the promise goes with the answer and the buffer
    returned : {a : Result Sheet Missed} {out : List ℕ} → a ≡ cheapest_answer limits k k_sign l l_sign limit (length buffer) → out ≡ cheapest_buffer limits k k_sign l l_sign limit buffer → Returned a out
    returned e f =
        rw (e, f) (record {
          answer = refl;
          left_is = refl;
          promised = cheapest_promised k k_sign l l_sign limits enough limit buffer k_bytes l_bytes;
          question = cheapest_question_lem k k_sign l l_sign limits limit (length buffer);
        })

    module _ (sizes : (sized limits k && sized limits l) ≡ true) where
      -- a valid plan's call asks only for room
      plan_answer_lem : {p : Plan} → Valid p → plan_answer limits p k k_sign l l_sign (length buffer) ≡ cond (roomy limits (length buffer)) (wrote p (signed_scalar k k_sign) (signed_scalar l l_sign)) (Err NoRoom)
      unfolding j_answer i_answer
      plan_answer_lem for_j = rw sizes
      plan_answer_lem (for_i v w) = rw (sizes, of_window v, of_window w)

      plan_buffer_lem : {p : Plan} → Valid p → plan_buffer limits p k k_sign l l_sign buffer ≡ left (plan_answer limits p k k_sign l l_sign (length buffer)) (written p (signed_scalar k k_sign) (signed_scalar l l_sign)) buffer
      unfolding j_buffer i_answer i_buffer
      plan_buffer_lem for_j = refl
      plan_buffer_lem (for_i v w) = refl

      module _ (low : is_limit limit ≡ true) where
        answered : cheapest_answer limits k k_sign l l_sign limit (length buffer) ≡ plan_answer limits (cheapest_plan (signed_scalar k k_sign) (signed_scalar l l_sign) limit) k k_sign l l_sign (length buffer)
        unfolding cheapest_answer
        answered = rw (sizes, low) (sym (plan_answer_lem (plan_within (signed_scalar k k_sign) (signed_scalar l l_sign) limit).0))

        pub by_plan : {a : Result Sheet Missed} {out : List ℕ} {p : Plan} → p ≡ cheapest_plan (pos (scalar k)) (pos (scalar l)) limit
            → a ≡ plan_answer limits p k k_sign l l_sign (length buffer) → out ≡ plan_buffer limits p k k_sign l l_sign buffer → Returned a out
        unfolding cheapest_buffer cheapest
        by_plan {p} g e f =
            let h = g ∙ sym (plan_unsigned k k_sign l l_sign limit) in
            returned
            (e ∙ ap (λ (q : Plan). plan_answer limits q k k_sign l l_sign (length buffer)) h ∙ sym answered)
            (f ∙ ap (λ (q : Plan). plan_buffer limits q k k_sign l l_sign buffer) h ∙ plan_buffer_lem (plan_within (signed_scalar k k_sign) (signed_scalar l l_sign) limit).0
            ∙ ap (λ (x : Result Sheet Missed). left x (written (cheapest_plan (signed_scalar k k_sign) (signed_scalar l l_sign) limit) (signed_scalar k k_sign) (signed_scalar l l_sign)) buffer) (sym answered))

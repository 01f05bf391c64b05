-- Demand 3 of the calls: the plan is the first in the order, and what is written is what demand 3 asks for.
use Rattle.std.specs.Prelude.{◌≡◌, Bool, ◌&&◌, ℕ, ◌<◌, ◌^◌, ℤ, pos, nat_abs, length, drop, Result, Ok, Err}
use Rattle.std.proofs.Math.Path.{refl, subst}
use Rattle.std.proofs.Common.{sym, ap, ◌∙◌, arith}
use Rattle.std.proofs.Math.Bool.{true, false, cond}
use mathlib.Core.List.{List}
use Rattle.std.proofs.Math.Seq.{take-append_seam}
use Rattle.digits.specs.declared.limits.Limits.{Limits}
use Rattle.digits.specs.Limits.{bits}
use Rattle.digits.specs.declared.missed.Missed.{Missed}
use Rattle.digits.specs.declared.missed.Missed.TheVariants.{BadScalar, NoRoom, BadLimit}
use Rattle.digits.specs.Scalar.{Bytes, scalar, signed_scalar, sized}
use Rattle.digits.proofs.Laws.Scalar.Signed.{signed_bounded}
use Rattle.writer.specs.declared.answer.Sheet.{Sheet}
use Rattle.sheet.specs.Plan.{is_limit}
use Rattle.sheet.specs.declared.Plan.{Plan}
use Rattle.written.specs.Enough.{Enough}
use Rattle.written.specs.Written.{digits, written_additions, written_doublings}
use Rattle.writer.specs.Call.{number, roomy, wrote, left}
use Rattle.chooser.specs.Cheapest.{cheapest_plan, First, cheapest}
use Rattle.chooser.specs.Call.{choice_number, choice_question, choice_answer, ChoicePromised, cheapest_question, cheapest_answer, cheapest_buffer, Cheapest, Promised}
use Rattle.chooser.proofs.Laws.Cheapest.Least.{first_plan}
use Rattle.chooser.proofs.Laws.Cheapest.Signs.{plan_unsigned}
use Rattle.chooser.proofs.Laws.Cheapest.Sheet.{additions_of, cheapest_plan_lem, cheapest_digits, cheapest_is_least, cheapest_accepted, cheapest_within, cheapest_counted, cheapest_doubled}

-- ── the plan ────────────────────────────────────────────────────────────────────────────────

-- whatever is asked, the answer keeps the promise for the scalars with any signs, and its number is that of the first question missed
module _ (limits : Limits) (k l : List ℕ) (limit : ℕ) where
  pub choice_promised : (k_sign l_sign : ℕ) → ChoicePromised (choice_answer limits k l limit) (signed_scalar k k_sign) (signed_scalar l l_sign) limit
  unfolding choice_answer
  choice_promised k_sign l_sign = go (sized limits k && sized limits l) (is_limit limit)
    where
      go : (a b : Bool)
          → ChoicePromised (cond a (cond b (Ok (cheapest_plan (pos (scalar k)) (pos (scalar l)) limit)) (Err BadLimit)) (Err BadScalar)) (signed_scalar k k_sign) (signed_scalar l l_sign) limit
      go true true =
          subst (First (signed_scalar k k_sign) (signed_scalar l l_sign) limit) (plan_unsigned k k_sign l l_sign limit) (first_plan (signed_scalar k k_sign) (signed_scalar l l_sign) limit)
      go true false = tt
      go false b = tt

  pub choice_question_lem : choice_number (choice_answer limits k l limit) ≡ choice_question limits k l limit
  unfolding choice_answer
  choice_question_lem = go (sized limits k) (sized limits l) (is_limit limit)
    where
      go : (a b c : Bool)
          → choice_number (cond (a && b) (cond c (Ok (cheapest_plan (pos (scalar k)) (pos (scalar l)) limit)) (Err BadLimit)) (Err BadScalar)) ≡ cond a (cond b (cond c 0 4) 1) 1
      go true true true = refl
      go true true false = refl
      go true false c = refl
      go false b c = refl

  -- where all questions are met
  pub chosen : (sized limits k && sized limits l) ≡ true → is_limit limit ≡ true → {p : Plan} → p ≡ cheapest_plan (pos (scalar k)) (pos (scalar l)) limit
      → Ok p ≡ choice_answer limits k l limit
  unfolding choice_answer
  chosen e h g = ap (λ (q : Plan). Ok q) g ∙ sym (rw (e, h))

-- ── its sheet ───────────────────────────────────────────────────────────────────────────────

-- the cheapest sheet is what demand 3 asks for, under any limits that are enough
module _ (limits : Limits) (enough : Enough limits) where
  pub cheapest_sheet : (k l : ℤ) (limit : ℕ) → nat_abs k < 2 ^ bits limits → nat_abs l < 2 ^ bits limits
      → Cheapest limits (cheapest k l limit) k l limit (written_additions (cheapest_plan k l limit) k l)
  cheapest_sheet k l limit hk hl =
      let e = additions_of limits enough k l limit hk hl in
      let p = sym (cheapest_plan_lem limits enough k l limit hk hl) in
      record {
        planned = subst (First k l limit) p (first_plan k l limit);
        digits_are = cheapest_digits limits enough k l limit hk hl ∙ ap (λ (q : Plan). digits q k l) p;
        accepted = cheapest_accepted limits enough k l limit hk hl;
        within = cheapest_within limits enough k l limit hk hl;
        stated = cheapest_counted limits enough k l limit hk hl ∙ e;
        counted = e;
        doubled = cheapest_doubled limits enough k l limit hk hl ∙ ap (λ (q : Plan). written_doublings q k l) p;
        least = λ t a h. omega (arith, e, cheapest_is_least limits enough k l limit hk hl t a h);
      }

module _ (k : List ℕ) (k_sign : ℕ) (l : List ℕ) (l_sign : ℕ) where
  -- the two signed scalars
  abbrev x : ℤ
  x = signed_scalar k k_sign

  abbrev y : ℤ
  y = signed_scalar l l_sign

  answer : ℕ → Bool → Bool → Bool → Result Sheet Missed
  answer limit a b c = cond a (cond b (cond c (wrote (cheapest_plan x y limit) x y) (Err NoRoom)) (Err BadLimit)) (Err BadScalar)

  -- whatever is asked, the answer and the buffer keep the promise
  pub cheapest_promised : (limits : Limits) → Enough limits → (limit : ℕ) (buffer : List ℕ) → Bytes k → Bytes l
      → Promised limits (cheapest_answer limits k k_sign l l_sign limit (length buffer)) (cheapest_buffer limits k k_sign l l_sign limit buffer) x y limit
  unfolding cheapest_answer cheapest_buffer cheapest answer
  cheapest_promised limits enough limit buffer bk bl = go (sized limits k) (sized limits l) (is_limit limit) (roomy limits (length buffer)) refl refl
    where
      go : (a b c d : Bool) → sized limits k ≡ a → sized limits l ≡ b
          → Promised limits (answer limit (a && b) c d) (left (answer limit (a && b) c d) (cheapest x y limit) buffer) x y limit
      go false b c d e f = tt
      go true false c d e f = tt
      go true true false d e f = tt
      go true true true false e f = tt
      go true true true true e f =
          subst (λ (t : List ℕ). Cheapest limits t x y limit (written_additions (cheapest_plan x y limit) x y))
          (sym (take-append_seam (cheapest x y limit) (drop (length (cheapest x y limit)) buffer)))
          (cheapest_sheet limits enough x y limit (signed_bounded limits k k_sign bk e) (signed_bounded limits l l_sign bl f))

  -- the number of the answer is that of the first question missed
  pub cheapest_question_lem : (limits : Limits) (limit room : ℕ) → number (cheapest_answer limits k k_sign l l_sign limit room) ≡ cheapest_question limits k l limit room
  unfolding cheapest_answer answer
  cheapest_question_lem limits limit room = go (sized limits k) (sized limits l) (is_limit limit) (roomy limits room)
    where
      go : (a b c d : Bool) → number (answer limit (a && b) c d) ≡ cond a (cond b (cond c (cond d 0 3) 4) 1) 1
      go true true true true = refl
      go true true true false = refl
      go true true false d = refl
      go true false c d = refl
      go false b c d = refl

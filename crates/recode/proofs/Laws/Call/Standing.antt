-- What stands in the buffers after a row or joint call, whatever was asked: a row that keeps what is promised, as 01's does, or the joint
-- columns. From the promises of forms, and from what was written being read back.
use Rattle.std.specs.Prelude.{◌≡◌, refl, true, false, ◌&&◌, ℕ, ◌≤◌, max, length, ℤ, Err}
use Rattle.std.proofs.Common.{sym, ap, ap₂, subst, ◌∙◌, arith}
use Rattle.std.proofs.Math.Bool.{Bool, cond}
use mathlib.Core.List.{List}
use Rattle.digits.specs.Buffer.{row_below}
use Rattle.digits.proofs.Laws.Buffer.Read.{row_read, columns_read}
use Rattle.digits.specs.Column as Columns
use Rattle.digits.specs.declared.limits.Limits.{Limits}
use Rattle.digits.specs.Row.{is_window, value, weight}
use Rattle.digits.specs.Row.Window.{window_parts}
use Rattle.digits.specs.Scalar.{signed_scalar, sized}
use Rattle.digits.specs.Two.{Column, P, Q, two}
use Rattle.forms.specs.Joint.{Keeps, Topped, joint}
use Rattle.forms.proofs.Laws.Joint.Value.{joint_small}
use Rattle.forms.proofs.Laws.Promise.{row_meets, row_digits, row_value, row_top, row_length, row_fewest, joint_value, joint_keeps, joint_top, joint_length, joint_only, joint_fewest}
use Rattle.forms.specs.Row.{row}
use Rattle.digits.specs.declared.missed.Missed.TheVariants.{BadScalar, BadWindow, NoRoom}
use Rattle.recode.specs.Call.{
  Recoded,
  number,
  places_written,
  weight_written,
  wrote,
  wrote_row,
  wrote_columns,
  roomy,
  filled,
  left,
  row_question,
  answer_with,
  buffer_with,
  RowBy,
  PromisedBy,
  RowOf,
  joint_question,
  joint_answer,
  joint_buffer,
  JointOf,
  JointPromised,
}

-- ── a row ───────────────────────────────────────────────────────────────────────────────────

-- 01's row keeps what is promised
pub row_kept : (m : ℕ) (c : ℤ) → is_window m ≡ true → RowOf m c (weight (row m c)) (row m c)
row_kept m c e =
    let (odd, within) = window_parts m e in
    let h : 1 ≤ m = omega arith in
    record {
      rule = row_meets m c h;
      digits = row_digits m c h;
      reads = row_value m c h;
      top = row_top m c h;
      short = row_length m c h;
      counted = refl;
      fewest = λ es. row_fewest m c es h;
    }

-- the number of the answer is that of the first question missed
pub row_question_lem : (limits : Limits) (s : List ℕ) (m : ℕ) (ds : List ℤ) (places : ℕ) → number (answer_with limits s m ds places) ≡ row_question limits s m places
unfolding answer_with
row_question_lem limits s m ds places = go (sized limits s) (is_window m) (roomy (length s) places)
  where
    go : (a b c : Bool) → number (cond a (cond b (cond c (wrote_row ds) (Err NoRoom)) (Err BadWindow)) (Err BadScalar)) ≡ cond a (cond b (cond c 0 3) 2) 1
    go true true true = refl
    go true true false = refl
    go true false c = refl
    go false b c = refl

-- a row that keeps what is promised
module _ {R : List ℤ → Type 0} {m : ℕ} {c : ℤ} {ds : List ℤ} (kept : is_window m ≡ true → RowBy R m c (weight ds) ds) where
  row_stands : (buffer : List ℕ) → is_window m ≡ true → RowBy R m c (weight ds) (row_below (length ds) (filled ds buffer))
  row_stands buffer e =
      let (odd, within) = window_parts m e in
      subst (RowBy R m c (weight ds)) (sym (row_read _ (omega arith) (kept e).digits)) (kept e)

  -- the answer and the buffer keep the promise
  pub row_promised : (limits : Limits) (s buffer : List ℕ) → PromisedBy R m c (answer_with limits s m ds (length buffer)) (buffer_with limits s m ds buffer)
  unfolding answer_with buffer_with
  row_promised limits s buffer = go (sized limits s) (is_window m) (roomy (length s) (length buffer)) (row_stands buffer)
    where
      answer : Bool → Bool → Bool → Recoded
      answer a b c = cond a (cond b (cond c (wrote_row ds) (Err NoRoom)) (Err BadWindow)) (Err BadScalar)

      go : (a b d : Bool) → (b ≡ true → RowBy R m c (weight ds) (row_below (length ds) (filled ds buffer)))
          → PromisedBy R m c (answer a b d) (left (answer a b d) ds buffer)
      go true true true h = h refl
      go true true false h = tt
      go true false d h = tt
      go false b d h = tt

-- ── a joint form ────────────────────────────────────────────────────────────────────────────

joint_is : (k l : ℤ) → JointOf k l (Columns.weight two (joint k l)) (joint k l)
joint_is k l =
    record {
      keeps = joint_keeps k l;
      topped = joint_top k l;
      reads_k = (joint_value k l).0;
      reads_l = (joint_value k l).1;
      short = joint_length k l;
      only = λ ds keeps topped e f. joint_only ds keeps topped ∙ ap₂ joint e f;
      counted = refl;
      fewest = λ ds. joint_fewest k l ds;
    }

module _ (limits : Limits) (s : List ℕ) (s_sign : ℕ) (t : List ℕ) (t_sign : ℕ) where
  pub joint_question_lem : (places places' : ℕ) → number (joint_answer limits s s_sign t t_sign places places') ≡ joint_question limits s t places places'
  unfolding joint_answer
  joint_question_lem places places' =
      go (sized limits s) (sized limits t) (roomy (max (length s) (length t)) places) (roomy (max (length s) (length t)) places')
    where
      cs : List Column
      cs = joint (signed_scalar s s_sign) (signed_scalar t t_sign)

      go : (a b c d : Bool) → number (cond (a && b) (cond (c && d) (wrote_columns cs) (Err NoRoom)) (Err BadScalar)) ≡ cond a (cond b (cond c (cond d 0 3) 3) 1) 1
      go true true true true = refl
      go true true true false = refl
      go true true false d = refl
      go true false c d = refl
      go false b c d = refl

  pub joint_promised : (k l : List ℕ)
      → JointPromised (signed_scalar s s_sign) (signed_scalar t t_sign) (joint_answer limits s s_sign t t_sign (length k) (length l)) (joint_buffer limits P s s_sign t t_sign k l) (joint_buffer limits Q s s_sign t t_sign k l)
  unfolding joint_answer joint_buffer
  joint_promised k l =
      go (sized limits s && sized limits t) (roomy (max (length s) (length t)) (length k) && roomy (max (length s) (length t)) (length l))
    where
      cs : List Column
      cs = joint (signed_scalar s s_sign) (signed_scalar t t_sign)

      answer : Bool → Bool → Recoded
      answer a b = cond a (cond b (wrote_columns cs) (Err NoRoom)) (Err BadScalar)

      go : (a b : Bool)
          → JointPromised (signed_scalar s s_sign) (signed_scalar t t_sign) (answer a b) (left (answer a b) (Columns.row two P cs) k) (left (answer a b) (Columns.row two Q cs) l)
      go true true =
          subst (JointOf (signed_scalar s s_sign) (signed_scalar t t_sign) (Columns.weight two cs)) (sym (columns_read _ _ (joint_small (signed_scalar s s_sign) (signed_scalar t t_sign)))) (joint_is (signed_scalar s s_sign) (signed_scalar t t_sign))
      go true false = tt
      go false b = tt

written_parts : (a b : Bool) (m v n w : ℕ) → cond a (cond b (wrote m v) (Err NoRoom)) (Err BadScalar) ≡ wrote n w → (n ≡ m) × (w ≡ v)
written_parts true true m v n w e = (sym (ap places_written e), sym (ap weight_written e))
written_parts true false m v n w e = absurd (omega (arith, ap number e))
written_parts false b m v n w e = absurd (omega (arith, ap number e))

-- columns that keep the rules with a non-zero top are the ones that a joint call writes for their values
pub joint_only_written : (limits : Limits) (s : List ℕ) (s_sign : ℕ) (t : List ℕ) (t_sign : ℕ) (k l : List ℕ) (n w : ℕ) (cs : List Column) → Keeps cs → Topped cs
    → value (Columns.row two P cs) ≡ signed_scalar s s_sign → value (Columns.row two Q cs) ≡ signed_scalar t t_sign
    → joint_answer limits s s_sign t t_sign (length k) (length l) ≡ wrote n w
    → ((n ≡ length cs) × (w ≡ Columns.weight two cs))
    × ((joint_buffer limits P s s_sign t t_sign k l ≡ filled (Columns.row two P cs) k) × (joint_buffer limits Q s s_sign t t_sign k l ≡ filled (Columns.row two Q cs) l))
unfolding joint_answer joint_buffer
joint_only_written limits s s_sign t t_sign k l n w cs keeps topped u v e =
    let same = joint_only cs keeps topped ∙ ap₂ joint u v in
    let parts = written_parts (sized limits s && sized limits t) rooms (length (joint (signed_scalar s s_sign) (signed_scalar t t_sign))) (Columns.weight two (joint (signed_scalar s s_sign) (signed_scalar t t_sign))) n w e in (
      (parts.0 ∙ ap (λ (ds : List Column). length ds) (sym same), parts.1 ∙ ap (Columns.weight two) (sym same)),
      (
        ap (λ (a : Recoded). left a (Columns.row two P (joint (signed_scalar s s_sign) (signed_scalar t t_sign))) k) e ∙ ap (λ (ds : List Column). filled (Columns.row two P ds) k) (sym same),
        ap (λ (a : Recoded). left a (Columns.row two Q (joint (signed_scalar s s_sign) (signed_scalar t t_sign))) l) e ∙ ap (λ (ds : List Column). filled (Columns.row two Q ds) l) (sym same),
      ),
    )
  where
    rooms : Bool
    rooms = roomy (max (length s) (length t)) (length k) && roomy (max (length s) (length t)) (length l)

-- How long and how heavy what a call writes can be, whatever was asked: 8 places for each byte of the longest scalar and one more.
use Rattle.std.specs.Prelude.{◌≡◌, ◌&&◌, List, ℤ, Err}
use Rattle.std.proofs.Math.Path.{ap}
use Rattle.std.proofs.Math.Bool.{Bool, true, cond}
use Prim.Native.Nat.{ℕ, ◌+◌, ◌*◌, ◌≤◌, max}
use Rattle.std.proofs.Common.{arith}
use Rattle.std.proofs.Math.ListN.{length}
use Rattle.digits.specs.Column.Weight as Columns
use Rattle.digits.specs.declared.limits.Limits.{Limits}
use Rattle.digits.specs.Missed.{either_way}
use Rattle.digits.specs.Row.{is_window, weight}
use Rattle.digits.specs.Row.Weight as Rows
use Rattle.digits.specs.Scalar.{Bytes, signed_scalar, sized, bit_length}
use Rattle.digits.proofs.Laws.Scalar.Signed.{scalar_size}
use Rattle.digits.specs.Scalar.Sized.{both, some_bytes}
use Rattle.digits.specs.Scalar.Value.{length_bytes}
use Rattle.digits.specs.Two.{two}
use Rattle.forms.specs.Joint.{joint}
use Rattle.forms.proofs.Laws.Promise.{joint_length}
use Rattle.digits.specs.declared.missed.Missed.TheVariants.{BadScalar, BadWindow, NoRoom}
use Rattle.recode.specs.Call.{Recoded, wrote_row, wrote_columns, roomy, answer_with, row_answer, RowBy, joint_answer}
use Rattle.recode.proofs.Laws.Call.Standing.{row_kept}
use Rattle.recode.specs.Call.Short.{Short}

module _ (limits : Limits) where
  abbrev most : ℕ
  most = 8 * limits.bytes + 1

  -- a row that keeps what is promised
  pub answer_short : {R : List ℤ → Type 0} {m : ℕ} {ds : List ℤ} (s : List ℕ) (sign places : ℕ) → (is_window m ≡ true → RowBy R m (signed_scalar s sign) (weight ds) ds)
      → Bytes s → Short most (answer_with limits s m ds places)
  unfolding answer_with
  answer_short {R} {m} {ds} s sign places kept bytes =
      let written : Recoded = wrote_row ds in
      let room : Bool = roomy (length s) places in
      let asked : Recoded = cond room written (Err NoRoom) in
      either_way (Short most) (sized limits s) (cond (is_window m) asked (Err BadWindow)) (Err BadScalar)
      (λ e. either_way (Short most) (is_window m) asked (Err BadWindow)
      (λ w. either_way (Short most) room written (Err NoRoom)
      (λ _. record { length_most = few e (kept w); weight_most = Rows.weight_most ds }) (omega arith)) (omega arith)) (omega arith)
    where
      few : sized limits s ≡ true → RowBy R m (signed_scalar s sign) (weight ds) ds → length ds ≤ most
      few e k = omega (arith, k.short, ap bit_length (scalar_size s sign), length_bytes s bytes, (some_bytes limits s e).1)

  -- 01's
  pub row_short : (s : List ℕ) (sign m places : ℕ) → Bytes s → Short most (row_answer limits s sign m places)
  row_short s sign m places = answer_short s sign places (row_kept m (signed_scalar s sign))

  joint_places : (s : List ℕ) (s_sign : ℕ) (t : List ℕ) (t_sign : ℕ) → Bytes s → Bytes t → (sized limits s && sized limits t) ≡ true → length (joint (signed_scalar s s_sign) (signed_scalar t t_sign)) ≤ most
  joint_places s s_sign t t_sign s_bytes t_bytes e =
      let (a, b) = both (sized limits s) (sized limits t) e in
      omega (
        arith,
        joint_length (signed_scalar s s_sign) (signed_scalar t t_sign),
        ap bit_length (scalar_size s s_sign),
        ap bit_length (scalar_size t t_sign),
        length_bytes s s_bytes,
        length_bytes t t_bytes,
        (some_bytes limits s a).1,
        (some_bytes limits t b).1,
      )

  -- a joint form
  pub joint_short : (s : List ℕ) (s_sign : ℕ) (t : List ℕ) (t_sign : ℕ) (places places' : ℕ) → Bytes s → Bytes t → Short most (joint_answer limits s s_sign t t_sign places places')
  unfolding joint_answer
  joint_short s s_sign t t_sign places places' s_bytes t_bytes =
      let longer : ℕ = max (length s) (length t) in
      let room : Bool = roomy longer places && roomy longer places' in
      let written : Recoded = wrote_columns (joint (signed_scalar s s_sign) (signed_scalar t t_sign)) in
      either_way (Short most) (sized limits s && sized limits t) (cond room written (Err NoRoom)) (Err BadScalar)
      (λ e. either_way (Short most) room written (Err NoRoom)
      (λ _. record { length_most = joint_places s s_sign t t_sign s_bytes t_bytes e; weight_most = Columns.weight_most two (joint (signed_scalar s s_sign) (signed_scalar t t_sign)) }) (omega arith)) (omega arith)

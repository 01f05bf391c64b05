-- What a call for a sheet promises where it answers that it has written one: the buffer's bytes up to the length returned are a
-- sheet that is accepted for the two scalars under the limits of the call, which must be enough for them, and the additions returned are that sheet's.
use Rattle.std.specs.Prelude.{◌≡◌, List, ℕ, length, take}
use Rattle.std.proofs.Common.{subst}
use Rattle.digits.specs.declared.limits.Limits.{Limits}
use Rattle.digits.specs.Scalar.{Bytes, signed_scalar}
use Rattle.digits.specs.Two.{paired}
use Rattle.down.specs.Down.{down}
use Rattle.sheet.specs.Digits.{columns}
use Rattle.sheet.specs.Spelling.{lines}
use Rattle.sheet.specs.declared.Plan.TheVariants.{J, I}
use Rattle.written.specs.Enough.{Enough}
use Rattle.writer.specs.Call.{SheetAnswer, wrote_size, additions, Promised, SheetPromised, j_answer, j_buffer, i_answer, i_buffer, i_down_answer, i_down_buffer}
use Rattle.writer.proofs.Laws.Call.Kept as Kept
use Rattle.writer.specs.Call.Kept.{Columned}
use Rattle.writer.proofs.Laws.Call.Kept.{j_promised, i_promised, i_down_promised, i_down_stand}

module _ (limits : Limits) (enough : Enough limits) (k : List ℕ) (k_sign : ℕ) (l : List ℕ) (l_sign : ℕ) (buffer : List ℕ) (n a : ℕ) (k_bytes : Bytes k) (l_bytes : Bytes l) where
  -- plan J
  pub j_promise : j_answer limits k k_sign l l_sign (length buffer) ≡ wrote_size n a
      → Promised limits J (signed_scalar k k_sign) (signed_scalar l l_sign) a (take n (j_buffer limits k k_sign l l_sign buffer))
  j_promise e =
      subst (λ (x : SheetAnswer). SheetPromised limits J (signed_scalar k k_sign) (signed_scalar l l_sign) x (j_buffer limits k k_sign l l_sign buffer)) e
      (j_promised limits enough k k_sign l l_sign buffer k_bytes l_bytes)

  -- plan I
  pub i_promise : (m1 m2 : ℕ) → i_answer limits k k_sign l l_sign m1 m2 (length buffer) ≡ wrote_size n a
      → Promised limits (I m1 m2) (signed_scalar k k_sign) (signed_scalar l l_sign) a (take n (i_buffer limits k k_sign l l_sign m1 m2 buffer))
  i_promise m1 m2 e =
      subst (λ (x : SheetAnswer). SheetPromised limits (I m1 m2) (signed_scalar k k_sign) (signed_scalar l l_sign) x (i_buffer limits k k_sign l l_sign m1 m2 buffer)) e
      (i_promised limits enough k k_sign l l_sign buffer k_bytes l_bytes m1 m2)

  -- plan I from rows that are worked out from the top down
  pub i_down_promise : (m1 m2 : ℕ) → i_down_answer limits k k_sign l l_sign m1 m2 (length buffer) ≡ wrote_size n a
      → Promised limits (I m1 m2) (signed_scalar k k_sign) (signed_scalar l l_sign) a (take n (i_down_buffer limits k k_sign l l_sign m1 m2 buffer))
  i_down_promise m1 m2 e =
      subst (λ (x : SheetAnswer). SheetPromised limits (I m1 m2) (signed_scalar k k_sign) (signed_scalar l l_sign) x (i_down_buffer limits k k_sign l l_sign m1 m2 buffer)) e
      (i_down_promised limits enough k k_sign l l_sign buffer k_bytes l_bytes m1 m2)

  -- its digits are those rows
  pub i_down_digits : (m1 m2 : ℕ) → i_down_answer limits k k_sign l l_sign m1 m2 (length buffer) ≡ wrote_size n a
      → columns (lines limits (take n (i_down_buffer limits k k_sign l l_sign m1 m2 buffer))) ≡ paired (down m1 (signed_scalar k k_sign)) (down m2 (signed_scalar l l_sign))
  i_down_digits m1 m2 e =
      subst (λ (x : SheetAnswer). Columned limits (paired (down m1 (signed_scalar k k_sign)) (down m2 (signed_scalar l l_sign))) x (i_down_buffer limits k k_sign l l_sign m1 m2 buffer)) e
      (i_down_stand limits enough k k_sign l l_sign buffer k_bytes l_bytes m1 m2)

-- it has as many additions as plan I from 01's rows, for the same windows, whatever was asked
pub i_down_additions : (limits : Limits) (k : List ℕ) (k_sign : ℕ) (l : List ℕ) (l_sign m1 m2 room : ℕ)
    → additions (i_down_answer limits k k_sign l l_sign m1 m2 room) ≡ additions (i_answer limits k k_sign l l_sign m1 m2 room)
i_down_additions = Kept.i_down_additions

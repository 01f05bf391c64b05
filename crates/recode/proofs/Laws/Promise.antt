-- What the row and joint calls promise of the bytes they write: the digits that stand at the places below the length returned, as many
-- of them not zero as the weight returned.
use Rattle.std.specs.Prelude.{◌≡◌, true, List, ℕ, ℤ, length}
use Rattle.std.proofs.Common.{subst}
use Rattle.digits.specs.Buffer.{row_below, columns_below}
use Rattle.digits.specs.Column as Columns
use Rattle.digits.specs.declared.limits.Limits.{Limits}
use Rattle.digits.specs.Row.{is_window, value, weight}
use Rattle.digits.specs.Scalar.{signed_scalar}
use Rattle.digits.specs.Two.{Column, P, Q, two}
use Rattle.forms.specs.Joint.{Keeps, Topped}
use Rattle.recode.specs.Call.{Recoded, wrote, filled, answer_with, buffer_with, row_answer, row_buffer, RowBy, PromisedBy, RowOf, joint_answer, joint_buffer, JointOf, JointPromised}
use Rattle.recode.proofs.Laws.Call.Standing as Standing
use Rattle.recode.proofs.Laws.Call.Standing.{row_kept, row_promised, joint_promised}

-- the row that a call writes keeps what is promised of it
pub answer_written : {R : List ℤ → Type 0} {m : ℕ} {c : ℤ} {ds : List ℤ} → (is_window m ≡ true → RowBy R m c (weight ds) ds)
    → (limits : Limits) (s buffer : List ℕ) (n w : ℕ) → answer_with limits s m ds (length buffer) ≡ wrote n w → RowBy R m c w (row_below n (buffer_with limits s m ds buffer))
answer_written {R} {m} {c} {ds} kept limits s buffer n w e =
    subst (λ (a : Recoded). PromisedBy R m c a (buffer_with limits s m ds buffer)) e (row_promised kept limits s buffer)

-- 01's row of the scalar with its sign
pub row_written : (limits : Limits) (s : List ℕ) (sign m : ℕ) (buffer : List ℕ) (n w : ℕ) → row_answer limits s sign m (length buffer) ≡ wrote n w
    → RowOf m (signed_scalar s sign) w (row_below n (row_buffer limits s sign m buffer))
row_written limits s sign m buffer = answer_written (row_kept m (signed_scalar s sign)) limits s buffer

-- the columns that a call writes are the joint columns of the two scalars with their signs, and the only ones
pub joint_written : (limits : Limits) (s : List ℕ) (s_sign : ℕ) (t : List ℕ) (t_sign : ℕ) (k l : List ℕ) (n w : ℕ) → joint_answer limits s s_sign t t_sign (length k) (length l) ≡ wrote n w
    → JointOf (signed_scalar s s_sign) (signed_scalar t t_sign) w (columns_below n (joint_buffer limits P s s_sign t t_sign k l) (joint_buffer limits Q s s_sign t t_sign k l))
joint_written limits s s_sign t t_sign k l n w e =
    subst (λ (a : Recoded). JointPromised (signed_scalar s s_sign) (signed_scalar t t_sign) a (joint_buffer limits P s s_sign t t_sign k l) (joint_buffer limits Q s s_sign t t_sign k l)) e (joint_promised limits s s_sign t t_sign k l)

-- and a list that keeps the rules with a non-zero top is the one that a call writes for its values
pub joint_only : (limits : Limits) (s : List ℕ) (s_sign : ℕ) (t : List ℕ) (t_sign : ℕ) (k l : List ℕ) (n w : ℕ) (cs : List Column) → Keeps cs → Topped cs
    → value (Columns.row two P cs) ≡ signed_scalar s s_sign → value (Columns.row two Q cs) ≡ signed_scalar t t_sign
    → joint_answer limits s s_sign t t_sign (length k) (length l) ≡ wrote n w
    → ((n ≡ length cs) × (w ≡ Columns.weight two cs))
    × ((joint_buffer limits P s s_sign t t_sign k l ≡ filled (Columns.row two P cs) k) × (joint_buffer limits Q s s_sign t t_sign k l ≡ filled (Columns.row two Q cs) l))
joint_only = Standing.joint_only_written

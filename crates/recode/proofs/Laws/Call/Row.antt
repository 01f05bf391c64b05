-- What a row call returns and leaves, by the first question missed, and where all are met: for every row that keeps what is promised, as
-- 01's does.
use Rattle.std.specs.Prelude.{◌≡◌, refl, true, false, List, ℕ, ◌+◌, ◌*◌, ◌≤◌, ◌<◌, ℤ, Err}
use Rattle.std.proofs.Math.Path.{subst}
use borrow.Author.Tests.{le-leb, lt-leb}
use Rattle.std.proofs.Math.ListN.{length}
use Rattle.digits.specs.declared.limits.Limits.{Limits}
use Rattle.digits.specs.Row.{is_window, weight}
use Rattle.digits.specs.Scalar.{sized}
use Rattle.digits.specs.declared.missed.Missed.TheVariants.{BadScalar, BadWindow, NoRoom}
use Rattle.recode.specs.Call.{Recoded, wrote_row, answer_with, buffer_with, RowBy, left, filled}
use Rattle.recode.proofs.Laws.Call.Standing.{row_question_lem, row_promised}
use Rattle.recode.specs.Call.Row.{ReturnedBy}

module _ {R : List ℤ → Type 0} {m : ℕ} {c : ℤ} {ds : List ℤ} (kept : is_window m ≡ true → RowBy R m c (weight ds) ds) (limits : Limits) (s buffer : List ℕ) where
  returned : (a : Recoded) → answer_with limits s m ds (length buffer) ≡ a → ReturnedBy R c ds limits s m buffer a (left a ds buffer)
  unfolding buffer_with
  returned a e =
      subst (λ (x : Recoded). ReturnedBy R c ds limits s m buffer x (left x ds buffer)) e
      (refl, (refl, (row_promised kept limits s buffer, row_question_lem limits s m ds (length buffer))))

  pub bad_scalar : sized limits s ≡ false → ReturnedBy R c ds limits s m buffer (Err BadScalar) buffer
  unfolding answer_with
  bad_scalar e = returned (Err BadScalar) (rw e)

  module _ (size : sized limits s ≡ true) where
    pub bad_window : is_window m ≡ false → ReturnedBy R c ds limits s m buffer (Err BadWindow) buffer
    unfolding answer_with
    bad_window e = returned (Err BadWindow) (rw (size, e))

    module _ (window : is_window m ≡ true) where
      pub no_room : length buffer < 8 * length s + 1 → ReturnedBy R c ds limits s m buffer (Err NoRoom) buffer
      unfolding answer_with
      no_room h = returned (Err NoRoom) (rw (size, window, lt-leb (8 * length s + 1) (length buffer) h))

      pub written : (a : Recoded) (out : List ℕ) → 8 * length s + 1 ≤ length buffer → a ≡ wrote_row ds → out ≡ filled ds buffer → ReturnedBy R c ds limits s m buffer a out
      unfolding answer_with
      written a out h e f =
          rw (e, f) (returned (wrote_row ds) (rw (size, window, le-leb (8 * length s + 1) (length buffer) h)))

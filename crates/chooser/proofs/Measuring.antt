-- What the row and joint calls answer where the chooser asks them: the size of 01's row, and of the joint form, which fits the numbers it
-- is kept in.
use Rattle.std.specs.Prelude.{max}
use Rattle.std.proofs.Common.{◌≡◌, refl, ap, ◌∙◌, ℕ, List, ◌+◌, ◌*◌, ◌%◌, ◌≤◌, arith, le-leb, pos, length}
use Rattle.digits.specs.Limits.{gateway}
use Rattle.digits.specs.Scalar.{Bytes, scalar, signed_scalar}
use Rattle.digits.specs.Scalar.Sized.{bytes_sized}
use Rattle.forms.specs.Joint.{joint}
use Rattle.forms.specs.Row.{row}
use Rattle.recode.specs.Call.{Recoded, places_written, weight_written, answer_with, row_answer, joint_answer}
use Rattle.recode.proofs.Laws.Call.Short.{row_short, joint_short}
use Rattle.sheet.specs.Questions.Planned.{of_window}
use Rattle.chooser.specs.Body.Sizes.{Fit, size_told, row_of, columns_of}

-- the size of a row
module _ (s : List ℕ) (m : ℕ) (buffer : List ℕ) {r : Recoded} (answer : r ≡ row_answer gateway s 0 m (length buffer)) where
  pub row_fits : Bytes s → Fit r
  row_fits b =
      let h = row_short gateway s 0 m (length buffer) b in
      record {
        places_fit = omega (arith, ap places_written answer, h.length_most);
        weight_fits = omega (arith, ap weight_written answer, h.length_most, h.weight_most);
      }

  pub row_measured : 1 ≤ length s → length s ≤ gateway.bytes → m % 2 ≡ 1 → m ≤ 31 → 8 * length s + 1 ≤ length buffer → size_told r ≡ row_of (row m (pos (scalar s)))
  unfolding signed_scalar answer_with
  row_measured h l o t room =
      ap size_told answer ∙ rw (bytes_sized gateway s (h, l), of_window (record { odd = o; within = t }), le-leb (8 * length s + 1) (length buffer) room) refl

-- the size of a joint form
module _ (s t k l : List ℕ) {r : Recoded} (answer : r ≡ joint_answer gateway s 0 t 0 (length k) (length l)) where
  pub joint_fits : Bytes s → Bytes t → Fit r
  joint_fits b c =
      let h = joint_short gateway s 0 t 0 (length k) (length l) b c in
      record {
        places_fit = omega (arith, ap places_written answer, h.length_most);
        weight_fits = omega (arith, ap weight_written answer, h.length_most, h.weight_most);
      }

  pub joint_measured : 1 ≤ length s → length s ≤ gateway.bytes → 1 ≤ length t → length t ≤ gateway.bytes → 1025 ≤ length k → 1025 ≤ length l
      → size_told r ≡ columns_of (joint (pos (scalar s)) (pos (scalar t)))
  unfolding signed_scalar joint_answer
  joint_measured h g i j x y =
      let longer : ℕ = max (length s) (length t) in
      ap size_told answer
      ∙ rw (bytes_sized gateway s (h, g), bytes_sized gateway t (i, j), le-leb (8 * longer + 1) (length k) (omega arith), le-leb (8 * longer + 1) (length l) (omega arith)) refl

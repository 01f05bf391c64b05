-- What the calls for a sheet return and leave where all questions are met; for plan I from any columns that make the scalars.
use mathlib.Core.Path.{◌≡◌, refl, subst}
use mathlib.Core.Bool.{true, ◌&&◌}
use mathlib.Core.List.{List, ◌++◌}
use Prim.Native.Nat.{ℕ, ◌+◌, ◌*◌, ◌≤◌, max}
use native.Mathlib.Nat.{le_trans}
use lib.ListN.{length, drop}
use native.Mathlib.Omega.{arith}
use borrow.Author.Tests.{leb-true}
use Rattle.digits.specs.declared.limits.Limits.{Limits}
use Rattle.digits.specs.Limits.{gateway, bits}
use Rattle.digits.specs.Row.{is_window}
use Rattle.digits.specs.Scalar.{Bytes, signed_scalar, sized}
use Rattle.digits.proofs.Laws.Scalar.Signed.{signed_bounded}
use Rattle.digits.specs.Scalar.Sized.{both, both_sized, some_bytes, sized_wider}
use Rattle.digits.specs.Two.{Column}
use Rattle.sheet.specs.declared.Plan.{Plan}
use Rattle.sheet.specs.declared.Plan.TheVariants.{J, I}
use Rattle.written.specs.Enough.{Enough}
use Rattle.written.specs.Makes.{Makes}
use Rattle.written.proofs.Laws.Promise.{sheet_fits}
use Rattle.written.specs.Valid.{Valid}
use Rattle.written.specs.Written.{sheet_of, written}
use Rattle.writer.specs.Body.Parts.{Served}
use Rattle.writer.specs.Call.{SheetAnswer, roomy, number, wrote_columns, wrote, left, SheetPromised, j_question, j_answer, j_buffer, i_question, columns_answer, columns_buffer}
use Rattle.writer.proofs.Laws.Call.Kept.{j_promised, columns_promised, j_question_lem, columns_question}

-- what the writer is asked for where all questions are met: scalars that are not too wide, rows with their places, and room for the sheet
module _ {limits : Limits} {p q : ℕ} (served : Served limits p q) (k l : List ℕ) (sizes : (sized limits k && sized limits l) ≡ true) where
  pub wide : (sized gateway k && sized gateway l) ≡ true
  wide =
      let (a, b) = both (sized limits k) (sized limits l) sizes in
      both_sized gateway k l (sized_wider limits gateway k served.narrow a) (sized_wider limits gateway l served.narrow b)

  pub rooms : (8 * max (length k) (length l) + 1 ≤ p) × (8 * max (length k) (length l) + 1 ≤ q)
  rooms =
      let (a, b) = both (sized limits k) (sized limits l) sizes in
      let m : 8 * max (length k) (length l) ≤ bits limits = omega (arith, (some_bytes limits k a).1, (some_bytes limits l b).1) in
      (omega (arith, served.p_room), omega (arith, served.q_room))

  pub fits : {plan : Plan} {cs : List Column} (k_sign l_sign : ℕ) → Valid plan → Makes plan (signed_scalar k k_sign) (signed_scalar l l_sign) cs → Bytes k → Bytes l → {room : ℕ} → roomy limits room ≡ true
      → length (sheet_of plan cs (signed_scalar k k_sign) (signed_scalar l l_sign)) ≤ room
  fits {plan} {cs} k_sign l_sign v makes k_bytes l_bytes h =
      let (a, b) = both (sized limits k) (sized limits l) sizes in
      le_trans
      (sheet_fits limits served.enough plan cs (signed_scalar k k_sign) (signed_scalar l l_sign) v makes (signed_bounded limits k k_sign k_bytes a) (signed_bounded limits l l_sign l_bytes b))
      (leb-true limits.sheet _ h)

module _ (limits : Limits) (k : List ℕ) (k_sign : ℕ) (l : List ℕ) (l_sign : ℕ) (buffer : List ℕ) where
  -- the contract of the call for plan J, where its answer is a and it leaves `out`
  abbrev pub ReturnedJ : SheetAnswer → List ℕ → Type 0
  ReturnedJ a out =
      (a ≡ j_answer limits k k_sign l l_sign (length buffer))
      × ((out ≡ j_buffer limits k k_sign l l_sign buffer)
      × (SheetPromised limits J (signed_scalar k k_sign) (signed_scalar l l_sign) a out × (number a ≡ j_question limits k l (length buffer))))

  -- and of a call for plan I that takes the columns cs
  abbrev pub ReturnedI : ℕ → ℕ → List Column → SheetAnswer → List ℕ → Type 0
  ReturnedI m1 m2 cs a out =
      (a ≡ columns_answer limits k k_sign l l_sign m1 m2 cs (length buffer))
      × ((out ≡ columns_buffer limits k k_sign l l_sign m1 m2 cs buffer)
      × (SheetPromised limits (I m1 m2) (signed_scalar k k_sign) (signed_scalar l l_sign) a out × (number a ≡ i_question limits k l m1 m2 (length buffer))))

module _ (limits : Limits) (enough : Enough limits) (k : List ℕ) (k_sign : ℕ) (l : List ℕ) (l_sign : ℕ) (buffer : List ℕ) (k_bytes : Bytes k) (l_bytes : Bytes l) where
  returned_j : (a : SheetAnswer) → j_answer limits k k_sign l l_sign (length buffer) ≡ a → ReturnedJ limits k k_sign l l_sign buffer a (left a (written J (signed_scalar k k_sign) (signed_scalar l l_sign)) buffer)
  unfolding j_buffer
  returned_j a e =
      subst (λ (x : SheetAnswer). ReturnedJ limits k k_sign l l_sign buffer x (left x (written J (signed_scalar k k_sign) (signed_scalar l l_sign)) buffer)) e
      (refl, (refl, (j_promised limits enough k k_sign l l_sign buffer k_bytes l_bytes, j_question_lem k k_sign l l_sign limits (length buffer))))

  module _ (sizes : (sized limits k && sized limits l) ≡ true) where
    pub j_written : {a : SheetAnswer} {out : List ℕ} → roomy limits (length buffer) ≡ true → a ≡ wrote J (signed_scalar k k_sign) (signed_scalar l l_sign)
        → out ≡ written J (signed_scalar k k_sign) (signed_scalar l l_sign) ++ drop (length (written J (signed_scalar k k_sign) (signed_scalar l l_sign))) buffer → ReturnedJ limits k k_sign l l_sign buffer a out
    unfolding j_answer
    j_written h e f = rw (e, f) (returned_j (wrote J (signed_scalar k k_sign) (signed_scalar l l_sign)) (rw (sizes, h)))

  -- plan I, from columns that make the scalars where the windows are good ones
  module _ (m1 m2 : ℕ) (cs : List Column) (makes : (is_window m1 && is_window m2) ≡ true → Makes (I m1 m2) (signed_scalar k k_sign) (signed_scalar l l_sign) cs) where
    returned_i : (a : SheetAnswer) → columns_answer limits k k_sign l l_sign m1 m2 cs (length buffer) ≡ a
        → ReturnedI limits k k_sign l l_sign buffer m1 m2 cs a (left a (sheet_of (I m1 m2) cs (signed_scalar k k_sign) (signed_scalar l l_sign)) buffer)
    returned_i a e =
        subst (λ (x : SheetAnswer). ReturnedI limits k k_sign l l_sign buffer m1 m2 cs x (left x (sheet_of (I m1 m2) cs (signed_scalar k k_sign) (signed_scalar l l_sign)) buffer)) e
        (refl, (refl, (columns_promised limits enough k k_sign l l_sign buffer k_bytes l_bytes m1 m2 cs makes, columns_question k k_sign l l_sign limits m1 m2 cs (length buffer))))

    module _ (sizes : (sized limits k && sized limits l) ≡ true) where
      module _ (windows : (is_window m1 && is_window m2) ≡ true) where
        pub i_written : {a : SheetAnswer} {out : List ℕ} → roomy limits (length buffer) ≡ true → a ≡ wrote_columns (I m1 m2) cs (signed_scalar k k_sign) (signed_scalar l l_sign)
            → out ≡ sheet_of (I m1 m2) cs (signed_scalar k k_sign) (signed_scalar l l_sign) ++ drop (length (sheet_of (I m1 m2) cs (signed_scalar k k_sign) (signed_scalar l l_sign))) buffer → ReturnedI limits k k_sign l l_sign buffer m1 m2 cs a out
        i_written h e f = rw (e, f) (returned_i (wrote_columns (I m1 m2) cs (signed_scalar k k_sign) (signed_scalar l l_sign)) (rw (sizes, windows, h)))

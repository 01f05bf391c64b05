-- What the calls for a sheet answer and leave keeps the promise under limits that are enough, whatever was asked, and the answer's number is that of the first question
-- missed; for plan I from any columns that make the scalars. From the laws of the sheet of columns.
use Rattle.std.specs.Prelude.{◌≡◌, ◌&&◌, ℕ, ◌^◌, ◌<◌, ℤ, nat_abs, length, drop, Err}
use Rattle.std.proofs.Math.Path.{refl, subst}
use Rattle.std.proofs.Common.{sym, ap, ◌∙◌}
use Rattle.std.proofs.Math.Bool.{Bool, true, false, cond}
use mathlib.Core.List.{List}
use Rattle.std.proofs.Math.Seq.{take-append_seam}
use Rattle.digits.proofs.Laws.Scalar.Signed.{signed_bounded}
use Rattle.digits.specs.Scalar.Sized.{both}
use Rattle.digits.specs.declared.limits.Limits.{Limits}
use Rattle.digits.specs.Limits.{bits}
use Rattle.digits.specs.Row.{is_window}
use Rattle.digits.specs.Scalar.{Bytes, signed_scalar, sized}
use Rattle.digits.specs.Two.{Column, paired}
use Rattle.down.specs.Down.{down}
use Rattle.sheet.specs.Digits.{columns}
use Rattle.sheet.specs.Spelling.{lines}
use Rattle.sheet.specs.declared.Plan.{Plan}
use Rattle.sheet.specs.declared.Plan.TheVariants.{J, I}
use Rattle.written.specs.Enough.{Enough}
use Rattle.written.specs.Makes.{Makes}
use Rattle.written.proofs.Laws.Promise.{sheet_accepted, sheet_slots_lem, sheet_counted, sheet_lines, sheet_columns}
use Rattle.written.specs.Valid.{Valid, for_j}
use Rattle.written.specs.Written.{digits, sheet_of, additions_of}
use Rattle.written.specs.Written.Columns.{digits_make}
use Rattle.digits.specs.declared.missed.Missed.TheVariants.{BadScalar, BadWindow, NoRoom}
use Rattle.writer.specs.Call.{SheetAnswer, number, additions, roomy, wrote_columns, wrote, left, Promised, SheetPromised, j_question, j_answer, j_buffer, i_question, columns_answer, columns_buffer, i_answer, i_buffer, i_down_answer, i_down_buffer}
use Rattle.writer.specs.Rows.{Up, Down, columns_by}
use Rattle.writer.proofs.Laws.Rows.Made.{columns_make, columns_cost}
use Rattle.writer.specs.Call.Met.{windows_valid}
use Rattle.writer.specs.Call.Kept.{Columned}

module _ (limits : Limits) (enough : Enough limits) where
  -- both numbers have no more bits than the limits allow
  abbrev Small : ℤ → ℤ → Type 0
  Small k l = (nat_abs k < 2 ^ bits limits) × (nat_abs l < 2 ^ bits limits)

  module _ (p : Plan) (cs : List Column) (k l : ℤ) (buffer : List ℕ) where
    -- the answer by room alone
    roomed : Bool → SheetAnswer
    roomed c = cond c (wrote_columns p cs k l) (Err NoRoom)

    room_promised : (c : Bool) → Valid p → Makes p k l cs → Small k l → SheetPromised limits p k l (roomed c) (left (roomed c) (sheet_of p cs k l) buffer)
    unfolding roomed
    room_promised true v makes (hk, hl) =
        subst (Promised limits p k l _) (sym (take-append_seam (sheet_of p cs k l) (drop (length (sheet_of p cs k l)) buffer)))
        (record {
          accepted = sheet_accepted limits enough p cs k l v makes hk hl;
          additions_are = sheet_counted limits enough p cs k l v makes hk hl;
          slots_are = sheet_slots_lem limits enough p cs k l v makes hk hl;
        })
    room_promised false v makes h = tt

  module _ (k : List ℕ) (k_sign : ℕ) (l : List ℕ) (l_sign : ℕ) (buffer : List ℕ) (k_bytes : Bytes k) (l_bytes : Bytes l) where
    -- the two signed scalars
    abbrev x : ℤ
    x = signed_scalar k k_sign

    abbrev y : ℤ
    y = signed_scalar l l_sign

    small : (sized limits k && sized limits l) ≡ true → Small x y
    small e =
        let (a, b) = both (sized limits k) (sized limits l) e in
        (signed_bounded limits k k_sign k_bytes a, signed_bounded limits l l_sign l_bytes b)

    -- plan J
    pub j_promised : SheetPromised limits J x y (j_answer limits k k_sign l l_sign (length buffer)) (j_buffer limits k k_sign l l_sign buffer)
    unfolding j_answer j_buffer roomed
    j_promised = go (sized limits k && sized limits l) small
      where
        cs : List Column
        cs = digits J x y

        answer : Bool → SheetAnswer
        answer a = cond a (roomed J cs x y buffer (roomy limits (length buffer))) (Err BadScalar)

        go : (a : Bool) → (a ≡ true → Small x y) → SheetPromised limits J x y (answer a) (left (answer a) (sheet_of J cs x y) buffer)
        go true h = room_promised J cs x y buffer (roomy limits (length buffer)) for_j (digits_make x y for_j) (h refl)
        go false h = tt

    -- plan I, from columns that make the scalars where the windows are good ones
    pub columns_promised : (m1 m2 : ℕ) (cs : List Column) → ((is_window m1 && is_window m2) ≡ true → Makes (I m1 m2) x y cs)
        → SheetPromised limits (I m1 m2) x y (columns_answer limits k k_sign l l_sign m1 m2 cs (length buffer)) (columns_buffer limits k k_sign l l_sign m1 m2 cs buffer)
    unfolding roomed
    columns_promised m1 m2 cs makes = go (sized limits k && sized limits l) (is_window m1 && is_window m2) small (windows_valid m1 m2) makes
      where
        answer : Bool → Bool → SheetAnswer
        answer a b = cond a (cond b (roomed (I m1 m2) cs x y buffer (roomy limits (length buffer))) (Err BadWindow)) (Err BadScalar)

        go : (a b : Bool) → (a ≡ true → Small x y) → (b ≡ true → Valid (I m1 m2)) → (b ≡ true → Makes (I m1 m2) x y cs)
            → SheetPromised limits (I m1 m2) x y (answer a b) (left (answer a b) (sheet_of (I m1 m2) cs x y) buffer)
        go true true h v makes = room_promised (I m1 m2) cs x y buffer (roomy limits (length buffer)) (v refl) (makes refl) (h refl)
        go true false h v makes = tt
        go false b h v makes = tt

    -- the columns of that sheet are these
    pub columns_stand : (m1 m2 : ℕ) (cs : List Column) → ((is_window m1 && is_window m2) ≡ true → Makes (I m1 m2) x y cs)
        → Columned limits cs (columns_answer limits k k_sign l l_sign m1 m2 cs (length buffer)) (columns_buffer limits k k_sign l l_sign m1 m2 cs buffer)
    columns_stand m1 m2 cs makes = go (sized limits k && sized limits l) (is_window m1 && is_window m2) (roomy limits (length buffer)) small (windows_valid m1 m2) makes
      where
        answer : Bool → Bool → Bool → SheetAnswer
        answer a b c = cond a (cond b (cond c (wrote_columns (I m1 m2) cs x y) (Err NoRoom)) (Err BadWindow)) (Err BadScalar)

        go : (a b c : Bool) → (a ≡ true → Small x y) → (b ≡ true → Valid (I m1 m2)) → (b ≡ true → Makes (I m1 m2) x y cs)
            → Columned limits cs (answer a b c) (left (answer a b c) (sheet_of (I m1 m2) cs x y) buffer)
        go true true true h v makes =
            let (hk, hl) = h refl in
            ap (λ (s : List ℕ). columns (lines limits s)) (take-append_seam (sheet_of (I m1 m2) cs x y) (drop (length (sheet_of (I m1 m2) cs x y)) buffer))
            ∙ ap columns (sheet_lines limits enough (I m1 m2) cs x y (v refl) (makes refl) hk hl)
            ∙ sheet_columns (I m1 m2) cs x y (makes refl)
        go true true false h v makes = tt
        go true false c h v makes = tt
        go false b c h v makes = tt

    -- from the plan's digits
    pub i_promised : (m1 m2 : ℕ) → SheetPromised limits (I m1 m2) x y (i_answer limits k k_sign l l_sign m1 m2 (length buffer)) (i_buffer limits k k_sign l l_sign m1 m2 buffer)
    unfolding i_answer i_buffer
    i_promised m1 m2 = columns_promised m1 m2 (digits (I m1 m2) x y) (λ e. digits_make x y (windows_valid m1 m2 e))

    -- from the rows from the top down
    pub i_down_promised : (m1 m2 : ℕ) → SheetPromised limits (I m1 m2) x y (i_down_answer limits k k_sign l l_sign m1 m2 (length buffer)) (i_down_buffer limits k k_sign l l_sign m1 m2 buffer)
    unfolding i_down_answer i_down_buffer
    i_down_promised m1 m2 = columns_promised m1 m2 (columns_by Down m1 m2 x y) (λ e. columns_make m1 m2 x y e Down)

    pub i_down_stand : (m1 m2 : ℕ)
        → Columned limits (paired (down m1 x) (down m2 y)) (i_down_answer limits k k_sign l l_sign m1 m2 (length buffer)) (i_down_buffer limits k k_sign l l_sign m1 m2 buffer)
    unfolding i_down_answer i_down_buffer
    i_down_stand m1 m2 = columns_stand m1 m2 (columns_by Down m1 m2 x y) (λ e. columns_make m1 m2 x y e Down)

module _ (k : List ℕ) (k_sign : ℕ) (l : List ℕ) (l_sign : ℕ) where
  -- the numbers
  pub j_question_lem : (limits : Limits) (room : ℕ) → number (j_answer limits k k_sign l l_sign room) ≡ j_question limits k l room
  unfolding j_answer
  j_question_lem limits room = go (sized limits k) (sized limits l) (roomy limits room)
    where
      go : (a b c : Bool) → number (cond (a && b) (cond c (wrote J (signed_scalar k k_sign) (signed_scalar l l_sign)) (Err NoRoom)) (Err BadScalar)) ≡ cond a (cond b (cond c 0 3) 1) 1
      go true true true = refl
      go true true false = refl
      go true false c = refl
      go false b c = refl

  pub columns_question : (limits : Limits) (m1 m2 : ℕ) (cs : List Column) (room : ℕ)
      → number (columns_answer limits k k_sign l l_sign m1 m2 cs room) ≡ i_question limits k l m1 m2 room
  columns_question limits m1 m2 cs room = go (sized limits k) (sized limits l) (is_window m1) (is_window m2) (roomy limits room)
    where
      go : (a b c d e : Bool)
          → number (cond (a && b) (cond (c && d) (cond e (wrote_columns (I m1 m2) cs (signed_scalar k k_sign) (signed_scalar l l_sign)) (Err NoRoom)) (Err BadWindow)) (Err BadScalar)) ≡ cond a (cond b (cond c (cond d (cond e 0 3) 2) 2) 1) 1
      go true true true true true = refl
      go true true true true false = refl
      go true true true false e = refl
      go true true false d e = refl
      go true false c d e = refl
      go false b c d e = refl

  pub i_question_lem : (limits : Limits) (m1 m2 room : ℕ) → number (i_answer limits k k_sign l l_sign m1 m2 room) ≡ i_question limits k l m1 m2 room
  unfolding i_answer
  i_question_lem limits m1 m2 room = columns_question limits m1 m2 (digits (I m1 m2) (signed_scalar k k_sign) (signed_scalar l l_sign)) room

-- the rows from the top down cost what 01's do
pub i_down_additions : (limits : Limits) (k : List ℕ) (k_sign : ℕ) (l : List ℕ) (l_sign m1 m2 room : ℕ)
    → additions (i_down_answer limits k k_sign l l_sign m1 m2 room) ≡ additions (i_answer limits k k_sign l l_sign m1 m2 room)
unfolding i_down_answer i_answer digits
i_down_additions limits k k_sign l l_sign m1 m2 room =
    go (sized limits k && sized limits l) (is_window m1 && is_window m2) (roomy limits room) (λ e. columns_cost m1 m2 x y e Down)
  where
    x : ℤ
    x = signed_scalar k k_sign

    y : ℤ
    y = signed_scalar l l_sign

    answer : List Column → Bool → Bool → Bool → SheetAnswer
    answer cs a b c = cond a (cond b (cond c (wrote_columns (I m1 m2) cs x y) (Err NoRoom)) (Err BadWindow)) (Err BadScalar)

    go : (a b c : Bool) → (b ≡ true → additions_of (I m1 m2) (columns_by Down m1 m2 x y) x y ≡ additions_of (I m1 m2) (columns_by Up m1 m2 x y) x y)
        → additions (answer (columns_by Down m1 m2 x y) a b c) ≡ additions (answer (columns_by Up m1 m2 x y) a b c)
    go true true true h = h refl
    go true true false h = refl
    go true false c h = refl
    go false b c h = refl

-- After calls that fill two buffers the columns in use are those that were written, and the calls tell how many there are; with columns that make the
-- scalars the writer has all that it needs. For any two rows of a plan I; and from their contracts for 01's row and joint calls, where questions 1 and 2 are met.
use Rattle.std.specs.Prelude.{Ok, Err}
use Rattle.digits.specs.declared.missed.Missed.{Missed}
use mathlib.Core.Path.{◌≡◌, refl, sym, ap, ap₂, subst, ◌∙◌}
use mathlib.Core.Bool.{true, ◌&&◌}
use mathlib.Core.List.{List, ◌∷◌, ◌++◌, map}
use Prim.Native.Nat.{ℕ, zero, suc, ◌+◌, ◌-◌, ◌*◌, ◌≤◌, ◌<◌, max}
use native.Mathlib.Omega.{arith}
use lib.IntN.{ℤ, pos}
use lib.ListN.{length, drop, replicate}
use borrow.Author.Tests.{le-leb}
use Rattle.digits.specs.Buffer.{row_below, columns_below}
use Rattle.digits.proofs.Laws.Buffer.Read.{columns_read}
use Rattle.digits.specs.Byte.{byte_of, signed}
use Rattle.digits.proofs.Laws.Byte.Signed.{signed_byte}
use Rattle.digits.specs.Column.{row}
use Rattle.digits.specs.Limits.{gateway}
use Rattle.digits.specs.Row.{Digit, Over, is_window}
use Rattle.digits.specs.Scalar.{Bytes, signed_scalar, sized, bit_length}
use Rattle.digits.proofs.Laws.Scalar.Signed.{scalar_size, signed_bounded}
use Rattle.digits.specs.Scalar.Sized.{both}
use Rattle.digits.specs.Scalar.Value.{length_bytes}
use Rattle.digits.specs.Two.{Column, P, Q, two, paired}
use Rattle.digits.specs.Two.Paired.{paired_length}
use Rattle.forms.specs.Joint.{joint}
use Rattle.forms.proofs.Laws.Joint.Value.{joint_small}
use Rattle.recode.specs.Call.{Recoded, roomy, places_written, weight_written, wrote_row, wrote_columns, filled, left, answer_with, buffer_with, joint_answer, joint_buffer}
use Rattle.recode.specs.Call.Lent.{filled_long}
use Rattle.sheet.specs.declared.Plan.{Plan}
use Rattle.sheet.specs.declared.Plan.TheVariants.{J, I}
use Rattle.sheet.specs.Digits.{weight}
use Rattle.sheet.specs.Plan.{point}
use Rattle.sheet.specs.Questions.Planned.{window_of}
use Rattle.written.specs.Makes.{Makes}
use Rattle.written.specs.Valid.{Valid}
use Rattle.written.specs.Written.{digits, sheet_of}
use Rattle.written.specs.Written.Columns.{paired_weight}
use Rattle.writer.specs.Rows.{Rows, row_by}
use Rattle.writer.proofs.Laws.Rows.Made.{rows_kept}
use Rattle.writer.specs.declared.answer.Sheet.{Sheet}
use Rattle.writer.specs.Body.Parts.{Bounded, Ready}
use Rattle.writer.specs.Call as Writing

-- ── what the writer needs ───────────────────────────────────────────────────────────────────

-- a scalar that is not too wide
pub in_bounds : (s : List ℕ) (sign : ℕ) → Bytes s → sized gateway s ≡ true → Bounded (signed_scalar s sign)
unfolding Bounded
in_bounds s sign h e = signed_bounded gateway s sign h e

-- columns that make two scalars have no more places than the longer scalar has bits, and one
pub few_places : {plan : Plan} {cs : List Column} (k : List ℕ) (k_sign : ℕ) (l : List ℕ) (l_sign : ℕ) → Bytes k → Bytes l → Makes plan (signed_scalar k k_sign) (signed_scalar l l_sign) cs
    → length cs ≤ 8 * max (length k) (length l) + 1
few_places k k_sign l l_sign k_bytes l_bytes makes =
    omega (
      arith,
      makes.few,
      ap bit_length (scalar_size k k_sign),
      length_bytes k k_bytes,
      ap bit_length (scalar_size l l_sign),
      length_bytes l l_bytes,
    )

-- columns stand at the places below a length of two rows, and so many of their digits the plan counts
pub record Standing (plan : Plan) (p q : List ℕ) (cs : List Column) (places counted : ℕ) : Type 0 where
  pub columns : columns_below places p q ≡ cs
  pub p_long : places ≤ length p
  pub q_long : places ≤ length q
  pub heavy : counted ≡ weight plan cs

module _ {plan : Plan} (k l : ℤ) {p q : List ℕ} {cs : List Column} {places counted : ℕ} (standing : Standing plan p q cs places counted) where
  pub ready : {out : List ℕ} → Valid plan → Bounded k → Bounded l → Makes plan k l cs → length (sheet_of plan cs k l) ≤ length out → Ready plan k l p q places counted out
  ready {out} valid k_bounded l_bounded makes room =
      let e = sym standing.columns in
      record {
        valid = valid;
        k_bounded = k_bounded;
        l_bounded = l_bounded;
        p_long = standing.p_long;
        q_long = standing.q_long;
        makes = subst (Makes plan k l) e makes;
        heavy = standing.heavy ∙ ap (weight plan) e;
        room = subst (λ (ds : List Column). length (sheet_of plan ds k l) ≤ length out) e room;
      }

  -- what the writer returns and leaves is the sheet of the columns
  pub standing_written : {a : Sheet} {after : List ℕ} (before : List ℕ) → (a ≡ Writing.columns_size plan (columns_below places p q) k l) × (after ≡ sheet_of plan (columns_below places p q) k l ++ drop (length (sheet_of plan (columns_below places p q) k l)) before)
      → (a ≡ Writing.columns_size plan cs k l) × (after ≡ sheet_of plan cs k l ++ drop (length (sheet_of plan cs k l)) before)
  standing_written {a} {after} before =
      subst (λ (ds : List Column). (a ≡ Writing.columns_size plan ds k l) × (after ≡ sheet_of plan ds k l ++ drop (length (sheet_of plan ds k l)) before)) standing.columns

-- ── two filled buffers ──────────────────────────────────────────────────────────────────────

-- a digit of a window is read back from its byte
digit_read : {m : ℕ} {d : ℤ} → m < 128 → Digit m d → signed (byte_of d) ≡ d
digit_read h Digit.none = signed_byte (pos 0) (omega arith)
digit_read {d = d} h (Digit.odd o s) = signed_byte d (omega arith)

-- two rows are read back as their columns, where the shorter one has zeros up to the top of the longer one
rows_read : {m1 m2 : ℕ} {xs ys : List ℤ} (a b : ℕ) → m1 < 128 → m2 < 128 → Over m1 xs → Over m2 ys → length ys ≤ length xs + a → length xs ≤ length ys + b
    → columns_below (length (paired xs ys)) (map byte_of xs ++ replicate a 0) (map byte_of ys ++ replicate b 0) ≡ paired xs ys
unfolding columns_below row_below paired
rows_read a b h g Over.empty Over.empty s t = refl
rows_read a zero h g (Over.more d o) Over.empty s t = absurd (omega arith)
rows_read a (suc b) h g (Over.more d o) Over.empty s t =
    ap₂ (λ (x : ℤ) (cs : List Column). point x (pos 0) ∷ cs) (digit_read h d) (rows_read a b h g o Over.empty (omega arith) (omega arith))
rows_read zero b h g Over.empty (Over.more e u) s t = absurd (omega arith)
rows_read (suc a) b h g Over.empty (Over.more e u) s t =
    ap₂ (λ (y : ℤ) (cs : List Column). point (pos 0) y ∷ cs) (digit_read g e) (rows_read a b h g Over.empty u (omega arith) (omega arith))
rows_read a b h g (Over.more d o) (Over.more e u) s t =
    ap₂ (λ (c : Column) (cs : List Column). c ∷ cs) (ap₂ point (digit_read h d) (digit_read g e)) (rows_read a b h g o u (omega arith) (omega arith))

-- two rows of so many places have room for both scalars
abbrev pub Rooms : List ℕ → List ℕ → ℕ → ℕ → Type 0
Rooms k l p_places q_places = (8 * max (length k) (length l) + 1 ≤ p_places) × (8 * max (length k) (length l) + 1 ≤ q_places)

room_enough : (n places : ℕ) → 8 * n + 1 ≤ places → roomy n places ≡ true
room_enough n places h = le-leb (8 * n + 1) places h

-- ── any two rows of a plan I ────────────────────────────────────────────────────────────────

module _ {m1 m2 : ℕ} (windows : (is_window m1 && is_window m2) ≡ true) {xs ys : List ℤ} (xs_over : Over m1 xs) (ys_over : Over m2 ys) (p q : List ℕ) (p_room : length (paired xs ys) ≤ length p) (q_room : length (paired xs ys) ≤ length q) where
  rows_below : columns_below (length (paired xs ys)) (filled xs p) (filled ys q) ≡ paired xs ys
  rows_below =
      let (u, v) = both (is_window m1) (is_window m2) windows in
      let long = paired_length xs ys in
      rows_read (length p - length xs) (length q - length ys) (omega (arith, (window_of m1 u).within)) (omega (arith, (window_of m2 v).within)) xs_over ys_over (omega (arith, long)) (omega (arith, long))

  -- they stand in the buffers that they fill, with the longer of the two lengths and the weights together
  pub rows_standing : {r s : Recoded} {p' q' : List ℕ} {places counted : ℕ} → r ≡ wrote_row xs → s ≡ wrote_row ys → p' ≡ filled xs p → q' ≡ filled ys q
      → places ≡ max (places_written r) (places_written s) → counted ≡ weight_written r + weight_written s → Standing (I m1 m2) p' q' (paired xs ys) places counted
  rows_standing {p' = p'} {q' = q'} e f u v g h =
      let long = g ∙ ap₂ max (ap places_written e) (ap places_written f) ∙ sym (paired_length xs ys) in
      let heavy = paired_weight xs ys in
      record {
        columns = rw (long, u, v) rows_below;
        p_long = rw (long, u) (filled_long xs p (length (paired xs ys)) p_room);
        q_long = rw (long, v) (filled_long ys q (length (paired xs ys)) q_room);
        heavy = h ∙ ap₂ (λ (a b : ℕ). a + b) (ap weight_written e ∙ sym heavy.0) (ap weight_written f ∙ sym heavy.1);
      }

-- ── the row calls ───────────────────────────────────────────────────────────────────────────

module _ (s : List ℕ) (m : ℕ) (ds : List ℤ) (size : sized gateway s ≡ true) (window : is_window m ≡ true) where
  row_answer : {places : ℕ} → 8 * length s + 1 ≤ places → answer_with gateway s m ds places ≡ wrote_row ds
  unfolding answer_with
  row_answer {places} room = rw (size, window, room_enough (length s) places room)

  row_filled : (b : List ℕ) → 8 * length s + 1 ≤ length b → buffer_with gateway s m ds b ≡ filled ds b
  unfolding buffer_with
  row_filled b room = ap (λ (a : Recoded). left a ds b) (row_answer room)

-- a call that misses a question has written no row
not_row : {A : Type 0} {e : Missed} (ds : List ℤ) → Err e ≡ wrote_row ds → A
not_row ds p = let z : ◌≡◌ {A = ℕ} 0 1 = ap ok p in absurd (omega (arith, z))
  where
    ok : Recoded → ℕ
    ok (Ok w) = 1
    ok (Err e) = 0

module _ (rows : Rows) (k : List ℕ) (k_sign : ℕ) (l : List ℕ) (l_sign : ℕ) (p q : List ℕ) (m1 m2 : ℕ) (sizes : (sized gateway k && sized gateway l) ≡ true) (windows : (is_window m1 && is_window m2) ≡ true) (rooms : Rooms k l (length p) (length q)) where
  -- the two rows
  abbrev xs : List ℤ
  xs = row_by rows m1 (signed_scalar k k_sign)

  abbrev ys : List ℤ
  ys = row_by rows m2 (signed_scalar l l_sign)

  -- neither call misses a question
  pub first_met : {A : Type 0} {e : Missed} → Err e ≡ answer_with gateway k m1 xs (length p) → A
  first_met e =
      let u = both (sized gateway k) (sized gateway l) sizes in
      let w = both (is_window m1) (is_window m2) windows in
      not_row xs (e ∙ row_answer k m1 xs u.0 w.0 (omega (arith, rooms.0)))

  pub second_met : {A : Type 0} {e : Missed} → Err e ≡ answer_with gateway l m2 ys (length q) → A
  second_met e =
      let u = both (sized gateway k) (sized gateway l) sizes in
      let w = both (is_window m1) (is_window m2) windows in
      not_row ys (e ∙ row_answer l m2 ys u.1 w.1 (omega (arith, rooms.1)))

  -- after two of them the columns of the rows stand in the buffers
  pub row_calls : {r s : Recoded} {p' q' : List ℕ} {places counted : ℕ} → length (paired xs ys) ≤ 8 * max (length k) (length l) + 1
      → r ≡ answer_with gateway k m1 xs (length p) → s ≡ answer_with gateway l m2 ys (length q) → p' ≡ buffer_with gateway k m1 xs p → q' ≡ buffer_with gateway l m2 ys q
      → places ≡ max (places_written r) (places_written s) → counted ≡ weight_written r + weight_written s → Standing (I m1 m2) p' q' (paired xs ys) places counted
  row_calls few e f x y =
      let (u, v) = both (sized gateway k) (sized gateway l) sizes in
      let (w, z) = both (is_window m1) (is_window m2) windows in
      let first : 8 * length k + 1 ≤ length p = omega (arith, rooms.0) in
      let second : 8 * length l + 1 ≤ length q = omega (arith, rooms.1) in
      rows_standing windows (rows_kept rows m1 (signed_scalar k k_sign) w).digits (rows_kept rows m2 (signed_scalar l l_sign) z).digits
      p q (omega (arith, few, rooms.0)) (omega (arith, few, rooms.1))
      (e ∙ row_answer k m1 xs u w first) (f ∙ row_answer l m2 ys v z second) (x ∙ row_filled k m1 xs u w p first) (y ∙ row_filled l m2 ys v z q second)

-- ── the joint call ──────────────────────────────────────────────────────────────────────────

module _ (k : List ℕ) (k_sign : ℕ) (l : List ℕ) (l_sign : ℕ) (p q : List ℕ) (sizes : (sized gateway k && sized gateway l) ≡ true) (rooms : Rooms k l (length p) (length q)) where
  -- the joint columns
  abbrev cs : List Column
  cs = joint (signed_scalar k k_sign) (signed_scalar l l_sign)

  joint_answer_lem : joint_answer gateway k k_sign l l_sign (length p) (length q) ≡ wrote_columns cs
  unfolding joint_answer
  joint_answer_lem =
      let m : ℕ = max (length k) (length l) in
      rw (sizes, room_enough m (length p) rooms.0, room_enough m (length q) rooms.1)

  filled_p : joint_buffer gateway P k k_sign l l_sign p q ≡ filled (row two P cs) p
  unfolding joint_buffer
  filled_p = ap (λ (a : Recoded). left a (row two P cs) p) joint_answer_lem

  filled_q : joint_buffer gateway Q k k_sign l l_sign p q ≡ filled (row two Q cs) q
  unfolding joint_buffer
  filled_q = ap (λ (a : Recoded). left a (row two Q cs) q) joint_answer_lem

  -- after it the plan's digits stand in the buffers
  pub joint_call : {r : Recoded} {p' q' : List ℕ} {places counted : ℕ} → length (digits J (signed_scalar k k_sign) (signed_scalar l l_sign)) ≤ 8 * max (length k) (length l) + 1
      → r ≡ joint_answer gateway k k_sign l l_sign (length p) (length q) → p' ≡ joint_buffer gateway P k k_sign l l_sign p q → q' ≡ joint_buffer gateway Q k k_sign l l_sign p q
      → places ≡ places_written r → counted ≡ weight_written r → Standing J p' q' (digits J (signed_scalar k k_sign) (signed_scalar l l_sign)) places counted
  unfolding digits
  joint_call few e u v g h =
      let long = g ∙ ap places_written (e ∙ joint_answer_lem) in
      record {
        columns = rw (long, u ∙ filled_p, v ∙ filled_q) (columns_read (replicate (length p - length (row two P cs)) 0) (replicate (length q - length (row two Q cs)) 0) (joint_small (signed_scalar k k_sign) (signed_scalar l l_sign)));
        p_long = rw (long, u ∙ filled_p) (filled_long (row two P cs) p (length cs) (omega (arith, few, rooms.0)));
        q_long = rw (long, v ∙ filled_q) (filled_long (row two Q cs) q (length cs) (omega (arith, few, rooms.1)));
        heavy = h ∙ ap weight_written (e ∙ joint_answer_lem);
      }

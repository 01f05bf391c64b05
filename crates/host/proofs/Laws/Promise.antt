-- What the C host can rely on: the parts that sheets.h takes out of the number that a call returns are the number of the question missed,
-- and the length and the weight, or the additions, of what was written, or the limit that pays and its additions, or the most digits that are
-- not 0, or the reader's line, whatever was asked. And that the rows of a joint call can always be packed.
use Rattle.std.specs.Prelude.{◌≡◌, refl, ◌↔◌, List, ℕ, ◌-◌, ◌≤◌, ◌<◌, ◌^◌, length, Ok, Err, Some, None}
use Rattle.std.proofs.Math.Path.{ap}
use Rattle.std.proofs.Common.{ap₂, ◌∙◌, arith}
use Rattle.digits.specs.Column.{row}
use Rattle.digits.specs.Scalar.{Bytes, signed_scalar}
use Rattle.digits.specs.Two.{Two, P, Q, of, two}
use Rattle.forms.specs.Joint.{joint}
use Rattle.forms.proofs.Laws.Joint.Value.{joint_small}
use Rattle.digits.specs.Missed.{number}
use Rattle.digits.specs.declared.limits.Limits.{Limits}
use Rattle.digits.specs.declared.missed.Missed.{Missed}
use Rattle.digits.specs.declared.missed.Missed.TheVariants.{BadScalar, BadWindow, NoRoom, BadLimit, BadColumn, BadSize}
use Rattle.dearest.specs.Call.{Dearest, most_told, dearest_answer}
use Rattle.packing.specs.Call as Packs
use Rattle.packing.specs.Call.{pack_answer}
use Rattle.packing.proofs.Laws.Promise.{rows_pack}
use Rattle.codes.specs.Call.{codes_answer}
use Rattle.down.specs.Call.{down_answer}
use Rattle.recode.specs.Call.{Recoded, row_answer, joint_answer, joint_buffer, left, filled, wrote}
use Rattle.recode.specs.Call.Lent.{filled_long}
use Rattle.writer.specs.Call.{SheetAnswer, j_answer, i_answer, i_down_answer}
use Rattle.chooser.specs.Call.{cheapest_answer}
use Rattle.chooser.specs.Next.{NextLimit, next_answer}
use Rattle.sheet.specs.Answer.{answer}
use Rattle.host.specs.Told.{numbered, joined, Fits, RecodedFits, SheetFits, told_next, NextFits, sheets_number, sheets_length, sheets_limit, sheets_weight}
use Rattle.host.specs.Told.Lines.{line_within}
use Rattle.host.specs.Told.Parts.{Tellable, row_fits, down_fits, joint_fits, codes_fits, j_fits, i_fits, i_down_fits, cheapest_fits, next_fits, Larger, next_larger, dearest_fits}
use Rattle.host.specs.Promise.{DearestParts, JudgementParts, NextParts, PackingParts, RecodedParts, SheetParts}

-- what is put together comes out again
module _ (n : ℕ) {length count : ℕ} (h : Fits length count) where
  above : sheets_number (numbered n (joined length count)) ≡ n
  above = omega (arith, h.length_fits, h.count_fits)

  below : sheets_length (numbered n (joined length count)) ≡ length
  below = omega (arith, h.length_fits, h.count_fits)

  limit_below : sheets_limit (numbered n (joined length count)) ≡ length
  limit_below = omega (arith, h.length_fits, h.count_fits)

  between : sheets_weight (numbered n (joined length count)) ≡ count
  between = omega (arith, h.length_fits, h.count_fits)

-- where no question is missed, the number in the high half is 0
met : (part : ℕ → ℕ) {n rest : ℕ} → part (numbered 0 rest) ≡ n → part rest ≡ n
met part {n} {rest} e = ap part plain ∙ e
  where
    plain : rest ≡ numbered 0 rest
    plain = omega arith

recoded_parts : (r : Recoded) → RecodedFits r → RecodedParts r
recoded_parts (Ok w) h = record { number_is = met sheets_number (above 0 h); length_is = met sheets_length (below 0 h); weight_is = met sheets_weight (between 0 h) }
recoded_parts (Err e) h = record { number_is = omega arith; length_is = omega arith; weight_is = omega arith }

sheet_parts : (s : SheetAnswer) → SheetFits s → SheetParts s
sheet_parts (Ok s) h = record { number_is = met sheets_number (above 0 h); length_is = met sheets_length (below 0 h); additions_are = met sheets_weight (between 0 h) }
sheet_parts (Err e) h = record { number_is = omega arith; length_is = omega arith; additions_are = omega arith }

told_parts : (n : NextLimit) → NextFits n → NextParts n
told_parts (Ok (Some p)) h = record { number_is = met sheets_number (above 0 h); limit_is = met sheets_limit (limit_below 0 h); additions_are = met sheets_weight (between 0 h) }
told_parts (Ok None) h = record { number_is = refl; limit_is = refl; additions_are = refl }
told_parts (Err e) h = record { number_is = omega arith; limit_is = omega arith; additions_are = omega arith }

-- under the card's limits, and under the gateway's:
module _ (limits : Limits) (tellable : Tellable limits) where
  -- a row
  pub row_parts : (s : List ℕ) (sign m places : ℕ) → Bytes s → RecodedParts (row_answer limits s sign m places)
  row_parts s sign m places h = recoded_parts (row_answer limits s sign m places) (row_fits limits tellable s sign m places h)

  -- a row from the top down
  pub down_parts : (s : List ℕ) (sign m places : ℕ) → Bytes s → RecodedParts (down_answer limits s sign m places)
  down_parts s sign m places h = recoded_parts (down_answer limits s sign m places) (down_fits limits tellable s sign m places h)

  -- a joint form
  pub joint_parts : (k : List ℕ) (k_sign : ℕ) (l : List ℕ) (l_sign : ℕ) (places places' : ℕ) → Bytes k → Bytes l → RecodedParts (joint_answer limits k k_sign l l_sign places places')
  joint_parts k k_sign l l_sign places places' h g = recoded_parts (joint_answer limits k k_sign l l_sign places places') (joint_fits limits tellable k k_sign l l_sign places places' h g)

  -- with its codes
  pub codes_parts : (k : List ℕ) (k_sign : ℕ) (l : List ℕ) (l_sign : ℕ) (places places' room room' : ℕ) → Bytes k → Bytes l → RecodedParts (codes_answer limits k k_sign l l_sign places places' room room')
  codes_parts k k_sign l l_sign places places' room room' h g =
      recoded_parts (codes_answer limits k k_sign l l_sign places places' room room') (codes_fits limits tellable k k_sign l l_sign places places' room room' h g)

  module _ (k : List ℕ) (k_sign : ℕ) (l : List ℕ) (l_sign : ℕ) (k_bytes : Bytes k) (l_bytes : Bytes l) where
    -- the sheet of plan J
    pub j_parts : (room : ℕ) → SheetParts (j_answer limits k k_sign l l_sign room)
    j_parts room = sheet_parts (j_answer limits k k_sign l l_sign room) (j_fits limits tellable k k_sign l l_sign k_bytes l_bytes room)

    -- of plan I
    pub i_parts : (m1 m2 room : ℕ) → SheetParts (i_answer limits k k_sign l l_sign m1 m2 room)
    i_parts m1 m2 room = sheet_parts (i_answer limits k k_sign l l_sign m1 m2 room) (i_fits limits tellable k k_sign l l_sign k_bytes l_bytes m1 m2 room)

    -- of plan I, from rows from the top down
    pub i_down_parts : (m1 m2 room : ℕ) → SheetParts (i_down_answer limits k k_sign l l_sign m1 m2 room)
    i_down_parts m1 m2 room = sheet_parts (i_down_answer limits k k_sign l l_sign m1 m2 room) (i_down_fits limits tellable k k_sign l l_sign k_bytes l_bytes m1 m2 room)

    -- the cheapest
    pub cheapest_parts : (limit room : ℕ) → SheetParts (cheapest_answer limits k k_sign l l_sign limit room)
    cheapest_parts limit room = sheet_parts (cheapest_answer limits k k_sign l l_sign limit room) (cheapest_fits limits tellable k k_sign l l_sign k_bytes l_bytes limit room)

    -- the next limit
    pub next_parts : (limit : ℕ) → NextParts (next_answer limits k k_sign l l_sign limit)
    next_parts limit = told_parts (next_answer limits k k_sign l l_sign limit) (next_fits limits tellable k k_sign l l_sign k_bytes l_bytes limit)

  -- a sheet that is read
  pub read_parts : (s : List ℕ) → JudgementParts (answer limits s)
  read_parts s = record { number_is = omega (arith, tellable.sheet, line_within limits s); line_is = omega (arith, tellable.sheet, line_within limits s) }

-- a question has a number
asked : (e : Missed) → 0 < number e
asked BadScalar = omega arith
asked BadWindow = omega arith
asked NoRoom = omega arith
asked BadLimit = omega arith
asked BadColumn = omega arith
asked BadSize = omega arith

-- the next limit is told as 0 exactly where none pays
pub next_none : (limits : Limits) (k : List ℕ) (k_sign : ℕ) (l : List ℕ) (l_sign limit : ℕ)
    → (told_next (next_answer limits k k_sign l l_sign limit) ≡ 0) ↔ (next_answer limits k k_sign l l_sign limit ≡ Ok None)
next_none limits k k_sign l l_sign limit = (zero (next_answer limits k k_sign l l_sign limit) (next_larger limits k k_sign l l_sign limit), λ e. ap told_next e)
  where
    zero : (n : NextLimit) → Larger n → told_next n ≡ 0 → n ≡ Ok None
    zero (Ok (Some p)) h e = absurd (omega (arith, h, e))
    zero (Ok None) h e = refl
    zero (Err e) h f = absurd (omega (arith, f, asked e))

-- the dearest scalar, whatever the size and the room
pub dearest_parts : (size room : ℕ) → DearestParts (dearest_answer size room)
dearest_parts size room = told_most (dearest_answer size room) (dearest_fits size room)
  where
    told_most : (d : Dearest) → most_told d < 2 ^ 32 → DearestParts d
    told_most (Ok most) h = record { number_is = omega (arith, h); most_is = omega (arith, h) }
    told_most (Err e) h = record { number_is = omega arith; most_is = omega arith }

-- columns packed or unpacked
pub packing_parts : (p : Packs.Answer) → PackingParts p
packing_parts (Ok done) = record { number_is = refl; nothing_below = refl }
packing_parts (Err e) = record { number_is = omega arith; nothing_below = omega arith }

-- ── the rows of a joint call can always be packed ───────────────────────────────────────────

module _ (limits : Limits) (k : List ℕ) (k_sign : ℕ) (l : List ℕ) (l_sign : ℕ) (k_digits l_digits : List ℕ) (length_is weight_is : ℕ)
    (written : joint_answer limits k k_sign l l_sign (length k_digits) (length l_digits) ≡ wrote length_is weight_is) where
  stands : (r : Two) → joint_buffer limits r k k_sign l l_sign k_digits l_digits ≡ filled (row two r (joint (signed_scalar k k_sign) (signed_scalar l l_sign))) (of k_digits l_digits r)
  unfolding joint_buffer
  stands r = ap (λ (a : Recoded). left a (row two r (joint (signed_scalar k k_sign) (signed_scalar l l_sign))) (of k_digits l_digits r)) written

  -- as many columns as both rows and the buffer have places, also beyond those that were written
  pub joint_packs : (n : ℕ) (packed : List ℕ) → n ≤ length k_digits → n ≤ length l_digits → n ≤ length packed
      → pack_answer n (joint_buffer limits P k k_sign l l_sign k_digits l_digits) (joint_buffer limits Q k k_sign l l_sign k_digits l_digits) (length packed) ≡ Ok tt
  joint_packs n packed h g f =
      let cs = joint (signed_scalar k k_sign) (signed_scalar l l_sign) in
      ap₂ (λ (p q : List ℕ). pack_answer n p q (length packed)) (stands P) (stands Q)
      ∙ rows_pack cs (length k_digits - length (row two P cs)) (length l_digits - length (row two Q cs)) n packed (joint_small (signed_scalar k k_sign) (signed_scalar l l_sign))
      (filled_long (row two P cs) k_digits n h) (filled_long (row two Q cs) l_digits n g) f

-- What a call answers fits the parts that it is told in, whatever was asked: under the card's limits, and under the gateway's, lengths, weights and
-- additions are below 65,536.
use Rattle.std.specs.Prelude.{◌≡◌, Bool, true, false, ◌&&◌, cond, List, ℕ, ◌+◌, ◌^◌, ◌<◌, ℤ, Result, Ok, Err, Some, None, IfSome}
use Rattle.std.specs.declared.option.Option.{Option}
use Rattle.std.proofs.Common.{ap, arith}
use Rattle.digits.specs.declared.limits.Limits.{Limits}
use Rattle.digits.specs.Limits.{card, gateway, bits}
use Rattle.digits.specs.Missed.{either_way}
use Rattle.digits.specs.declared.missed.Missed.TheVariants.{BadScalar, BadWindow, NoRoom, BadLimit, BadSize}
use Rattle.digits.specs.Row.{is_window}
use Rattle.digits.specs.Scalar.{Bytes, signed_scalar, sized}
use Rattle.digits.proofs.Laws.Scalar.Signed.{signed_bounded}
use Rattle.digits.specs.Scalar.Sized.{both}
use Rattle.digits.specs.Two.{Column}
use Rattle.recode.specs.Call.{Recoded, row_answer, joint_answer}
use Rattle.recode.specs.Call.Short.{Short}
use Rattle.recode.proofs.Laws.Call.Short.{row_short, joint_short}
use Rattle.codes.specs.Call.{codes_answer}
use Rattle.down.specs.Call.{down_answer}
use Rattle.down.proofs.Laws.Call.Row.{down_short}
use Rattle.codes.proofs.Laws.Call.Short.{codes_short}
use Rattle.sheet.specs.Answer.{answer}
use Rattle.sheet.specs.Plan.{is_limit}
use Rattle.sheet.specs.declared.Plan.{Plan}
use Rattle.sheet.specs.declared.Plan.TheVariants.{J, I}
use Rattle.written.specs.Enough.{Enough, card_enough, gateway_enough}
use Rattle.written.specs.Makes.{Makes}
use Rattle.written.proofs.Laws.Promise.{sheet_fits, sheet_few, written_few}
use Rattle.written.specs.Valid.{Valid, for_j}
use Rattle.written.specs.Written.{digits}
use Rattle.written.specs.Written.Columns.{digits_make}
use Rattle.writer.specs.Call as Writing
use Rattle.writer.specs.Call.{SheetAnswer, wrote_columns, j_answer, columns_answer, i_answer, i_down_answer}
use Rattle.writer.specs.Call.Met.{windows_valid}
use Rattle.writer.specs.Rows.{Down, columns_by}
use Rattle.writer.proofs.Laws.Rows.Made.{columns_make}
use Rattle.chooser.specs.Call.{cheapest_answer}
use Rattle.chooser.specs.Cheapest.{cheapest_plan}
use Rattle.chooser.proofs.Laws.Cheapest.Least.{plan_within}
use Rattle.chooser.specs.Next.{NextLimit, fewest, Next, pays, none, next_limit, next_answer}
use Rattle.chooser.proofs.Laws.Next.First.{next_meets}
use Rattle.chooser.specs.declared.next.Pays.{Pays}
use Rattle.dearest.specs.Call.{Dearest, most_told, is_size, is_room, dearest_answer}
use Rattle.dearest.proofs.Laws.Call.Returned.{size_is}
use Rattle.dearest.specs.Dearest.{most}
use Rattle.dearest.proofs.Laws.Promise.{most_closed}
use Rattle.survey.specs.declared.fault.Fault.{Fault}
use Rattle.reader.specs.Judgement.{judgement}
use Rattle.host.specs.Told.Lines.{line_within}
use Rattle.host.specs.Told.{line, ReadFits, RecodedFits, SheetFits, PaysFits, NextFits}

-- limits under which all that is told fits
pub record Tellable (limits : Limits) : Type 0 where
  pub enough : Enough limits
  pub sheet : limits.sheet < 2 ^ 16

pub card_tellable : Tellable card
card_tellable = record { enough = card_enough; sheet = omega arith }

pub gateway_tellable : Tellable gateway
gateway_tellable = record { enough = gateway_enough; sheet = omega arith }

module _ (limits : Limits) (tellable : Tellable limits) where
  -- ── rows and joint forms ──────────────────────────────────────────────────────────────────

  short_fits : {r : Recoded} → Short (bits limits + 1) r → RecodedFits r
  short_fits {r = Ok w} h =
      let few = tellable.enough.counts in
      record { length_fits = omega (arith, few, h.length_most); count_fits = omega (arith, few, h.length_most, h.weight_most) }
  short_fits {r = Err e} h = tt

  pub row_fits : (s : List ℕ) (sign m places : ℕ) → Bytes s → RecodedFits (row_answer limits s sign m places)
  row_fits s sign m places h = short_fits (row_short limits s sign m places h)

  pub down_fits : (s : List ℕ) (sign m places : ℕ) → Bytes s → RecodedFits (down_answer limits s sign m places)
  down_fits s sign m places h = short_fits (down_short limits s sign m places h)

  pub joint_fits : (k : List ℕ) (k_sign : ℕ) (l : List ℕ) (l_sign : ℕ) (places places' : ℕ) → Bytes k → Bytes l → RecodedFits (joint_answer limits k k_sign l l_sign places places')
  joint_fits k k_sign l l_sign places places' h g = short_fits (joint_short limits k k_sign l l_sign places places' h g)

  pub codes_fits : (k : List ℕ) (k_sign : ℕ) (l : List ℕ) (l_sign : ℕ) (places places' room room' : ℕ) → Bytes k → Bytes l
      → RecodedFits (codes_answer limits k k_sign l l_sign places places' room room')
  codes_fits k k_sign l l_sign places places' room room' h g = short_fits (codes_short limits k k_sign l l_sign places places' room room' h g)

  -- ── a sheet that is read ──────────────────────────────────────────────────────────────────

  -- the line at fault
  pub read_fits : (s : List ℕ) (r : Result (Unit {0}) Fault) → judgement r ≡ answer limits s → ReadFits r
  read_fits s (Ok met) e = tt
  read_fits s (Err f) e = omega (arith, ap line e, tellable.sheet, line_within limits s)

  -- ── sheets ────────────────────────────────────────────────────────────────────────────────

  -- the answer where only the room is left to ask for
  abbrev asked : ℤ → ℤ → Plan → List Column → ℕ → SheetAnswer
  asked k l p cs room = cond (Writing.roomy limits room) (wrote_columns p cs k l) (Err NoRoom)

  module _ (k : List ℕ) (k_sign : ℕ) (l : List ℕ) (l_sign : ℕ) (k_bytes : Bytes k) (l_bytes : Bytes l) where
    -- the two signed scalars
    abbrev x : ℤ
    x = signed_scalar k k_sign

    abbrev y : ℤ
    y = signed_scalar l l_sign

    asked_fits : {p : Plan} (cs : List Column) (room : ℕ) → Valid p → Makes p x y cs → (sized limits k && sized limits l) ≡ true → SheetFits (asked x y p cs room)
    asked_fits {p} cs room v makes e =
        let (a, b) = both (sized limits k) (sized limits l) e in
        let hk = signed_bounded limits k k_sign k_bytes a in
        let hl = signed_bounded limits l l_sign l_bytes b in
        let all = tellable.enough in
        either_way SheetFits (Writing.roomy limits room) (wrote_columns p cs x y) (Err NoRoom)
        (λ _. record { length_fits = omega (arith, tellable.sheet, sheet_fits limits all p cs x y v makes hk hl); count_fits = omega (arith, all.counts, sheet_few limits all p cs x y v makes hk hl) })
        tt

    -- plan J
    pub j_fits : (room : ℕ) → SheetFits (j_answer limits k k_sign l l_sign room)
    unfolding j_answer
    j_fits room =
        either_way SheetFits (sized limits k && sized limits l) (asked x y J (digits J x y) room) (Err BadScalar) (λ e. asked_fits (digits J x y) room for_j (digits_make x y for_j) e) tt

    -- plan I, from columns that make the scalars where the windows are good ones
    columns_fits : (m1 m2 : ℕ) (cs : List Column) (room : ℕ) → ((is_window m1 && is_window m2) ≡ true → Makes (I m1 m2) x y cs) → SheetFits (columns_answer limits k k_sign l l_sign m1 m2 cs room)
    columns_fits m1 m2 cs room makes =
        let windows : Bool = is_window m1 && is_window m2 in
        let answer : SheetAnswer = asked x y (I m1 m2) cs room in
        either_way SheetFits (sized limits k && sized limits l) (cond windows answer (Err BadWindow)) (Err BadScalar)
        (λ e. either_way SheetFits windows answer (Err BadWindow) (λ w. asked_fits cs room (windows_valid m1 m2 w) (makes w) e) tt) tt

    pub i_fits : (m1 m2 room : ℕ) → SheetFits (i_answer limits k k_sign l l_sign m1 m2 room)
    unfolding i_answer
    i_fits m1 m2 room = columns_fits m1 m2 (digits (I m1 m2) x y) room (λ w. digits_make x y (windows_valid m1 m2 w))

    pub i_down_fits : (m1 m2 room : ℕ) → SheetFits (i_down_answer limits k k_sign l l_sign m1 m2 room)
    unfolding i_down_answer
    i_down_fits m1 m2 room = columns_fits m1 m2 (columns_by Down m1 m2 x y) room (λ w. columns_make m1 m2 x y w Down)

    -- the cheapest
    pub cheapest_fits : (limit room : ℕ) → SheetFits (cheapest_answer limits k k_sign l l_sign limit room)
    unfolding cheapest_answer
    cheapest_fits limit room =
        let plan : Plan = cheapest_plan x y limit in
        let answer : SheetAnswer = asked x y plan (digits plan x y) room in
        either_way SheetFits (sized limits k && sized limits l) (cond (is_limit limit) answer (Err BadLimit)) (Err BadScalar)
        (λ e. either_way SheetFits (is_limit limit) answer (Err BadLimit)
        (λ _. asked_fits (digits plan x y) room (plan_within x y limit).0 (digits_make x y (plan_within x y limit).0) e) tt) tt

    -- the next limit
    paying_fits : {limit : ℕ} {n : Option Pays} → (sized limits k && sized limits l) ≡ true → Next (fewest x y) limit n → IfSome n PaysFits
    paying_fits e (pays {n} u v f w q) =
        let (a, b) = both (sized limits k) (sized limits l) e in
        let few = written_few limits tellable.enough (cheapest_plan x y n) x y (plan_within x y n).0 (signed_bounded limits k k_sign k_bytes a) (signed_bounded limits l l_sign l_bytes b) in
        record { length_fits = omega arith; count_fits = omega (arith, tellable.enough.counts, few, f) }
    paying_fits e (none q) = tt

    pub next_fits : (limit : ℕ) → NextFits (next_answer limits k k_sign l l_sign limit)
    unfolding next_answer
    next_fits limit =
        let answer : NextLimit = Ok (next_limit x y limit) in
        either_way NextFits (sized limits k && sized limits l) (cond (is_limit limit) answer (Err BadLimit)) (Err BadScalar)
        (λ e. either_way NextFits (is_limit limit) answer (Err BadLimit) (λ _. paying_fits e (next_meets x y limit)) tt) tt

-- a limit that pays is larger than another, so it is not 0
abbrev pub Larger : NextLimit → Type 0
Larger (Ok (Some p)) = 0 < p.limit
Larger (Ok None) = Unit {0}
Larger (Err e) = Unit {0}

pub next_larger : (limits : Limits) (k : List ℕ) (k_sign : ℕ) (l : List ℕ) (l_sign limit : ℕ) → Larger (next_answer limits k k_sign l l_sign limit)
unfolding next_answer
next_larger limits k k_sign l l_sign limit = go (sized limits k && sized limits l) (is_limit limit) (next_meets (signed_scalar k k_sign) (signed_scalar l l_sign) limit)
  where
    go : {n : Option Pays} (a b : Bool) → Next (fewest (signed_scalar k k_sign) (signed_scalar l l_sign)) limit n → Larger (cond a (cond b (Ok n) (Err BadLimit)) (Err BadScalar))
    go true true (pays u v f w q) = omega arith
    go true true (none q) = tt
    go true false h = tt
    go false b h = tt

-- the dearest scalar has few digits
pub dearest_fits : (size room : ℕ) → most_told (dearest_answer size room) < 2 ^ 32
unfolding dearest_answer
dearest_fits size room =
    let answer : Dearest = Ok (most size) in
    let few : Dearest → Type 0 = λ d. most_told d < 2 ^ 32 in
    either_way few (is_size size) (cond (is_room room) answer (Err NoRoom)) (Err BadSize)
    (λ e. either_way few (is_room room) answer (Err NoRoom) (λ _. let h = size_is size e in omega (arith, h, most_closed size h.0)) (omega arith)) (omega arith)

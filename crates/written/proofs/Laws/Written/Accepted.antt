-- The sheet of columns that make k and l is accepted for them, it is no longer than a sheet may be, and it costs the table and one
-- addition for each digit but the first: from what its columns are (Makes), and the laws of its steps (Stepping) and its lengths (Lengths).
use Rattle.std.specs.Prelude.{◌≡◌, refl, ℕ, ◌+◌, ◌*◌, ◌-◌, ◌^◌, ◌≤◌, ◌<◌, ℤ, pos, nat_abs, length}
use Rattle.std.proofs.Math.Path.{sym, ap, ap₂, subst}
use Rattle.std.proofs.Common.{◌∙◌}
use mathlib.Core.List.{List, [], ◌∷◌, ◌++◌, map}
use native.Mathlib.Omega.{arith}
use Rattle.digits.specs.Scalar.Length.{length_least}
use Rattle.digits.specs.declared.limits.Limits.{Limits}
use Rattle.digits.specs.Limits.{bits}
use Rattle.digits.specs.Row.{value}
use Rattle.digits.specs.Two.{Column, P, Q}
use Rattle.sheet.specs.declared.Plan.{Plan}
use Rattle.sheet.specs.declared.Plan.TheVariants.{J, I}
use Rattle.sheet.specs.Answer as Answer
use Rattle.sheet.specs.Answer.{Accepted, sheet_slots, sheet_additions}
use Rattle.sheet.specs.Digits.{columns, row_p, row_q, weight}
use Rattle.sheet.proofs.Laws.Answer.Exactly.{accepted_exactly}
use Rattle.sheet.specs.Line.{Header, plan, Line, table, end}
use Rattle.sheet.proofs.Laws.Plan.Cost.{doubled_once, doublings_append, tables_doublings}
use Rattle.sheet.proofs.Laws.Plan.Slots.{slots_most}
use Rattle.sheet.specs.Plan.{point, slots, tables, table_additions, table_doublings}
use Rattle.sheet.specs.Questions.{additions, doublings, result}
use Rattle.sheet.proofs.Laws.Digits.Accepted.{columns_value, steps_made, sheet_columns, sheet_additions_lem}
use Rattle.sheet.specs.Sound.{Steps, step_lines, sheet_lines, Windows, Allowed, Sound}
use Rattle.sheet.specs.Sound as Sounds
use Rattle.sheet.specs.Spelling.Spelled.{ShortHeader}
use Rattle.sheet.proofs.Laws.Spelling.Spelled.{spelled_read}
use Rattle.sheet.specs.Spelling.{lines}
use Rattle.written.specs.Enough.{Enough}
use Rattle.written.specs.Makes.{Makes}
use Rattle.written.specs.Written.{digits, steps_of, kind_of, first, second, heading, lines_with, lines_of, additions_of, doublings_of, sheet_of, written_additions, written_doublings}
use Rattle.written.specs.Written.Columns.{digits_make, digits_signs}
use Rattle.written.specs.Valid.{Valid, for_j, for_i}
use Rattle.written.specs.Written.Stepping.{Stepped}
use Rattle.written.proofs.Laws.Written.Stepping.{steps_of_lem}
use Rattle.written.specs.Written.Lengths.{sheet_short, sheet_bytes}

-- the plan of the header is the plan, and its windows are good ones
plan_heading : (p : Plan) (a d : ℕ) (k l : ℤ) → plan (heading p a d k l) ≡ p
plan_heading J a d k l = refl
plan_heading (I m1 m2) a d k l = refl

windows_heading : {p : Plan} → Valid p → Windows (kind_of p) (first p) (second p)
windows_heading for_j = Sounds.for_j refl refl
windows_heading (for_i v w) = Sounds.for_i v w

-- the doublings are those of the table and the steps; the header does not count
sheet_doublings : (h : Header) (p : Plan) (st : Steps)
    → doublings (sheet_lines h (tables p) st) ≡ table_doublings p + doublings (step_lines st ++ (end ∷ []))
unfolding doublings sheet_lines
sheet_doublings h p st =
    doublings_append (map table (tables p)) (step_lines st ++ (end ∷ []))
    ∙ ap (λ (n : ℕ). n + doublings (step_lines st ++ (end ∷ []))) (tables_doublings p)

few_additions : {p : Plan} → Valid p → table_additions p ≤ 30
few_additions for_j = omega arith
few_additions (for_i v w) = omega (arith, v.within, w.within)

pub few_doublings : (p : Plan) → table_doublings p ≤ 2
few_doublings J = omega arith
few_doublings (I m1 m2) = omega (arith, doubled_once m1, doubled_once m2)

small_plan : {p : Plan} → Valid p → (first p < 10000) × (second p < 10000) × (slots p < 10000)
small_plan for_j = (omega arith, omega arith, omega arith)
small_plan (for_i {m1} {m2} v w) = (omega (arith, v.within), omega (arith, w.within), omega (arith, slots_most m1 m2 v.within w.within))

module _ (p : Plan) (cs : List Column) (k l : ℤ) where
  -- the additions and doublings of the steps
  step_additions : ℕ
  step_additions = additions (step_lines (steps_of p cs) ++ (end ∷ []))

  step_doublings : ℕ
  step_doublings = doublings (step_lines (steps_of p cs) ++ (end ∷ []))

  -- the header of the lines, and its counts
  abbrev head : Header
  head = heading p (additions (lines_with p cs 0 0 k l)) (doublings (lines_with p cs 0 0 k l)) k l

  head_additions : additions (lines_with p cs 0 0 k l) ≡ table_additions p + step_additions
  unfolding step_additions
  head_additions = sheet_additions_lem (heading p 0 0 k l) p (steps_of p cs)

  head_doublings : doublings (lines_with p cs 0 0 k l) ≡ table_doublings p + step_doublings
  unfolding step_doublings
  head_doublings = sheet_doublings (heading p 0 0 k l) p (steps_of p cs)

  -- the additions of the lines are those that the header states
  lines_additions : additions (lines_of p cs k l) ≡ additions (lines_with p cs 0 0 k l)
  unfolding lines_of step_additions
  lines_additions = sheet_additions_lem head p (steps_of p cs) ∙ sym head_additions

  lines_doublings : doublings (lines_of p cs k l) ≡ doublings (lines_with p cs 0 0 k l)
  unfolding lines_of step_doublings
  lines_doublings = sheet_doublings head p (steps_of p cs) ∙ sym head_doublings

  -- the header states the counts of the lines
  pub header_of : lines_of p cs k l ≡ lines_with p cs (additions_of p cs k l) (doublings_of p cs k l) k l
  unfolding lines_of additions_of doublings_of
  header_of = ap₂ (λ (a d : ℕ). lines_with p cs a d k l) (sym lines_additions) (sym lines_doublings)

  module _ (makes : Makes p k l cs) where
    stepped : Stepped p cs (steps_of p cs)
    stepped = steps_of_lem p cs makes.fit makes.top

    -- the columns of the lines are the columns
    pub columns_of : columns (lines_of p cs k l) ≡ cs
    unfolding lines_of
    columns_of = sheet_columns head (tables p) (steps_of p cs) ∙ stepped.made

    -- the doublings: those of the table, and one for each place below the top
    pub doublings_of_lem : doublings_of p cs k l ≡ table_doublings p + (length cs - 1)
    unfolding step_doublings doublings_of
    doublings_of_lem = lines_doublings ∙ head_doublings ∙ ap (λ (n : ℕ). table_doublings p + n) stepped.doublings_are

    -- the additions: those of the table, and one for each step but the load
    pub cost_of : additions_of p cs k l ≡ table_additions p + (weight p cs - 1)
    unfolding step_additions additions_of
    cost_of =
        lines_additions ∙ head_additions
        ∙ ap (λ (n : ℕ). table_additions p + n) ((steps_made stepped.allowed).1 ∙ ap (λ (ds : List Column). weight p ds - 1) stepped.made)

    -- the lines come to kP + lQ
    result_of : result (lines_of p cs k l) ≡ point k l
    result_of =
        let c = columns_value (lines_of p cs k l) in
        ap₂ point (sym (c P) ∙ ap (λ (ds : List Column). value (row_p ds)) columns_of ∙ makes.reads_k)
        (sym (c Q) ∙ ap (λ (ds : List Column). value (row_q ds)) columns_of ∙ makes.reads_l)

    module _ (v : Valid p) (limits : Limits) (enough : Enough limits) (k_fits : nat_abs k < 2 ^ bits limits) (l_fits : nat_abs l < 2 ^ bits limits) where
      -- there are at most one more of them than the limits' bits
      pub places : length cs ≤ bits limits + 1
      places = omega (arith, makes.few, length_least (nat_abs k) (bits limits) k_fits, length_least (nat_abs l) (bits limits) l_fits)

      -- the additions: at most 30 in the table, and two at each place
      pub few_within : additions_of p cs k l ≤ 2 * bits limits + 32
      unfolding additions_of step_additions
      few_within = omega (arith, lines_additions, head_additions, few_additions v, stepped.additions_few, places)

      short : ShortHeader limits head
      unfolding step_additions step_doublings
      short =
          let s = small_plan v in
          record {
            short_m1 = s.0;
            short_m2 = s.1;
            short_slots = s.2;
            short_additions = omega (arith, head_additions, few_additions v, stepped.additions_few, places, enough.counts);
            short_doublings = omega (arith, head_doublings, few_doublings p, stepped.doublings_are, places, enough.counts);
            short_k = omega (arith, enough.scalars);
            short_l = omega (arith, enough.scalars);
          }

      -- the lines of the sheet are the lines that were spelled
      pub lines_within : lines limits (sheet_of p cs k l) ≡ lines_of p cs k l
      unfolding sheet_of lines_of
      lines_within =
          spelled_read limits enough.some_figures (lines_of p cs k l) (sheet_short limits v head short stepped.allowed)

      -- the sheet is no longer than the limits allow
      pub fits_within : length (sheet_of p cs k l) ≤ limits.sheet
      unfolding sheet_of lines_of
      fits_within =
          omega (
            arith,
            sheet_bytes limits v head short stepped.allowed enough.some_figures,
            stepped.doubles,
            stepped.additions_few,
            places,
            enough.sheet,
          )

      sound : Sound limits (sheet_of p cs k l) k l
      unfolding lines_of
      sound =
          record {
            head = head;
            steps = steps_of p cs;
            short = fits_within;
            laid = lines_within ∙ ap (λ (q : Plan). sheet_lines head (tables q) (steps_of p cs)) (sym (same));
            windows = windows_heading v;
            stored = ap slots (sym same);
            allowed = subst (λ (q : Plan). Allowed q (steps_of p cs)) (sym same) stepped.allowed;
            low = omega (arith, stepped.doubles, places, enough.doublings);
            adds = sym lines_additions ∙ ap additions (sym lines_within);
            doubles = sym lines_doublings ∙ ap doublings (sym lines_within);
            carries_k = refl;
            carries_l = refl;
            reads = ap result lines_within ∙ result_of;
          }
        where
          same : plan head ≡ p
          same = plan_heading p (additions (lines_with p cs 0 0 k l)) (doublings (lines_with p cs 0 0 k l)) k l

      -- the sheet is accepted for k and l
      pub accepted_within : Accepted limits (sheet_of p cs k l) k l
      accepted_within = (accepted_exactly limits (sheet_of p cs k l) k l).1 sound

      -- its plan
      pub plan_within : plan (Answer.heading (lines limits (sheet_of p cs k l))) ≡ p
      unfolding lines_of sheet_lines
      plan_within =
          ap (λ (ls : List Line). plan (Answer.heading ls)) lines_within
          ∙ plan_heading p (additions (lines_with p cs 0 0 k l)) (doublings (lines_with p cs 0 0 k l)) k l

      -- its slots are those of the plan
      pub slots_within : sheet_slots limits (sheet_of p cs k l) ≡ slots p
      unfolding sheet_slots
      slots_within = ap slots plan_within

      -- its additions are counted from its lines
      pub additions_within : sheet_additions limits (sheet_of p cs k l) ≡ additions_of p cs k l
      unfolding sheet_additions additions_of
      additions_within = ap additions lines_within

      -- its header states its doublings
      pub doubled_within : (Answer.heading (lines limits (sheet_of p cs k l))).doublings ≡ doublings_of p cs k l
      unfolding sheet_lines
      doubled_within = ap (λ (ls : List Line). (Answer.heading ls).doublings) (lines_within ∙ header_of)

-- the signs of the scalars change neither the additions nor the doublings
pub written_signs : (p : Plan) (k l : ℤ) → Valid p
    → (written_additions p k l ≡ written_additions p (pos (nat_abs k)) (pos (nat_abs l))) × (written_doublings p k l ≡ written_doublings p (pos (nat_abs k)) (pos (nat_abs l)))
written_signs p k l v =
    let x : ℤ = pos (nat_abs k) in
    let y : ℤ = pos (nat_abs l) in
    let a = digits_make k l v in
    let b = digits_make x y v in
    let same = digits_signs k l v in (
      cost_of p (digits p k l) k l a ∙ ap (λ (n : ℕ). table_additions p + (n - 1)) same.1 ∙ sym (cost_of p (digits p x y) x y b),
      doublings_of_lem p (digits p k l) k l a ∙ ap (λ (n : ℕ). table_doublings p + (n - 1)) same.0 ∙ sym (doublings_of_lem p (digits p x y) x y b),
    )

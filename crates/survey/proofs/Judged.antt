-- The questions in order, from what the pass found.
use mathlib.Core.Path.{◌≡◌, sym, ap, ap₂, ◌∙◌}
use mathlib.Core.Logic.{◌≢◌, ◌⊎◌, inl, inr}
use mathlib.Core.List.{List}
use mathlib.Core.Option.{none}
use Prim.Native.Nat.{ℕ, ◌≤◌, ◌<◌}
use native.Mathlib.Omega.{arith}
use lib.Dec.{eqb}
use lib.IntN.{pos}
use lib.ListN.{length}
use borrow.Author.Tests.{eq-eqb, ne_eqb, le-leb, lt-leb}
use Rattle.digits.specs.declared.limits.Limits.{Limits}
use Rattle.sheet.specs.Line.{Header, Line, plan}
use Rattle.sheet.specs.Spelling.{lines}
use Rattle.sheet.specs.Answer.{ask, heading, judged, answer}
use Rattle.sheet.specs.Questions.{too_long, misplaced, off_plan, disallowed, additions, doublings, miscounted}
use Rattle.lines.specs.declared.header.Header as header_of
use Rattle.survey.specs.Survey.State.{found, claimed_by}
use Rattle.survey.specs.Survey.Total.{total}
use Rattle.survey.specs.Survey.Scan.{Missed, Answered, Faultless}
use Rattle.survey.specs.Survey.{last, LastLeft, Refuses, JudgedBy, Surveyed}
use Rattle.survey.specs.declared.state.State.{State}
use Rattle.survey.specs.Survey.Total.Claim.{claim_true}
use Rattle.survey.specs.declared.fault.Fault.{Fault}
use Rattle.survey.specs.declared.fault.Question as Asking
use Rattle.std.specs.declared.result.Result.{Result}
use Rattle.std.specs.declared.result.Result.TheVariants.{Ok, Err}

-- a question is missed at a line
abbrev At : Asking.Question → ℕ → Fault → Type 0
At q n f = (f.question ≡ q) × (f.line ≡ n)

pub too_long_lem : (limits : Limits) (s : List ℕ) (f : Fault) → limits.sheet < length s → At Asking.TheVariants.Length 0 f → Refuses (answer limits s) f
unfolding answer too_long
too_long_lem limits s f h m = record { answers = rw (lt-leb (length s) limits.sheet h, m.0, m.1); early = rw m.0 (omega arith) }

short_enough : (limits : Limits) (s : List ℕ) → length s ≤ limits.sheet → answer limits s ≡ judged limits (heading (lines limits s)) (lines limits s)
unfolding answer too_long
short_enough limits s h = rw (le-leb (length s) limits.sheet h)

-- question 6
pub misplaced_line : (limits : Limits) (s : List ℕ) (f : Fault) → length s ≤ limits.sheet → Missed Asking.TheVariants.Spelling (misplaced (lines limits s)) f → Refuses (answer limits s) f
unfolding judged
misplaced_line limits s f h m = record { answers = short_enough limits s h ∙ rw (m.0, m.1); early = rw m.0 (omega arith) }

module _ {limits : Limits} {ls : List Line} {u : header_of.Header} {r : State} (a : Answered limits ls u r) where
  head : heading ls ≡ a.h
  head = ap heading a.is

  q7 : off_plan (heading ls) ls ≡ found r.tables.fault
  q7 = ap (λ (h : Header). off_plan h ls) head ∙ a.off_plan

  q8 : disallowed (plan (heading ls)) ls ≡ found r.steps.fault
  q8 = ap (λ (h : Header). disallowed (plan h) ls) head ∙ a.disallowed

  pub answer_7 : (f : Fault) → Missed Asking.TheVariants.Plan (found r.tables.fault) f → JudgedBy limits ls (Err f)
  unfolding judged
  answer_7 f m = record { answers = rw (a.misplaced, q7 ∙ m.1, m.0); early = rw m.0 (omega arith) }

  module _ (e7 : found r.tables.fault ≡ none) where
    pub answer_8 : (f : Fault) → Missed Asking.TheVariants.Steps (found r.steps.fault) f → JudgedBy limits ls (Err f)
    unfolding judged
    answer_8 f m = record { answers = rw (a.misplaced, q7 ∙ e7, q8 ∙ m.1, m.0); early = rw m.0 (omega arith) }

    pub answer_9 : found r.steps.fault ≡ none → (f : Fault) → Missed Asking.TheVariants.Doublings (found r.doubles.fault) f → JudgedBy limits ls (Err f)
    unfolding judged
    answer_9 e8 f m = record { answers = rw (a.misplaced, q7 ∙ e7, q8 ∙ e8, a.excess ∙ m.1, m.0); early = rw m.0 (omega arith) }

  module _ (f : Faultless r) where
    rest : judged limits (heading ls) ls ≡ ask 10 (miscounted (heading ls) ls) (last ls)
    unfolding judged
    rest = rw (a.misplaced, q7 ∙ f.tables, q8 ∙ f.steps, a.excess ∙ f.doubles)

    -- the counts of the header and of the lines
    adds : eqb (heading ls).additions (additions ls) ≡ eqb u.additions r.additions
    adds =
        ap₂ eqb (ap (λ (h : Header). h.additions) head ∙ sym (ap (λ (h : header_of.Header). h.additions) a.coded)) a.additions

    doubles : eqb (heading ls).doublings (doublings ls) ≡ eqb u.doublings r.doublings
    doubles =
        ap₂ eqb (ap (λ (h : Header). h.doublings) head ∙ sym (ap (λ (h : header_of.Header). h.doublings) a.coded)) a.doublings

    pub answer_counts : (g : Fault) → At Asking.TheVariants.Counts 1 g → ((u.additions ≡ r.additions) × (u.doublings ≢ r.doublings)) ⊎ (u.additions ≢ r.additions) → JudgedBy limits ls (Err g)
    unfolding miscounted
    answer_counts g m (inl n) =
        record { answers = rw (rest, adds ∙ eq-eqb u.additions r.additions n.0, doubles ∙ ne_eqb u.doublings r.doublings n.1, m.0, m.1); early = rw m.0 (omega arith) }
    answer_counts g m (inr n) = record { answers = rw (rest, adds ∙ ne_eqb u.additions r.additions n, m.0, m.1); early = rw m.0 (omega arith) }

    module _ (e : u.additions ≡ r.additions) where
      met : u.doublings ≡ r.doublings → judged limits (heading ls) ls ≡ last ls
      unfolding miscounted
      met g = rw (rest, adds ∙ eq-eqb u.additions r.additions e, doubles ∙ eq-eqb u.doublings r.doublings g)

      pub answer_met : u.doublings ≡ r.doublings → LastLeft limits ls
      answer_met g =
          let counted : a.h.doublings ≡ doublings ls = sym (ap (λ (h : header_of.Header). h.doublings) a.coded) ∙ g ∙ sym a.doublings in
          record {
            claim = λ p. ap (λ (h : Header). total p (claimed_by limits h) (pos 0) ls) head ∙ claim_true limits ls a.h a.rest a.is a.misplaced (a.off_plan ∙ f.tables) (a.excess ∙ f.doubles) counted p;
            answers = met g;
          }

-- a sheet that is short enough
pub whole_sheet : (limits : Limits) (s : List ℕ) {u : header_of.Header} {r : State} (out : Result (Unit {0}) Fault) → length s ≤ limits.sheet → Answered limits (lines limits s) u r → JudgedBy limits (lines limits s) out → Surveyed limits s out
whole_sheet limits s (Err f) h a j = record { answers = short_enough limits s h ∙ j.answers; early = j.early }
whole_sheet limits s (Ok met) h a j = record { head = a.h; rest = a.rest; heads = a.is; answers = short_enough limits s h ∙ j.answers }

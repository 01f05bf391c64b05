-- `survey_into` meets its contract: each return is one line of Judged, and the sums are those of all lines (Survey.Total.Claim).
use native.Mathlib.Omega.{arith}
use mathlib.Core.Path.{◌≡◌, sym, ap, subst, ◌∙◌}
use mathlib.Core.List.{List, []}
use mathlib.Core.Option.{some}
use Prim.Native.Nat.{ℕ, ◌≤◌}
use lib.IntN.{pos}
use lib.ListN.{length, drop}
use Rattle.std.specs.declared.result.Result.{Result}
use Rattle.std.specs.declared.result.Result.TheVariants.{Ok, Err}
use Rattle.std.proofs.lemmas.Result.{err_from_is_err_and}
use Rattle.digits.specs.declared.limits.Limits.{Limits}
use Rattle.digits.specs.Two.{Two, P, Q}
use Rattle.sheet.specs.declared.Plan.{Plan}
use Rattle.sheet.specs.Line.{Line, plan}
use Rattle.sheet.specs.Spelling.{lines}
use Rattle.sheet.specs.Answer.{heading}
use Rattle.lines.specs.Coded.{Opened}
use Rattle.lines.specs.declared.header.Header.{Header}
use Rattle.survey.specs.Sum.{limbs_of, most, Holds}
use Rattle.survey.specs.Survey.State.{plan_for, claimed_by, Behind}
use Rattle.survey.specs.Survey.Total.{total}
use Rattle.survey.specs.Survey.Scan.{Reached, Answered}
use Rattle.survey.specs.Survey.{JudgedBy, ResultIn}
use Rattle.survey.specs.declared.state.State.{State}
use Rattle.survey.specs.declared.fault.Fault.{Fault}
use Rattle.survey.proofs.HeaderTurns.{claimed_most, begin_plan}
use Rattle.survey.proofs.Digits.{holds_as}
use Rattle.survey.proofs.ScanTurns.{no_opening, surveyed_met, surveyed_not}
use Rattle.survey.proofs.Judged.{too_long_lem, misplaced_line, whole_sheet}
use Rattle.survey.proofs.questions.survey_into.Goals.{After-new-start}
use Rattle.survey.proofs.questions.survey_into.Goals as goal

pub returns-then-limits-sheet-clause-surveyed : goal.returns-then-limits-sheet-clause-surveyed
returns-then-limits-sheet-clause-surveyed c = too_long_lem _ c.args.sheet.now _ c.if-limits-sheet.true c.at.ensures

pub returns-in_default-clause-surveyed : goal.returns-in_default-clause-surveyed
returns-in_default-clause-surveyed c =
    let s = c.args.sheet.now in misplaced_line c.args.limits s _ c.if-limits-sheet.false (c.at-in_default.ensures.0, no_opening (lines c.args.limits s) c.in_default.ensures ∙ ap some (sym c.at-in_default.ensures.1))

-- the header, and the state behind it
module _ (c : After-new-start) where
  abbrev sheet : List ℕ
  sheet = c.args.sheet.now

  abbrev limits : Limits
  limits = c.args.limits

  abbrev all : List Line
  all = lines limits sheet

  abbrev head : Header
  head = c.in-Some.opening.header

  abbrev rest : List Line
  rest = lines limits (drop c.in-Some.opening.next sheet)

  short : length sheet ≤ limits.sheet
  short = c.if-limits-sheet.false

  opened : Opened limits sheet head c.in-Some.opening.next
  opened = c.in-Some.ensures

  behind : Behind limits opened.h c.new-start.result
  behind = c.new-start.ensures opened.h opened.is

  -- the plan is the header's
  planned : c.plan_of-plan.result ≡ plan opened.h
  planned = c.plan_of-plan.ensures ∙ ap plan_for opened.is ∙ begin_plan opened.h []

  -- the D lines to come are within the limit
  within : c.new-start.result.places ≤ limits.doublings
  within = omega (arith, behind.places, claimed_most limits.doublings (plan opened.h) opened.h.doublings)

  met : (r : State) → Reached c.plan_of-plan.result c.new-start.result rest r → Answered limits all head r
  met r f = surveyed_met opened.is behind all r opened.rest (subst (λ (p : Plan). Reached p c.new-start.result rest r) planned f)

  -- the sums of the lines behind the header are those of all
  from_all : (r : Two) → total r c.new-start.result.places (pos 0) rest ≡ total r (claimed_by limits (heading all)) (pos 0) all
  unfolding total
  from_all r =
      ap (λ (n : ℕ). total r n (pos 0) rest) (behind.places ∙ ap (λ (ls : List Line). claimed_by limits (heading ls)) (sym opened.rest))
      ∙ ap (total r (claimed_by limits (heading all)) (pos 0)) (sym opened.rest)

  -- where the claim is true, a sum is the result's number
  result-in : (r : Two) (xs : List ℕ) (out : Result (Unit {0}) Fault) → JudgedBy limits all out → Holds (length c.args.p.now) most xs (total r c.new-start.result.places (pos 0) rest) → ResultIn limits r sheet out xs
  result-in r xs (Err f) j h = tt
  result-in r xs (Ok u) j h = subst (Holds (limbs_of limits) most xs) (from_all r ∙ j.claim r) (holds_as c.requires.1.0.near.long h)

pub returns-in_err-state-clause-surveyed : goal.returns-in_err-state-clause-surveyed
returns-in_err-state-clause-surveyed c =
    let w = (goal.at.returns-in_err-state-clause-surveyed c).After-new-start in
    let e = c.in_err-state.ensures.scanned c.args.limits c.requires.0.figures in
    let o = opened w in
    let p = err_from_is_err_and c.from_residual.result c.from_residual.ensures.1 in
    rw (p.1, p.2) (misplaced_line c.args.limits c.args.sheet.now _ (short w) (e.0, surveyed_not o.is (behind w) (all w) _ o.rest e.1))

pub returns : goal.returns
returns c =
    let w = (goal.at.returns c).After-new-start in
    let e = c.in_ok-state.ensures in
    let h = c.requires.0.figures in
    let answered = met w _ (e.scanned c.args.limits h) in
    let j = c.questions.ensures c.args.limits (all w) answered in
    record {
      surveyed = whole_sheet c.args.limits c.args.sheet.now c.questions.result (short w) answered j;
      first = result-in w P _ c.questions.result j (e.first c.args.limits h);
      second = result-in w Q _ c.questions.result j (e.second c.args.limits h);
    }

-- The turns of the pass: what the state says of the lines to come stays the same from line to line.
use mathlib.Core.Path.{◌≡◌, refl, sym, ap, subst, ◌∙◌}
use mathlib.Core.Logic.{◌⊎◌, inl, inr}
use mathlib.Core.List.{List, [], ◌∷◌}
use mathlib.Core.Option.{none, some}
use Prim.Native.Nat.{ℕ, ◌+◌, ◌≤◌}
use native.Mathlib.Omega.{arith}
use Rattle.digits.specs.declared.limits.Limits.{Limits}
use Rattle.sheet.specs.declared.Plan.{Plan}
use Rattle.sheet.specs.Line.{Header, Line, plan, header, table, load, double, add, end, misspelled}
use Rattle.sheet.specs.Questions.{disallowed_from, excess_from, additions, doublings, misplaced, off_plan, disallowed, excess, after_header, after_load}
use Rattle.lines.specs.Coded.{coded_header, opening_of}
use Rattle.survey.specs.Survey.State.{found, earlier, rank, misplaced_from, off_plan_from, disallowed_in, excess_in, Counted, Follows, Behind, placed_in, differs_in}
use Rattle.survey.specs.Survey.Total.{places_after}
use Rattle.survey.specs.Survey.Scan.{Reached, Scanned, Answered}
use Rattle.survey.specs.declared.state.State.{State}
use Rattle.survey.specs.declared.phase.Phase.{Phase}
use Rattle.survey.specs.declared.phase.Phase.TheVariants.{Tables, Steps, Ended}
use Rattle.survey.specs.declared.fault.Fault.{Fault}
use Rattle.std.specs.declared.result.Result.{Result}
use Rattle.std.specs.declared.result.Result.TheVariants.{Ok, Err}
use Rattle.lines.specs.declared.header.Header as header_of
use Rattle.survey.proofs.Taken.{earlier_none}

-- by the plan, the state r says of the lines `rest` what s says of ls
pub record Going (plan : Plan) (s : State) (ls : List Line) (r : State) (rest : List Line) : Type 0 where
  pub misplaced : misplaced_from r rest ≡ misplaced_from s ls
  pub off_plan : off_plan_from plan r rest ≡ off_plan_from plan s ls
  pub disallowed : disallowed_in plan r rest ≡ disallowed_in plan s ls
  pub excess : excess_in r rest ≡ excess_in s ls
  pub additions : r.additions + additions rest ≡ s.additions + additions ls
  pub doublings : r.doublings + doublings rest ≡ s.doublings + doublings ls

pub going_start : (plan : Plan) (s : State) (ls : List Line) → Going plan s ls s ls
going_start plan s ls = record { misplaced = refl; off_plan = refl; disallowed = refl; excess = refl; additions = refl; doublings = refl }

module _ {plan : Plan} {s : State} {ls : List Line} {r : State} {rest : List Line} where
  pub going_same : {to : List Line} → rest ≡ to → Going plan s ls r rest → Going plan s ls r to
  going_same e g = subst (Going plan s ls r) e g

  -- one line more
  pub going_turn : {l : Line} {t : State} → Going plan s ls r (l ∷ rest) → Follows plan r l t → Going plan s ls t rest
  going_turn g f =
      record {
        misplaced = f.misplaced rest ∙ g.misplaced;
        off_plan = f.off_plan rest ∙ g.off_plan;
        disallowed = f.disallowed rest ∙ g.disallowed;
        excess = f.excess rest ∙ g.excess;
        additions = f.additions rest ∙ g.additions;
        doublings = f.doublings rest ∙ g.doublings;
      }

pub going_end : (plan : Plan) (s : State) (ls : List Line) (r : State) (out : Result State Fault) → Going plan s ls r [] → Scanned plan r [] out → Scanned plan s ls out
going_end plan s ls r (Ok t) g f =
    record {
      misplaced = sym g.misplaced ∙ f.misplaced;
      off_plan = sym g.off_plan ∙ f.off_plan;
      disallowed = sym g.disallowed ∙ f.disallowed;
      excess = sym g.excess ∙ f.excess;
      additions = sym g.additions ∙ f.additions;
      doublings = sym g.doublings ∙ f.doublings;
    }
going_end plan s ls r (Err n) g f = (f.0, sym g.misplaced ∙ f.1)

pub places_most : (n : ℕ) (l : Line) → places_after n l ≤ n
places_most n (header h) = omega arith
places_most n (table t) = omega arith
places_most n (load t) = omega arith
places_most n double = omega arith
places_most n (add t) = omega arith
places_most n end = omega arith
places_most n misspelled = omega arith

pub counted_turn : {plan : Plan} {r t : State} {l : Line} → Counted r → Follows plan r l t → t.line ≤ 100000 → Counted t
counted_turn c f h =
    record {
      few = h;
      tables = omega (arith, c.tables, f.tables, f.line);
      additions = omega (arith, c.additions, f.adds, f.line);
      doublings = omega (arith, c.doublings, f.doubles, f.line);
    }

-- ── behind the last line ────────────────────────────────────────────────────────────────────

missing_header : (n : ℕ) → after_header n [] ≡ some n
unfolding after_header
missing_header n = refl

missing_load : (n : ℕ) → after_load n [] ≡ some n
unfolding after_load
missing_load n = refl

pub missing : (s : State) → (s.phase ≡ Tables) ⊎ (s.phase ≡ Steps) → misplaced_from s [] ≡ some s.line
missing s (inl e) = ap (λ (p : Phase). placed_in p s.line []) e ∙ missing_header s.line
missing s (inr e) = ap (λ (p : Phase). placed_in p s.line []) e ∙ missing_load s.line

no_disallowed : (p : Plan) (t n : ℕ) → disallowed_from p t n [] ≡ none
unfolding disallowed_from
no_disallowed p t n = refl

no_excess : (k n : ℕ) → excess_from k n [] ≡ none
unfolding excess_from
no_excess k n = refl

pub reached_end : (plan : Plan) (s : State) → s.phase ≡ Ended → Reached plan s [] s
unfolding additions doublings
reached_end plan s e =
    record {
      misplaced = ap (λ (p : Phase). placed_in p s.line []) e;
      off_plan =
          ap (λ (p : Phase). earlier (found s.tables.fault) (differs_in p s.line (lib.ListN.drop s.tables.count (Rattle.sheet.specs.Plan.tables plan)) [])) e
          ∙ earlier_none (found s.tables.fault);
      disallowed = ap (earlier (found s.steps.fault)) (no_disallowed plan (rank s.steps.turn) s.line) ∙ earlier_none (found s.steps.fault);
      excess = ap (earlier (found s.doubles.fault)) (no_excess s.doubles.left s.line) ∙ earlier_none (found s.doubles.fault);
      additions = omega arith;
      doublings = omega arith;
    }

-- ── the first line ──────────────────────────────────────────────────────────────────────────

pub no_opening : (ls : List Line) → opening_of ls ≡ none → misplaced ls ≡ some 1
unfolding misplaced
no_opening [] e = refl
no_opening (header h ∷ ls) e = let z : ◌≡◌ {A = ℕ} 0 1 = cc in absurd (omega arith)
no_opening (table t ∷ ls) e = refl
no_opening (load t ∷ ls) e = refl
no_opening (double ∷ ls) e = refl
no_opening (add t ∷ ls) e = refl
no_opening (end ∷ ls) e = refl
no_opening (misspelled ∷ ls) e = refl

-- behind the header, the whole sheet
module _ {limits : Limits} {h : Header} {ls : List Line} {u : header_of.Header} {s : State} (e : u ≡ coded_header h) (b : Behind limits h s) where
  pub surveyed_met : (all : List Line) (r : State) → all ≡ header h ∷ ls → Reached (plan h) s ls r → Answered limits all u r
  surveyed_met all r i f =
      record {
        h = h;
        rest = ls;
        is = i;
        coded = e;
        misplaced = ap misplaced i ∙ sym (b.misplaced ls) ∙ f.misplaced;
        off_plan = ap (off_plan h) i ∙ sym (b.off_plan ls) ∙ f.off_plan;
        disallowed = ap (disallowed (plan h)) i ∙ sym (b.disallowed ls) ∙ f.disallowed;
        excess = ap (excess limits) i ∙ sym (b.excess ls) ∙ f.excess;
        additions = ap additions i ∙ sym (b.additions ls) ∙ f.additions;
        doublings = ap doublings i ∙ sym (b.doublings ls) ∙ f.doublings;
      }

  pub surveyed_not : (all : List Line) (n : ℕ) → all ≡ header h ∷ ls → misplaced_from s ls ≡ some n → misplaced all ≡ some n
  surveyed_not all n i f = ap misplaced i ∙ sym (b.misplaced ls) ∙ f

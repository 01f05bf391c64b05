-- A sheet is accepted exactly when it is sound. Assumes nothing.
use Rattle.std.specs.Prelude.{◌≡◌, refl, ◌↔◌, Bool, true, false, ◌&&◌, ℕ, ◌≤◌, leb, length, ℤ}
use Rattle.std.proofs.Math.Path.{sym, ap, ap₂}
use Rattle.std.proofs.Common.{subst, ◌∙◌, arith}
use Rattle.std.proofs.Math.Bool.{and-eq-true_iff}
use mathlib.Core.List.{List}
use Rattle.std.proofs.Math.Option.{Option, none, some}
use Rattle.std.proofs.Math.Dec.{eqb}
use borrow.Author.Tests.{eq-eqb, eqb-true, le-leb, leb-true}
use Rattle.digits.specs.declared.limits.Limits.{Limits}
use Rattle.sheet.specs.Plan.{Point, point, slots, tables}
use Rattle.sheet.specs.Line.{Header, plan, Line}
use Rattle.sheet.specs.Spelling.{lines}
use Rattle.sheet.specs.Questions.{unless, too_long, misplaced, off_plan, disallowed, excess, additions, doublings, miscounted, result, wrong}
use Rattle.sheet.specs.Answer.{Answer, accepted, ask, heading, judged, answer, Accepted, sheet_slots, sheet_additions}
use Rattle.sheet.specs.Sound.{sheet_lines, Sound}
use Rattle.sheet.specs.Questions.Placed.{fault, LaidOut, laid_out, placed}
use Rattle.sheet.specs.Questions.Planned.{point_same, same_point_lem, Planned, planned_of, of_planned}
use Rattle.sheet.specs.Questions.Allowed.{sheet_allowed, allowed_sheet, sheet_low, low_sheet}

met : (q : ℕ) (o : Option ℕ) (a : Answer) → ask q o a ≡ accepted → (o ≡ none) × (a ≡ accepted)
met q none a e = (refl, e)
met q (some n) a e = let z : ◌≡◌ {A = ℕ} 0 1 = cc in absurd (omega arith)

unless_none : (b : Bool) (n : ℕ) → unless b n ≡ none → b ≡ true
unless_none true n e = refl
unless_none false n e = absurd (fault e)

record AllMet (limits : Limits) (h : Header) (ls : List Line) : Type 0 where
  placed_all : misplaced ls ≡ none
  planned : off_plan h ls ≡ none
  allowed_all : disallowed (plan h) ls ≡ none
  low_all : excess limits ls ≡ none
  counted : miscounted h ls ≡ none
  right : wrong h ls ≡ none

all_met : (limits : Limits) (h : Header) (ls : List Line) → judged limits h ls ≡ accepted → AllMet limits h ls
unfolding judged
all_met limits h ls e =
    let (a, e7) = met 6 (misplaced ls) _ e in
    let (b, e8) = met 7 (off_plan h ls) _ e7 in
    let (c, e9) = met 8 (disallowed (plan h) ls) _ e8 in
    let (d, e10) = met 9 (excess limits ls) _ e9 in
    let (f, e11) = met 10 (miscounted h ls) _ e10 in
    let (g, x) = met 11 (wrong h ls) _ e11 in
    record { placed_all = a; planned = b; allowed_all = c; low_all = d; counted = f; right = g }

met_all : (limits : Limits) (h : Header) (ls : List Line) → AllMet limits h ls → judged limits h ls ≡ accepted
unfolding judged
met_all limits h ls m =
    rw (m.placed_all, m.planned, m.allowed_all, m.low_all, m.counted, m.right)

module _ (h : Header) (ls : List Line) where
  counted_of : miscounted h ls ≡ none → (h.additions ≡ additions ls) × (h.doublings ≡ doublings ls)
  unfolding miscounted
  counted_of e =
      let c = unless_none (eqb h.additions (additions ls) && eqb h.doublings (doublings ls)) 1 e in
      let (a, b) = (and-eq-true_iff (eqb h.additions (additions ls)) (eqb h.doublings (doublings ls))).0 c in
      (eqb-true h.additions (additions ls) a, eqb-true h.doublings (doublings ls) b)

  of_counted : h.additions ≡ additions ls → h.doublings ≡ doublings ls → miscounted h ls ≡ none
  unfolding miscounted
  of_counted a b = rw (eq-eqb h.additions (additions ls) a, eq-eqb h.doublings (doublings ls) b)

  right_of : wrong h ls ≡ none → result ls ≡ point h.k h.l
  unfolding wrong
  right_of e = point_same (result ls) _ (unless_none _ 1 e)

  of_right : result ls ≡ point h.k h.l → wrong h ls ≡ none
  unfolding wrong
  of_right e = rw (e, same_point_lem (point h.k h.l))

module _ (limits : Limits) (s : List ℕ) (k l : ℤ) where
  sound_of : LaidOut (lines limits s) → length s ≤ limits.sheet → judged limits (heading (lines limits s)) (lines limits s) ≡ accepted
      → (heading (lines limits s)).k ≡ k → (heading (lines limits s)).l ≡ l → Sound limits s k l
  unfolding sheet_lines
  sound_of o short e ek el =
      let ls : List Line = sheet_lines o.head o.points o.steps in
      let m : AllMet limits o.head ls =
      all_met limits o.head ls (subst (λ (x : List Line). judged limits (heading x) x ≡ accepted) o.laid e) in
      let w : Planned o.head o.points = planned_of o.head o.points o.steps m.planned in
      let c = counted_of o.head ls m.counted in
      let hk : o.head.k ≡ k = sym (ap (λ (x : List Line). (heading x).k) o.laid) ∙ ek in
      let hl : o.head.l ≡ l = sym (ap (λ (x : List Line). (heading x).l) o.laid) ∙ el in
      record {
        head = o.head;
        steps = o.steps;
        short = short;
        laid = o.laid ∙ ap (λ (ts : List Point). sheet_lines o.head ts o.steps) (sym w.same);
        windows = w.windows;
        stored = w.stored;
        allowed = sheet_allowed (plan o.head) o.head o.points o.steps m.allowed_all;
        low = sheet_low limits o.head o.points o.steps m.low_all;
        adds = c.0 ∙ ap additions (sym o.laid);
        doubles = c.1 ∙ ap doublings (sym o.laid);
        carries_k = hk;
        carries_l = hl;
        reads =
            ap result o.laid ∙ right_of o.head ls m.right ∙ ap₂ point hk hl;
      }

  accepted_sound : Accepted limits s k l → Sound limits s k l
  unfolding answer too_long
  accepted_sound a =
      let (five, e) = met 5 (too_long limits s) _ a.met in
      sound_of
      (laid_out (lines limits s) (all_met limits _ (lines limits s) e).placed_all)
      (leb-true (length s) limits.sheet (unless_none (leb (length s) limits.sheet) 0 five))
      e
      a.carries_k
      a.carries_l

  sound_met : (a : Sound limits s k l) → AllMet limits a.head (sheet_lines a.head (tables (plan a.head)) a.steps)
  sound_met a =
      let ls : List Line = sheet_lines a.head (tables (plan a.head)) a.steps in
      record {
        placed_all = placed a.head (tables (plan a.head)) a.steps;
        planned = of_planned a.head a.steps a.windows a.stored;
        allowed_all = allowed_sheet (plan a.head) a.head (tables (plan a.head)) a.steps a.allowed;
        low_all = low_sheet limits a.head (tables (plan a.head)) a.steps a.low;
        counted = of_counted a.head ls (a.adds ∙ ap additions a.laid) (a.doubles ∙ ap doublings a.laid);
        right =
            of_right a.head ls
            (sym (ap result a.laid) ∙ a.reads
            ∙ ap₂ point (sym a.carries_k) (sym a.carries_l));
      }

  sound_accepted : Sound limits s k l → Accepted limits s k l
  unfolding answer too_long sheet_lines
  sound_accepted a =
      record {
        met =
            rw (le-leb (length s) limits.sheet a.short, a.laid)
            (met_all limits a.head (sheet_lines a.head (tables (plan a.head)) a.steps) (sound_met a));
        carries_k = ap (λ (x : List Line). (heading x).k) a.laid ∙ a.carries_k;
        carries_l = ap (λ (x : List Line). (heading x).l) a.laid ∙ a.carries_l;
      }

-- a sheet is accepted for k and l exactly when it is a sheet for k and l
pub accepted_exactly : (limits : Limits) (s : List ℕ) (k l : ℤ) → Accepted limits s k l ↔ Sound limits s k l
accepted_exactly limits s k l = (accepted_sound limits s k l, sound_accepted limits s k l)

-- its header states the slots that it needs and its additions
pub accepted_states : (limits : Limits) (s : List ℕ) (k l : ℤ) → Accepted limits s k l
    → ((heading (lines limits s)).slots ≡ sheet_slots limits s) × ((heading (lines limits s)).additions ≡ sheet_additions limits s)
unfolding sheet_lines sheet_slots sheet_additions
accepted_states limits s k l a =
    let b : Sound limits s k l = accepted_sound limits s k l a in
    let e : heading (lines limits s) ≡ b.head = ap heading b.laid in (
      ap (λ (h : Header). h.slots) e ∙ b.stored ∙ sym (ap (λ (h : Header). slots (plan h)) e),
      ap (λ (h : Header). h.additions) e ∙ b.adds,
    )

-- What the lines behind a header mean to each question. From the definitions of Questions.
use mathlib.Core.Path.{◌≡◌, refl, ap, ◌∙◌}
use mathlib.Core.Bool.{Bool, true, false, cond}
use mathlib.Core.List.{List, ◌∷◌}
use mathlib.Core.Option.{some}
use Prim.Native.Nat.{ℕ, zero, suc, ◌+◌, ◌-◌, ◌≤◌}
use native.Mathlib.Omega.{arith}
use lib.Dec.{leb}
use borrow.Author.Tests.{leb-true}
use Rattle.digits.specs.declared.limits.Limits.{Limits}
use Rattle.sheet.specs.declared.Plan.{Plan}
use Rattle.sheet.specs.Plan.{tables, slots, table_doublings}
use Rattle.sheet.specs.Line.{Line, Header, header}
use Rattle.sheet.specs.Questions.{unless, table_lines, differs, disallowed_from, disallowed, excess_from, excess, additions, doublings, after_header, misplaced, off_plan, windowed}
use Rattle.lines.specs.Coded.{kind_of, coded_header}
use Rattle.survey.specs.Survey.State.{earlier, plan_for, is_on_plan, claimed_of, claimed, claimed_by}

-- a claim keeps the limit
pub claimed_most : (most : ℕ) (p : Plan) (n : ℕ) → claimed_of most p n ≤ most
claimed_most most p n = go (leb (n - table_doublings p) most) refl
  where
    go : (b : Bool) → leb (n - table_doublings p) most ≡ b → cond b (n - table_doublings p) 0 ≤ most
    go true e = leb-true (n - table_doublings p) most e
    go false e = omega arith

module _ (h : Header) (ls : List Line) where
  pub begin_placed : after_header 2 ls ≡ misplaced (header h ∷ ls)
  unfolding misplaced
  begin_placed = refl

  kind_back : kind_of (coded_header h).kind ≡ h.kind
  kind_back = go h.kind
    where
      go : (k : Rattle.sheet.specs.Line.Kind) → kind_of (Rattle.lines.specs.Coded.kind_as k) ≡ k
      go Rattle.sheet.specs.Line.joint = refl
      go Rattle.sheet.specs.Line.interleaved = refl

  pub begin_plan : plan_for (coded_header h) ≡ Rattle.sheet.specs.Line.plan h
  begin_plan = ap (λ (k : Rattle.sheet.specs.Line.Kind). Rattle.sheet.specs.Line.plan_of k h.m1 h.m2) kind_back

  pub begin_tables : (b : Bool) → b ≡ is_on_plan (coded_header h)
      → earlier (unless b 1) (differs 2 (tables (Rattle.sheet.specs.Line.plan h)) (table_lines ls)) ≡ off_plan h (header h ∷ ls)
  unfolding off_plan table_lines
  begin_tables b e =
      go b (e ∙ rw kind_back)
    where
      go : (c : Bool) → c ≡ (mathlib.Core.Bool.◌&&◌ (windowed h.kind h.m1 h.m2) (lib.Dec.eqb h.slots (slots (Rattle.sheet.specs.Line.plan h))))
          → earlier (unless c 1) (differs 2 (tables (Rattle.sheet.specs.Line.plan h)) (table_lines ls))
          ≡ cond (mathlib.Core.Bool.◌&&◌ (windowed h.kind h.m1 h.m2) (lib.Dec.eqb h.slots (slots (Rattle.sheet.specs.Line.plan h)))) (differs 2 (tables (Rattle.sheet.specs.Line.plan h)) (table_lines ls)) (some 1)
      go true f = rw (← f)
      go false f = rw (← f)

  pub begin_disallowed : (p : Plan) → disallowed_from p 0 2 ls ≡ disallowed p (header h ∷ ls)
  unfolding disallowed disallowed_from
  begin_disallowed p = refl

  pub begin_excess : (limits : Limits) → excess_from limits.doublings 2 ls ≡ excess limits (header h ∷ ls)
  unfolding excess excess_from
  begin_excess limits = go limits.doublings
    where
      go : (left : ℕ) → excess_from left 2 ls ≡ excess_from left 1 (header h ∷ ls)
      go zero = refl
      go (suc left) = refl

  pub begin_additions : 0 + additions ls ≡ additions (header h ∷ ls)
  unfolding additions
  begin_additions = omega arith

  pub begin_doublings : 0 + doublings ls ≡ doublings (header h ∷ ls)
  unfolding doublings
  begin_doublings = omega arith

  pub begin_claimed : (limits : Limits) → claimed limits (coded_header h) ≡ claimed_by limits h
  begin_claimed limits = ap (λ (p : Plan). claimed_of limits.doublings p h.doublings) begin_plan

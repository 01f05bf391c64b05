-- What a line adds to the sums: a step its digit at its place, any other line nothing.
use mathlib.Core.Path.{◌≡◌, refl, sym, ap, subst, ◌∙◌}
use mathlib.Core.Logic.{◌⊎◌, inl, inr}
use mathlib.Core.List.{List, [], ◌∷◌}
use Prim.Native.Nat.{ℕ, suc, ◌^◌, ◌≤◌, ◌<◌}
use native.Mathlib.Omega.{arith}
use lib.IntN.{ℤ, pos, negsuc, ◌+ℤ◌, ◌*ℤ◌}
use Rattle.digits.specs.Two.{Two, P, Q, digit}
use Rattle.sheet.specs.Plan.{Point}
use Rattle.sheet.specs.Line.{Line, load, add}
use Rattle.lines.specs.Coded.{signed, whole, coded_point, coded}
use Rattle.lines.specs.declared.point.Point as point_type
use Rattle.lines.specs.declared.line.Line as lines_of
use Rattle.lines.specs.declared.line.Line.TheVariants.{Load, Add}
use Rattle.lines.proofs.Was.{was}
use Rattle.survey.specs.Sum.{most, Holds, Added}
use Rattle.survey.proofs.Digits.{holds_later}
use Rattle.survey.specs.Survey.Scan.{Summed}
use Rattle.survey.specs.declared.state.State.{State}
use Rattle.survey.specs.declared.fault.Fault.{Fault}
use Rattle.std.specs.declared.result.Result.{Result}
use Rattle.std.specs.declared.result.Result.TheVariants.{Ok, Err}
use Rattle.survey.specs.Survey.Total.{places_after, sum_after, total, Adds}

-- the digit of a row, as the code has it
abbrev pub whole_in : Two → point_type.Point → ℤ
whole_in P t = whole t.p
whole_in Q t = whole t.q

whole_signed : (z : ℤ) → whole (signed z) ≡ z
whole_signed (pos n) = refl
whole_signed (negsuc n) = refl

whole_digit : (r : Two) (t : point_type.Point) (y : Point) → t ≡ coded_point y → whole_in r t ≡ digit y r
whole_digit P t y e = ap (whole_in P) e ∙ whole_signed y.p
whole_digit Q t y e = ap (whole_in Q) e ∙ whole_signed y.q

module _ (r : Two) (n : ℕ) {xs : List ℕ} where
  -- a step
  step_adds : {ys : List ℕ} (t : point_type.Point) (y : Point) → t ≡ coded_point y → Added n (whole_in r t) xs ys → (x l : Line) → x ≡ l
      → ((z : ℤ) → sum_after r n z l ≡ z +ℤ pos (2 ^ n) *ℤ digit y r) → Adds r n x xs ys
  step_adds {ys} t y e a x l i s =
      λ c m z h. subst (Holds c (suc m) ys) (ap (λ (d : ℤ). z +ℤ pos (2 ^ n) *ℤ d) (whole_digit r t y e) ∙ sym (ap (sum_after r n z) i ∙ s z)) (a c m z h)

  pub step_line_adds : {ys : List ℕ} (x : Line) (t : point_type.Point) {l : lines_of.Line} → l ≡ coded x → (l ≡ Load t) ⊎ (l ≡ Add t) → Added n (whole_in r t) xs ys → Adds r n x xs ys
  step_line_adds x t e (inl f) a = let w = was x (sym e ∙ f) in step_adds t w.0 w.2 a x (load w.0) w.1 (λ z. refl)
  step_line_adds x t e (inr f) a = let w = was x (sym e ∙ f) in step_adds t w.0 w.2 a x (add w.0) w.1 (λ z. refl)

-- ── line by line ────────────────────────────────────────────────────────────────────────────

-- with the lines `rest` to come, the limbs come to what all lines come to
pub record Running (c : ℕ) (r : Two) (first : ℕ) (all : List Line) (at n : ℕ) (rest : List Line) (xs : List ℕ) : Type 0 where
  z : ℤ
  pub holds : Holds c at xs z
  comes : total r n z rest ≡ total r first (pos 0) all

pub running_start : {c : ℕ} (r : Two) (first at : ℕ) (all : List Line) {xs : List ℕ} → Holds c 0 xs (pos 0) → Running c r first all at first all xs
running_start r first at all h = record { z = pos 0; holds = holds_later h (omega arith); comes = refl }

module _ {c : ℕ} {r : Two} {first : ℕ} {all : List Line} {at n : ℕ} where
  -- one line more
  pub running_turn : {l : Line} {here rest : List Line} {next m : ℕ} {xs ys : List ℕ}
      → Running c r first all at n here xs → here ≡ l ∷ rest → Adds r n l xs ys → at < next → m ≡ places_after n l → Running c r first all next m rest ys
  unfolding total
  running_turn {l} {rest = rest} g e a h f =
      record {
        z = sum_after r n g.z l;
        holds = holds_later (a c at g.z g.holds) (omega arith);
        comes = ap (λ (k : ℕ). total r k (sum_after r n g.z l) rest) f ∙ ap (total r n g.z) (sym e) ∙ g.comes;
      }

  -- behind the last one
  pub running_end : {rest : List Line} {xs : List ℕ} → Running c r first all at n rest xs → rest ≡ [] → at ≤ most → Holds c most xs (total r first (pos 0) all)
  unfolding total
  running_end {xs = xs} g e h = subst (Holds c most xs) (ap (total r n g.z) (sym e) ∙ g.comes) (holds_later g.holds h)

pub summed : {c : ℕ} (r : Two) (s : State) (ls : List Line) (out : Result State Fault) {xs : List ℕ} → Holds c most xs (total r s.places (pos 0) ls) → Summed c r s ls out xs
summed r s ls (Ok t) h = h
summed r s ls (Err f) h = tt

-- A sheet keeps to its plan exactly when its windows, slots and T lines are the plan's. Assumes nothing.
use Rattle.std.specs.Prelude.{◌≡◌, refl, true, ◌&&◌, List, [], ◌∷◌, ℕ, suc, eqb, ℤ, pos, negsuc}
use Rattle.std.proofs.Common.{ap, ap₂, ◌∙◌, eq-eqb, eqb-true}
use Rattle.std.proofs.Math.Bool.{and-eq-true_iff}
use Rattle.std.proofs.lemmas.Bool.{false≢true}
use Rattle.std.proofs.Math.Option.{none}
use Rattle.sheet.specs.Plan.{Point, point, slots, tables}
use Rattle.digits.specs.Row.Window.{window_parts, parts_window}
use Rattle.digits.specs.Row.{is_window}
use Rattle.sheet.specs.Line.{Kind, joint, interleaved, Header, plan}
use Rattle.sheet.specs.Questions.{windowed, table_lines, same_number, same_point, differs, off_plan}
use Rattle.sheet.specs.Sound.{Steps, nothing, loaded, sheet_lines, Window, Windows, for_j, for_i}
use Rattle.sheet.specs.Questions.Placed.{fault, held_none}

number_same : (a b : ℤ) → same_number a b ≡ true → a ≡ b
number_same (pos a) (pos b) e = ap pos (eqb-true a b e)
number_same (pos a) (negsuc b) e = absurd (false≢true e)
number_same (negsuc a) (pos b) e = absurd (false≢true e)
number_same (negsuc a) (negsuc b) e = ap negsuc (eqb-true a b e)

same_number_lem : (a : ℤ) → same_number a a ≡ true
same_number_lem (pos a) = eq-eqb a a refl
same_number_lem (negsuc a) = eq-eqb a a refl

pub point_same : (s t : Point) → same_point s t ≡ true → s ≡ t
point_same s t e =
    let (a, b) = (and-eq-true_iff (same_number s.p t.p) (same_number s.q t.q)).0 e in
    ap₂ point (number_same s.p t.p a) (number_same s.q t.q b)

pub same_point_lem : (t : Point) → same_point t t ≡ true
same_point_lem t = rw (same_number_lem t.p, same_number_lem t.q)

points_same : (n : ℕ) (us ts : List Point) → differs n us ts ≡ none → us ≡ ts
unfolding differs
points_same n [] [] e = refl
points_same n [] (t ∷ ts) e = absurd (fault e)
points_same n (u ∷ us) [] e = absurd (fault e)
points_same n (u ∷ us) (t ∷ ts) e =
    let (a, b) = held_none (same_point u t) (differs (suc n) us ts) n e in
    ap₂ (λ (x : Point) (xs : List Point). x ∷ xs) (point_same u t a) (points_same (suc n) us ts b)

same_points : (n : ℕ) (ts : List Point) → differs n ts ts ≡ none
unfolding differs
same_points n [] = refl
same_points n (t ∷ ts) = rw (same_point_lem t) (same_points (suc n) ts)

sheet_tables : (h : Header) (ts : List Point) (st : Steps) → table_lines (sheet_lines h ts st) ≡ ts
unfolding table_lines sheet_lines
sheet_tables h [] nothing = refl
sheet_tables h [] (loaded t ms) = refl
sheet_tables h (t ∷ ts) st = ap (λ (x : List Point). t ∷ x) (sheet_tables h ts st)

pub window_of : (m : ℕ) → is_window m ≡ true → Window m
window_of m e = let (a, b) = window_parts m e in record { odd = a; within = b }

pub of_window : {m : ℕ} → Window m → is_window m ≡ true
of_window {m} w = parts_window m w.odd w.within

windows_of : (k : Kind) (m1 m2 : ℕ) → windowed k m1 m2 ≡ true → Windows k m1 m2
windows_of joint m1 m2 e =
    let (a, b) = (and-eq-true_iff (eqb m1 1) (eqb m2 1)).0 e in
    for_j (eqb-true m1 1 a) (eqb-true m2 1 b)
windows_of interleaved m1 m2 e =
    let (a, b) = (and-eq-true_iff (is_window m1) (is_window m2)).0 e in
    for_i (window_of m1 a) (window_of m2 b)

of_windows : {k : Kind} {m1 m2 : ℕ} → Windows k m1 m2 → windowed k m1 m2 ≡ true
of_windows (for_j {m1} {m2} a b) = rw (eq-eqb m1 1 a, eq-eqb m2 1 b)
of_windows (for_i a b) = rw (of_window a, of_window b)

pub record Planned (h : Header) (ts : List Point) : Type 0 where
  pub windows : Windows h.kind h.m1 h.m2
  pub stored : h.slots ≡ slots (plan h)
  pub same : tables (plan h) ≡ ts

pub planned_of : (h : Header) (ts : List Point) (st : Steps) → off_plan h (sheet_lines h ts st) ≡ none → Planned h ts
unfolding off_plan
planned_of h ts st e =
    let (w, d) = held_none (windowed h.kind h.m1 h.m2 && eqb h.slots (slots (plan h))) _ 1 e in
    let (a, b) = (and-eq-true_iff (windowed h.kind h.m1 h.m2) (eqb h.slots (slots (plan h)))).0 w in
    record {
      windows = windows_of h.kind h.m1 h.m2 a;
      stored = eqb-true h.slots (slots (plan h)) b;
      same = points_same 2 (tables (plan h)) (table_lines (sheet_lines h ts st)) d ∙ sheet_tables h ts st;
    }

pub of_planned : (h : Header) (st : Steps) → Windows h.kind h.m1 h.m2 → h.slots ≡ slots (plan h)
    → off_plan h (sheet_lines h (tables (plan h)) st) ≡ none
unfolding off_plan
of_planned h st w e =
    rw (of_windows w, eq-eqb h.slots (slots (plan h)) e, sheet_tables h (tables (plan h)) st) (same_points 2 (tables (plan h)))

-- The line at a place of a sheet: up to the first line feed from there on.
use mathlib.Core.Path.{◌≡◌, refl, sym, ap, subst, ◌∙◌}
use mathlib.Core.Logic.{◌≢◌}
use mathlib.Core.List.{List, [], ◌∷◌, ◌++◌}
use mathlib.Core.Option.{some}
use Prim.Native.Nat.{ℕ, suc, ◌+◌, ◌≤◌, ◌<◌}
use native.Mathlib.Omega.{arith}
use lib.ListN.{length, get_or, take, drop, length-drop}
use lib.Seq.{drop-cons, take-suc, split_at, drop-drop}
use Rattle.digits.specs.declared.limits.Limits.{Limits}
use Rattle.digits.specs.Limits.{card}
use Rattle.sheet.specs.Line as spec
use Rattle.sheet.specs.Line.{double, misspelled}
use Rattle.sheet.specs.Spelling.{line_feed, cut, read_behind, read_line, lines}
use Rattle.sheet.specs.Spelling.Cut.{Lacks, lines_none, lines_more, lines_last}
use Rattle.sheet.proofs.Laws.Spelling.Spelled.{spelled_line}
use Rattle.sheet.specs.Every.{empty}
use Rattle.sheet.specs.Spelling.Field.{First}
use Rattle.sheet.proofs.CutTurns.{first_all, lacks_turn}
use Rattle.lines.specs.Coded.{coded, pointed, Doubles, Took, Past}
use Rattle.lines.specs.Short.{Begins}
use Rattle.lines.specs.declared.point.Point.{Point}
use Rattle.lines.specs.declared.line.Line.{Line}
use Rattle.lines.specs.declared.line.Line.TheVariants.{Double, Other}

-- the line at a place
module _ (limits : Limits) (s : List ℕ) (at n : ℕ) (f : First line_feed (drop at s) n) where
  pub lines_at : n < length (drop at s) → lines limits (drop at s) ≡ read_line limits (take n (drop at s)) ∷ lines limits (drop (at + n + 1) s)
  lines_at w =
      let next : at + suc n ≡ at + n + 1 = omega arith in
      ap (lines limits) (split_at (drop at s) n 0 w ∙ ap (λ (c : ℕ). take n (drop at s) ++ c ∷ drop (suc n) (drop at s)) (f.found w))
      ∙ lines_more limits f.lacks (drop (suc n) (drop at s))
      ∙ ap (λ (t : List ℕ). read_line limits (take n (drop at s)) ∷ lines limits t) (drop-drop (suc n) at s ∙ ap (λ (m : ℕ). drop m s) next)

  module _ (h : at < length s) where
    pub lines_end : length (drop at s) ≤ n → lines limits (drop at s) ≡ misspelled ∷ lines limits (drop (length s) s)
    lines_end w =
        let here : drop at s ≡ get_or s at 0 ∷ drop (suc at) s = drop-cons s at 0 h in
        ap (lines limits) here
        ∙ lines_last limits (subst (Lacks line_feed) here (first_all f w))
        ∙ ap (λ (t : List spec.Line). misspelled ∷ t) (sym (lines_none limits))
        ∙ ap (λ (t : List ℕ). misspelled ∷ lines limits t) (sym (lib.Seq.drop-length s))

    pub took_line : n < length (drop at s) → (l : Line) → l ≡ coded (read_line limits (take n (drop at s))) → Took limits s at l (at + n + 1)
    took_line w l e =
        record {
          meant = read_line limits (take n (drop at s));
          is = e;
          rest = lines_at w;
          later = omega arith;
          within = omega (arith, length-drop at s);
        }

    pub took_last : length (drop at s) ≤ n → Took limits s at Other (length s)
    took_last w = record { meant = misspelled; is = refl; rest = lines_end w; later = h; within = omega arith }

-- a D line at a place
double_alone : (limits : Limits) → read_line limits (68 ∷ []) ≡ double
unfolding read_line read_behind cut
double_alone limits = refl

pub took_double : (limits : Limits) (s : List ℕ) (at : ℕ) → at < length s → Doubles (drop at s) → Took limits s at Double (at + 2)
took_double limits s at h d =
    let some : 0 < length (drop at s) = omega (arith, d.long) in
    let one : take 1 (drop at s) ≡ 68 ∷ [] = take-suc (drop at s) 0 0 some ∙ ap (λ (c : ℕ). c ∷ []) d.letter in
    let other : get_or (drop at s) 0 0 ≢ line_feed = λ e. absurd (omega (arith, e, d.letter)) in
    let f : First line_feed (drop at s) 1 = record { most = omega arith; lacks = lacks_turn line_feed (drop at s) 0 some other empty; found = λ k. d.end } in
    let next : at + 1 + 1 ≡ at + 2 = omega arith in
    subst (Took limits s at Double) next
    (took_line limits s at 1 f h (omega (arith, d.long)) Double (ap coded (sym (double_alone limits) ∙ ap (read_line limits) (sym one))))

-- a line with a point at a place
pub took_short : (limits : Limits) → 1 ≤ limits.figures → (s : List ℕ) (at letter end : ℕ) (t : Point) (b : Begins (drop at s) letter t end) (l : Line)
    → l ≡ coded (pointed letter (some b.point)) → Took limits s at l (at + end)
took_short limits h s at letter end t b l e =
    let x = pointed letter (some b.point) in
    record {
      meant = x;
      is = e;
      rest = ap (lines limits) b.bytes ∙ spelled_line limits h x (b.short limits) (drop end (drop at s)) ∙ ap (λ (u : List ℕ). x ∷ lines limits u) (drop-drop end at s);
      later = omega arith;
      within = omega (arith, length-drop at s);
    }

-- a place of the sheet, and one past its end
abbrev Found : List ℕ → ℕ → Line → ℕ → Type 0
Found s at l next = (at < length s → (limits : Limits) → 1 ≤ limits.figures → Took limits s at l next) × (length s ≤ at → Past s l next)

module _ {s : List ℕ} {at next : ℕ} {l : Line} where
  pub line_inside : ((limits : Limits) → 1 ≤ limits.figures → Took limits s at l next) → Found s at l next
  line_inside t = (λ h. t, λ h. let k = t card (omega arith) in absurd (omega (arith, k.later, k.within)))

-- The one line of an order: where its line feed is the first and the last byte of that kind, and where not.
use mathlib.Core.Path.{◌≡◌, refl, sym, ap, ◌∙◌}
use mathlib.Core.Logic.{◌≢◌}
use mathlib.Core.Bool.{Bool, true, false, cond}
use mathlib.Core.List.{List, [], ◌∷◌}
use mathlib.Core.Option.{none}
use Prim.Native.Nat.{ℕ, suc, ◌+◌, ◌≤◌, ◌<◌}
use native.Mathlib.Decide.{dec_lt}
use native.Mathlib.Omega.{arith}
use lib.Dec.{eqb}
use lib.ListN.{length, take, drop, length-drop, drop_of_length-le}
use Rattle.sheet.specs.Spelling.Cut.{cut_some}
use Rattle.sheet.specs.Spelling.Field.{First}
use Rattle.sheet.specs.Spelling.{cut, push, line_feed}
use Rattle.sheet.proofs.CutTurns.{first_part, first_last}
use Rattle.order.specs.Order.{only_line, line_in, line_of}

more_parts : (x : List ℕ) (b c : ℕ) (t : List ℕ) → only_line (x ∷ cut b (c ∷ t)) ≡ none
unfolding cut
more_parts x b c t = go (eqb c b) (cut b t) (cut_some b t)
  where
    go : (s : Bool) (fs : List (List ℕ)) → (f : List ℕ) × (gs : List (List ℕ)) × (fs ≡ f ∷ gs) → only_line (x ∷ cond s ([] ∷ fs) (push c fs)) ≡ none
    go true fs e = ap (λ (l : List (List ℕ)). only_line (x ∷ [] ∷ l)) e.2
    go false fs e = ap (λ (l : List (List ℕ)). only_line (x ∷ push c l)) e.2

pub line_only : (s : List ℕ) (i : ℕ) → First line_feed s i → i + 1 ≡ length s → take i s ≡ line_of s
unfolding line_of cut
line_only s i f e =
    let all : length s ≤ suc i = omega arith in
    sym (ap (λ (l : List (List ℕ)). line_in (only_line l)) (first_part f (omega arith) ∙ ap (λ (t : List ℕ). take i s ∷ cut line_feed t) (drop_of_length-le s all)))

pub line_none : (s : List ℕ) (i : ℕ) → First line_feed s i → i + 1 ≢ length s → take 0 s ≡ line_of s
unfolding line_of
line_none s i f n = go (dec_lt i (length s))
  where
    some_left : (t : List ℕ) → length t ≢ 0 → only_line (take i s ∷ cut line_feed t) ≡ none
    some_left [] h = absurd (h refl)
    some_left (c ∷ t) h = more_parts (take i s) line_feed c t

    go : Dec (i < length s) → take 0 s ≡ line_in (only_line (cut line_feed s))
    go (yes h) =
        sym (ap (λ (l : List (List ℕ)). line_in (only_line l)) (first_part f h)
        ∙ ap line_in (some_left (drop (suc i) s) (omega (arith, length-drop (suc i) s))))
    go (no h) = sym (ap (λ (l : List (List ℕ)). line_in (only_line l)) (first_last f (omega arith)))

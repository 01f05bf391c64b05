-- The additions that the sheet calls tell, and what looking at the seven plans comes to.
use mathlib.Core.Path.{◌≡◌, refl, sym, ap, ◌∙◌}
use mathlib.Core.Bool.{true, ◌&&◌}
use mathlib.Core.List.{List, [], ◌∷◌}
use Prim.Native.Nat.{ℕ, zero, suc, ◌+◌, ◌≤◌, ◌<◌}
use borrow.Author.Tests.{le-leb}
use lib.IntN.{ℤ}
use native.Mathlib.Numerals.{add-one}
use lib.ListN.{get_or, drop, drop_of_length-le}
use lib.Seq.{drop-cons}
use Rattle.digits.specs.Limits.{card}
use Rattle.digits.specs.Scalar.{signed_scalar, sized}
use Rattle.sheet.specs.declared.Plan.{Plan}
use Rattle.sheet.specs.declared.Plan.TheVariants.{J, I}
use Rattle.sheet.specs.Questions.Planned.{of_window}
use Rattle.written.specs.Valid.{Valid, for_j, for_i}
use Rattle.writer.specs.Call.Met.{windows_valid}
use Rattle.writer.specs.Call.{wrote, j_answer, i_answer}
use Rattle.chooser.specs.Body.Choice.{plan_answer}
use Rattle.chooser.specs.declared.choice.Candidate.{Candidate}
use Rattle.chooser.specs.Candidate.Turns.{Stands, next_better, take_one}
use Rattle.chooser.specs.Cheapest.{within}
use Rattle.chooser.specs.Lexicographic.{least}
use Rattle.changes.specs.Body.{old_candidate, old_better}
use Rattle.changes.specs.Changed.{old_plan}
use Rattle.changes.specs.Changed.Old.{few, old_cost_key, old_few}
use Rattle.changes.proofs.Laws.Changed.Costs.{old_stands}

-- a call with room for a sheet writes it
pub sheet_told : (k : List ℕ) (k_sign : ℕ) (l : List ℕ) (l_sign room : ℕ) → (sized card k && sized card l) ≡ true → 16384 ≤ room → {p : Plan} → Valid p
    → plan_answer card p k k_sign l l_sign room ≡ wrote p (signed_scalar k k_sign) (signed_scalar l l_sign)
unfolding j_answer i_answer
sheet_told k k_sign l l_sign room sizes h for_j = rw (sizes, le-leb 16384 room h) refl
sheet_told k k_sign l l_sign room sizes h (for_i v w) = rw (sizes, of_window v, of_window w, le-leb 16384 room h) refl

-- each of the seven plans is one of 01
pub few_valid : (i : ℕ) → Valid (get_or few i J)
few_valid zero = for_j
few_valid (suc zero) = windows_valid 1 1 refl
few_valid (suc (suc zero)) = windows_valid 1 3 refl
few_valid (suc (suc (suc zero))) = windows_valid 1 5 refl
few_valid (suc (suc (suc (suc zero)))) = windows_valid 3 1 refl
few_valid (suc (suc (suc (suc (suc zero))))) = windows_valid 3 3 refl
few_valid (suc (suc (suc (suc (suc (suc zero)))))) = windows_valid 5 1 refl
few_valid (suc (suc (suc (suc (suc (suc (suc i))))))) = for_j

-- looking at plans one after another comes to the least of them
unfoldable pub looked : ℤ → ℤ → ℕ → Candidate → List Plan → Candidate
looked k l limit best [] = best
looked k l limit best (p ∷ ps) = looked k l limit (old_better k l limit best p) ps

module _ (k l : ℤ) (limit : ℕ) (best : Candidate) (i : ℕ) where
  -- one of the plans more
  pub look_next : i < 7 → {next : Candidate} → next ≡ old_better k l limit best (get_or few i J)
      → looked k l limit next (drop (i + 1) few) ≡ looked k l limit best (drop i few)
  unfolding looked
  look_next h {next} e =
      let left : get_or few i J ∷ drop (suc i) few ≡ get_or few i J ∷ drop (i + 1) few = ap (λ (n : ℕ). get_or few i J ∷ drop n few) (sym (add-one i)) in
      ap (λ (c : Candidate). looked k l limit c (drop (i + 1) few)) e
      ∙ sym (ap (looked k l limit best) (drop-cons few i J h ∙ left))

  -- none left
  pub look_end : 7 ≤ i → looked k l limit best (drop i few) ≡ best
  unfolding looked
  look_end h = rw (drop_of_length-le few h) refl

looked_least : (k l : ℤ) (limit : ℕ) (best : Candidate) (ps : List Plan) → Stands (old_cost_key k l) best
    → (looked k l limit best ps).plan ≡ least (old_cost_key k l) best.plan (within limit ps)
unfolding looked within least
looked_least k l limit best [] s = refl
looked_least k l limit best (p ∷ ps) s =
    let r = next_better (old_cost_key k l) limit best (old_candidate k l p) s (old_stands k l p) in
    looked_least k l limit (old_better k l limit best p) ps r.1
    ∙ ap (λ (q : Plan). least (old_cost_key k l) q (within limit ps)) r.0
    ∙ take_one (old_cost_key k l) limit best.plan p ps

-- for a limit of at most 3 it is the old plan
pub looked_old : (k l : ℤ) (limit : ℕ) → limit ≤ 3 → (looked k l limit (old_candidate k l (I 1 1)) few).plan ≡ old_plan k l limit
looked_old k l limit h = looked_least k l limit (old_candidate k l (I 1 1)) few (old_stands k l (I 1 1)) ∙ old_few k l limit h

-- The turns of the loop over the plans, and that for a plan within the limit the keys by sizes are those of the order.
use mathlib.Core.Path.{◌≡◌, refl, sym, ap, ap₂, ◌∙◌}
use mathlib.Core.Bool.{Bool, true, false, cond}
use mathlib.Core.List.{List, []}
use Prim.Native.Nat.{ℕ, ◌+◌, ◌-◌, ◌*◌, ◌/◌, ◌≤◌, ◌<◌, max}
use native.Mathlib.Numerals.{add-one}
use native.Mathlib.Omega.{arith}
use borrow.Author.Tests.{le-leb}
use lib.IntN.{pos}
use lib.ListN.{length, get_or, drop}
use lib.Seq.{drop-cons}
use Rattle.digits.specs.Two.Paired.{paired_length}
use Rattle.forms.specs.Row.{row}
use Rattle.sheet.specs.declared.Plan.{Plan}
use Rattle.sheet.specs.declared.Plan.TheVariants.{J, I}
use Rattle.sheet.specs.Digits.{weight}
use Rattle.sheet.proofs.Laws.Plan.Slots.{window_slots}
use Rattle.sheet.specs.Plan.{slots, is_within, table_additions, table_doublings}
use Rattle.sheet.specs.Sound.{Window}
use Rattle.written.proofs.Laws.Promise.{written_cost, written_doublings_lem}
use Rattle.written.specs.Valid.{Valid, for_j, for_i}
use Rattle.written.specs.Written.Columns.{paired_weight}
use Rattle.written.specs.Written.{digits, written_additions}
use Rattle.chooser.specs.Cheapest.{cheapest_plan, key_with, key, plans, within}
use Rattle.chooser.specs.Body.Choice.{plan_weight, plan_places, plan_additions, cost_key}
use Rattle.chooser.proofs.Laws.Cheapest.Least.{smallest, within_valid}
use Rattle.chooser.proofs.Laws.Cheapest.Lists.{within_in}
use Rattle.chooser.specs.declared.choice.Candidate.{Candidate}
use Rattle.chooser.specs.Candidate.{either}
use Rattle.chooser.specs.Candidate.Turns.{Stands, either_better, take_one}
use Rattle.chooser.specs.Lexicographic.{better, least}
use Rattle.chooser.specs.Lexicographic.Order.{least_agrees}
use Rattle.chooser.specs.declared.sizes.Size.{Size}
use Rattle.chooser.specs.Body.Sizes.{row_of, row_size, row_sizes, size_at, sizes}
use Rattle.chooser.proofs.Numbers.{plans_length}
use Rattle.chooser.proofs.Windows.{sizes_at}

-- one more plan is looked at
module _ (f : Plan → List ℕ) (limit : ℕ) where
  pub next_plan : (best p : Plan) (n : ℕ) → n < 257 → p ≡ get_or plans n J
      → least f (cond (is_within p limit) (better f best p) best) (within limit (drop (n + 1) plans)) ≡ least f best (within limit (drop n plans))
  next_plan best p n h e =
      take_one f limit best p (drop (n + 1) plans)
      ∙ ap (λ (ps : List Plan). least f best (within limit ps)) (sym (drop-cons plans n J (omega (arith, plans_length)) ∙ rw (← add-one n, ← e)))

  pub last_plan : (best : Plan) (n : ℕ) → within limit (drop n plans) ≡ [] → least f best (within limit (drop n plans)) ≡ best
  unfolding least
  last_plan best n e = rw e

-- a plan within the limit: the better of the two stands; any other leaves the best so far
module _ (f : Plan → List ℕ) (best x : Candidate) (p : Plan) (within_it : Bool) (s : Stands f best) where
  pub plan_taken : (c : Candidate) → Stands f c → c.plan ≡ p → x ≡ either best c → within_it ≡ true
      → (x.plan ≡ cond within_it (better f best.plan p) best.plan) × Stands f x
  plan_taken c t same is asked = rw (is, asked, ← same) (either_better f best c s t)

  pub plan_passed : x ≡ best → within_it ≡ false → (x.plan ≡ cond within_it (better f best.plan p) best.plan) × Stands f x
  plan_passed is asked = rw (is, asked) (refl, s)

-- ── the keys by sizes ─────────────────────────────────────────────────────────────────────

module _ (limit k l : ℕ) where
  window_size : (n m : ℕ) → Window m → slots (I m 1) ≤ limit → size_at (row_sizes limit n) m ≡ row_of (row m (pos n))
  window_size n m w h =
      let e : 2 * ((m - 1) / 2) + 1 ≡ m = omega (arith, w.odd) in
      sizes_at limit n ((m - 1) / 2) (omega (arith, w.within)) ∙ ap (row_size limit n) e ∙ rw (le-leb (slots (I m 1)) limit h)

  plan_weighed : {p : Plan} → Valid p → slots p ≤ limit → plan_weight (sizes limit k l) p ≡ weight p (digits p (pos k) (pos l))
  unfolding digits
  plan_weighed for_j h = rw (le-leb (slots J) limit h)
  plan_weighed (for_i {m1} {m2} v w) h =
      let s = window_slots m1 m2 (omega (arith, v.odd)) (omega (arith, w.odd)) in
      omega (arith, ap (λ (s : Size). s.weight) (window_size k m1 v (omega arith)), ap (λ (s : Size). s.weight) (window_size l m2 w (omega arith)), paired_weight (row m1 (pos k)) (row m2 (pos l)))

  plan_placed : {p : Plan} → Valid p → slots p ≤ limit → plan_places (sizes limit k l) p ≡ length (digits p (pos k) (pos l))
  unfolding digits
  plan_placed for_j h = rw (le-leb (slots J) limit h)
  plan_placed (for_i {m1} {m2} v w) h =
      let s = window_slots m1 m2 (omega (arith, v.odd)) (omega (arith, w.odd)) in
      ap₂ (λ (a b : Size). max a.places b.places) (window_size k m1 v (omega arith)) (window_size l m2 w (omega arith)) ∙ sym (paired_length (row m1 (pos k)) (row m2 (pos l)))

  pub additions_agree : {p : Plan} → Valid p → slots p ≤ limit → plan_additions (sizes limit k l) p ≡ written_additions p (pos k) (pos l)
  additions_agree {p} v h = ap (λ (w : ℕ). table_additions p + (w - 1)) (plan_weighed v h) ∙ sym (written_cost p (pos k) (pos l) v)

  key_agrees : (p : Plan) → Valid p → slots p ≤ limit → cost_key (sizes limit k l) p ≡ key (pos k) (pos l) p
  unfolding cost_key key
  key_agrees p v h =
      ap₂ (λ (a d : ℕ). key_with a d p)
      (additions_agree v h)
      (ap (λ (n : ℕ). table_doublings p + (n - 1)) (plan_placed v h) ∙ sym (written_doublings_lem p (pos k) (pos l) v))

  -- the least plan by sizes is the cheapest
  pub plan_by_sizes : least (cost_key (sizes limit k l)) (I 1 1) (within limit plans) ≡ cheapest_plan (pos k) (pos l) limit
  unfolding cheapest_plan
  plan_by_sizes =
      least_agrees (cost_key (sizes limit k l)) (key (pos k) (pos l)) (I 1 1) (within limit plans)
      (key_agrees (I 1 1) smallest (omega arith)) (λ p o. key_agrees p (within_valid limit o) (within_in limit plans o).1)

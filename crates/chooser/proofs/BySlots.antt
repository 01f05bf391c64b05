-- The fewest additions for each number of slots, and that with the sizes of two scalars' rows the lowest up to a limit is that of the cheapest
-- sheet. From the laws of the cheapest plan.
use mathlib.Core.Path.{◌≡◌, refl, sym, ap, ap₂, ◌∙◌}
use mathlib.Core.Bool.{Bool, true, false}
use mathlib.Core.List.{List, [], ◌∷◌}
use Prim.Native.Nat.{ℕ, suc, ◌+◌, ◌≤◌, ◌<◌, min}
use native.Mathlib.Numerals.{add-one}
use native.Mathlib.Omega.{arith}
use borrow.Author.Tests.{eqb-true, eqb-false, leb-true, leb-false}
use lib.Dec.{eqb, leb}
use lib.IntN.{pos}
use lib.ListN.{length, get_or, drop, replicate, length-set, length-replicate, get_or-replicate, drop_of_length-le}
use lib.Seq.{drop-cons, get_or-set_same, get_or-set_other}
use Rattle.sheet.specs.declared.Plan.{Plan}
use Rattle.sheet.specs.declared.Plan.TheVariants.{J, I}
use Rattle.sheet.specs.Plan.{slots, most_slots}
use Rattle.written.specs.Valid.{Valid}
use Rattle.std.specs.declared.option.Option.{Option}
use Rattle.chooser.specs.declared.next.Pays.{Pays}
use Rattle.chooser.specs.Body.BySlots.{lowered, lowest, lowered_by, by_slots}
use Rattle.chooser.specs.Body.Choice.{plan_additions}
use Rattle.chooser.specs.Body.Sizes.{sizes}
use Rattle.chooser.specs.Cheapest.{plans, cheapest_plan}
use Rattle.chooser.proofs.Laws.Cheapest.Least.{smallest, valid_in, plan_valid, plan_within, plan_least}
use Rattle.chooser.specs.Lexicographic.Order.{In, here, there}
use Rattle.chooser.specs.Next.{fewest, Next, pays, none, next_limit}
use Rattle.chooser.proofs.Laws.Next.First.{next_only}
use Rattle.chooser.proofs.Lowest.{lowest_one, lowest_all}
use Rattle.chooser.proofs.Numbers.{plans_length}
use Rattle.chooser.proofs.Turns.{additions_agree}

-- what stands at s in lowered numbers: it is kept, or at the place it becomes a
data Lowering (at a s old new : ℕ) : Type 0 where
  kept : new ≡ old → Lowering at a s old new
  took : s ≡ at → new ≡ a → a ≤ old → Lowering at a s old new

module _ (t : List ℕ) (at a : ℕ) where
  lowered_length : length (lowered t at a) ≡ length t
  lowered_length = length-set t at (min (get_or t at 0) a)

  lowered_to : at < length t → get_or (lowered t at a) at 0 ≡ min (get_or t at 0) a
  lowered_to h = get_or-set_same t at (min (get_or t at 0) a) 0 h

  lowering : (s : ℕ) → s < length t → Lowering at a s (get_or t s 0) (get_or (lowered t at a) s 0)
  lowering s h = go (eqb s at) (leb (get_or t s 0) a) refl refl
    where
      same : s ≡ at → get_or (lowered t at a) s 0 ≡ min (get_or t s 0) a
      same e = rw e (lowered_to (omega arith))

      go : (b c : Bool) → eqb s at ≡ b → leb (get_or t s 0) a ≡ c → Lowering at a s (get_or t s 0) (get_or (lowered t at a) s 0)
      go true true e g = kept (omega (arith, same (eqb-true s at e), leb-true (get_or t s 0) a g))
      go true false e g = took (eqb-true s at e) (omega (arith, same (eqb-true s at e), leb-false (get_or t s 0) a g)) (omega (arith, leb-false (get_or t s 0) a g))
      go false c e g = kept (get_or-set_other t at s (min (get_or t at 0) a) 0 (eqb-false s at e))

  lowered_falls : (s : ℕ) → s < length t → get_or (lowered t at a) s 0 ≤ get_or t s 0
  lowered_falls s h = go (lowering s h)
    where
      go : {n : ℕ} → Lowering at a s (get_or t s 0) n → n ≤ get_or t s 0
      go (kept g) = omega arith
      go (took _ g l) = omega arith

-- additions by plan
module _ (f : Plan → ℕ) where
  -- each of the 32 numbers is that of a plan of 01 that needs no more slots
  record Attained (t : List ℕ) : Type 0 where
    long : length t ≡ 32
    attained : (s : ℕ) → s < 32 → (p : Plan) × (Valid p × ((slots p ≤ s) × (get_or t s 0 ≡ f p)))

  lowered_attained : (t : List ℕ) (p : Plan) → Valid p → Attained t → Attained (lowered t (slots p) (f p))
  lowered_attained t p v a =
      record {
        long = lowered_length t (slots p) (f p) ∙ a.long;
        attained = λ s h. go s (a.attained s h) (lowering t (slots p) (f p) s (omega (arith, a.long)));
      }
    where
      go : (s : ℕ) → (q : Plan) × (Valid q × ((slots q ≤ s) × (get_or t s 0 ≡ f q))) → Lowering (slots p) (f p) s (get_or t s 0) (get_or (lowered t (slots p) (f p)) s 0)
          → (q : Plan) × (Valid q × ((slots q ≤ s) × (get_or (lowered t (slots p) (f p)) s 0 ≡ f q)))
      go s (q, (w, (b, e))) (kept g) = (q, (w, (b, g ∙ e)))
      go s r (took e g _) = (p, (v, (omega arith, g)))

  by_attained : (t : List ℕ) (ps : List Plan) → ((p : Plan) → In p ps → Valid p) → Attained t → Attained (lowered_by f t ps)
  unfolding lowered_by
  by_attained t [] v a = a
  by_attained t (p ∷ ps) v a = by_attained (lowered t (slots p) (f p)) ps (λ q o. v q (there o)) (lowered_attained t p (v p here) a)

  -- a number only falls, and for each plan of the list to no more than its additions
  by_falls : (t : List ℕ) (ps : List Plan) (s : ℕ) → s < length t → get_or (lowered_by f t ps) s 0 ≤ get_or t s 0
  unfolding lowered_by
  by_falls t [] s h = omega arith
  by_falls t (p ∷ ps) s h =
      omega (arith, by_falls (lowered t (slots p) (f p)) ps s (omega (arith, lowered_length t (slots p) (f p))), lowered_falls t (slots p) (f p) s h)

  by_least : {p : Plan} (t : List ℕ) (ps : List Plan) → In p ps → slots p < length t → get_or (lowered_by f t ps) (slots p) 0 ≤ f p
  unfolding lowered_by
  by_least {p} t ps (here {bs = qs}) h =
      omega (arith, by_falls (lowered t (slots p) (f p)) qs (slots p) (omega (arith, lowered_length t (slots p) (f p))), lowered_to t (slots p) (f p) h)
  by_least t ps (there {b = q} {bs = qs} o) h = by_least (lowered t (slots q) (f q)) qs o (omega (arith, lowered_length t (slots q) (f q)))

  -- no plan is looked at yet; one more is; all have been
  pub by_none : (a : ℕ) → a ≡ f (I 1 1) → lowered_by f (replicate 32 a) (drop 0 plans) ≡ by_slots f
  unfolding by_slots
  by_none a e = ap (λ (x : ℕ). lowered_by f (replicate 32 x) plans) e

  pub by_turn : (t : List ℕ) (n : ℕ) {u : List ℕ} {s a : ℕ} {p : Plan} → n < 257 → p ≡ get_or plans n J → s ≡ slots p → a ≡ f p → u ≡ lowered t s a
      → lowered_by f u (drop (n + 1) plans) ≡ lowered_by f t (drop n plans)
  unfolding lowered_by
  by_turn t n {p = p} h e g b c =
      ap (λ (x : List ℕ). lowered_by f x (drop (n + 1) plans)) (c ∙ ap₂ (λ (x y : ℕ). lowered t x y) g b)
      ∙ sym (ap (lowered_by f t) (drop-cons plans n J (omega (arith, plans_length)) ∙ rest))
    where
      rest : get_or plans n J ∷ drop (suc n) plans ≡ p ∷ drop (n + 1) plans
      rest = rw (← add-one n, ← e)

  pub by_all : (t : List ℕ) (n : ℕ) → 257 ≤ n → lowered_by f t (drop n plans) ≡ t
  unfolding lowered_by
  by_all t n h = let all : length plans ≤ n = omega (arith, plans_length) in rw (drop_of_length-le plans all)

  slots_attained : Attained (by_slots f)
  unfolding by_slots
  slots_attained =
      by_attained (replicate 32 (f (I 1 1))) plans (λ p o. plan_valid o)
      (record { long = length-replicate 32 (f (I 1 1)); attained = λ s h. (I 1 1, (smallest, (omega arith, get_or-replicate 32 s (f (I 1 1)) 0 h))) })

  slots_least : {p : Plan} → Valid p → slots p < 32 → get_or (by_slots f) (slots p) 0 ≤ f p
  unfolding by_slots
  slots_least v h = by_least (replicate 32 (f (I 1 1))) plans (valid_in v) (omega (arith, length-replicate 32 (f (I 1 1))))

-- with the sizes of two scalars' rows
module _ (k l : ℕ) where
  abbrev pub additions_by : Plan → ℕ
  additions_by = plan_additions (sizes most_slots k l)

  lowest_fewest : (n : ℕ) → n ≤ most_slots → lowest (by_slots additions_by) n ≡ fewest (pos k) (pos l) n
  lowest_fewest n h =
      let (s, (below, e)) = lowest_one (by_slots additions_by) n in
      let (p, (v, (few, g))) = (slots_attained additions_by).attained s (omega arith) in
      let (w, fits) = plan_within (pos k) (pos l) n in
      omega (
        arith,
        e,
        g,
        plan_least (pos k) (pos l) n p v (omega arith),
        additions_agree most_slots k l v (omega arith),
        lowest_all (by_slots additions_by) n (slots (cheapest_plan (pos k) (pos l) n)) fits,
        slots_least additions_by w (omega arith),
        additions_agree most_slots k l w (omega arith),
      )

  -- the first limit at which the lowest falls is the next that pays
  pub next_by_slots : (limit : ℕ) → limit ≤ most_slots → {r : Option Pays} → Next (lowest (by_slots additions_by)) limit r → r ≡ next_limit (pos k) (pos l) limit
  next_by_slots limit low {r} h = next_only (pos k) (pos l) limit r (go h)
    where
      go : {r : Option Pays} → Next (lowest (by_slots additions_by)) limit r → Next (fewest (pos k) (pos l)) limit r
      go (pays {n} u v e w q) =
          pays {n = n} u v (sym (lowest_fewest n v) ∙ e) (omega (arith, lowest_fewest limit low)) (λ i x y. omega (arith, q i x y, lowest_fewest limit low, lowest_fewest i (omega arith)))
      go (none q) = none (λ i x y. omega (arith, q i x y, lowest_fewest limit low, lowest_fewest i y))

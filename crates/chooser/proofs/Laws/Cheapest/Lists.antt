-- Which plans are in the list of all plans, and in that of a limit.
use Rattle.std.specs.Prelude.{◌≡◌, refl, Bool, true, false, cond, List, [], ◌∷◌, ◌++◌, map, ℕ, zero, suc, ◌+◌, ◌*◌, ◌-◌, ◌/◌, ◌≤◌, ◌<◌, T}
use Rattle.std.proofs.Common.{subst, arith, le-leb, leb-true}
use Rattle.std.proofs.Math.Facts.{and_yes}
use Rattle.sheet.specs.declared.Plan.{Plan}
use Rattle.sheet.specs.declared.Plan.TheVariants.{J, I}
use Rattle.sheet.specs.Plan.{odds, slots, is_within}
use Rattle.sheet.specs.Sound.{Window}
use Rattle.chooser.specs.Lexicographic.Order.{In, here, there}
use Rattle.chooser.specs.Cheapest.{windows, interleaved, plans, within}
use Rattle.chooser.specs.Cheapest.Lists.{every, is_valid}

in_left : {A : Type 0} {x : A} {xs : List A} (ys : List A) → In x xs → In x (xs ++ ys)
in_left ys here = here
in_left ys (there o) = there (in_left ys o)

in_right : {A : Type 0} {x : A} (xs : List A) {ys : List A} → In x ys → In x (xs ++ ys)
in_right [] o = o
in_right (x ∷ xs) o = there (in_right xs o)

pub in_map : {A B : Type 0} (f : A → B) {x : A} {xs : List A} → In x xs → In (f x) (map f xs)
in_map f here = here
in_map f (there o) = there (in_map f o)

in_odds : (d n i : ℕ) → i < n → In (d + 2 * i) (odds d n)
unfolding odds
in_odds d zero i h = absurd (omega arith)
in_odds d (suc n) zero h = let e : d + 2 * 0 ≡ d = omega arith in rw e here
in_odds d (suc n) (suc i) h = let e : d + 2 * suc i ≡ 2 + d + 2 * i = omega arith in rw e (there (in_odds (2 + d) n i (omega arith)))

in_windows : {m : ℕ} → Window m → In m windows
in_windows {m} w =
    let e : 1 + 2 * ((m - 1) / 2) ≡ m = omega (arith, w.odd) in
    subst (λ (n : ℕ). In n windows) e (in_odds 1 16 ((m - 1) / 2) (omega (arith, w.within)))

in_interleaved : {m n : ℕ} {ms : List ℕ} (ns : List ℕ) → In m ms → In n ns → In (I m n) (interleaved ms ns)
unfolding interleaved
in_interleaved {m} ns (here {bs = ms}) o = in_left (interleaved ms ns) (in_map (λ n. I m n) o)
in_interleaved ns (there {b = b} q) o = in_right (map (λ n. I b n) ns) (in_interleaved ns q o)

-- every plan I with two windows is one of the plans, and so is J
pub in_plans : {m n : ℕ} → Window m → Window n → In (I m n) plans
unfolding plans
in_plans v w = there (in_interleaved windows (in_windows v) (in_windows w))

pub joint_in_plans : In J plans
unfolding plans
joint_in_plans = here

-- a plan of the list that needs no more slots than the limit is in that of the limit
pub in_within : (limit : ℕ) {p : Plan} {ps : List Plan} → slots p ≤ limit → In p ps → In p (within limit ps)
unfolding within
in_within limit {p} h here = rw (le-leb (slots p) limit h) here
in_within limit {p} h (there {b = b} {bs = bs} o) = go (is_within b limit) (in_within limit h o)
  where
    go : (t : Bool) → In p (within limit bs) → In p (cond t (b ∷ within limit bs) (within limit bs))
    go true q = there q
    go false q = q

-- those of the limit are in the list, and need no more slots
pub within_in : (limit : ℕ) (ps : List Plan) {p : Plan} → In p (within limit ps) → In p ps × (slots p ≤ limit)
unfolding within
within_in limit [] o = elim o [ ]
within_in limit (b ∷ bs) o = go (is_within b limit) refl (within_in limit bs) o
  where
    go : {p : Plan} (t : Bool) → is_within b limit ≡ t → (In p (within limit bs) → In p bs × (slots p ≤ limit)) → In p (cond t (b ∷ within limit bs) (within limit bs)) → In p (b ∷ bs) × (slots p ≤ limit)
    go true e ih here = (here, leb-true (slots b) limit e)
    go true e ih (there q) = let r = ih q in (there r.0, r.1)
    go false e ih q = let r = ih q in (there r.0, r.1)

pub passes : (f : Plan → Bool) {p : Plan} (ps : List Plan) → T (every f ps) → In p ps → T (f p)
unfolding every
passes f ps t (here {bs = bs}) = (and_yes (f _) (every f bs) t).0
passes f ps t (there {b = b} {bs = bs} o) = passes f bs (and_yes (f b) (every f bs) t).1 o

pub plans_valid : {p : Plan} → In p plans → T (is_valid p)
unfolding every plans interleaved odds
plans_valid o = passes is_valid plans tt o

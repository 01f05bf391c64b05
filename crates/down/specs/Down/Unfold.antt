-- The digits of the lowest places meet their rule, and are the only list that does; so they unfold turn by turn. From the laws of the width.
use Rattle.std.specs.Prelude.{◌≡◌, refl, ◌≢◌, Bool, true, false, ◌&&◌, cond, List, [], ◌++◌, ℕ, zero, suc, ◌-◌, ◌%◌, ◌≤◌, ◌<◌, eqb, ltb, ℤ, nat_abs}
use Rattle.std.proofs.Common.{sym, ap, ap₂, subst, arith, eqb-true, ltb-true, ltb-false}
use Rattle.std.proofs.lemmas.Bool.{eqb-false}
use Rattle.forms.specs.Residue.{width}
use Rattle.forms.specs.Residue.Width.{width_is}
use Rattle.down.specs.Down.{under, worth, beyond, taken, window, places_in, places, TurnRule, equal, wide, narrow, DownRule, end, turn}

-- the places done meet the rule
pub taken_meets : (m u i : ℕ) → TurnRule m u i (taken m u i)
unfolding taken
taken_meets m u i = same (eqb (under u i 0) (under u i 1)) (eqb-true (under u i 0) (under u i 1)) (eqb-false (under u i 0) (under u i 1))
  where
    d : ℤ
    d = worth u i (width m)

    size : under u i 0 ≢ under u i 1 → nat_abs d % 2 ≡ 1 → (c : Bool) → (c ≡ true → m < nat_abs d) → (c ≡ false → nat_abs d ≤ m) → TurnRule m u i (cond (true && c) (width m - 1) (width m))
    size n o true p q = narrow n o (p refl)
    size n o false p q = wide n (λ _. q refl)

    parity : under u i 0 ≢ under u i 1 → (b : Bool) → (b ≡ true → nat_abs d % 2 ≡ 1) → (b ≡ false → nat_abs d % 2 ≢ 1) → TurnRule m u i (cond (b && ltb m (nat_abs d)) (width m - 1) (width m))
    parity n true p q = size n (p refl) (ltb m (nat_abs d)) (ltb-true m (nat_abs d)) (ltb-false m (nat_abs d))
    parity n false p q = wide n (λ o. absurd (q refl o))

    same : (a : Bool) → (a ≡ true → under u i 0 ≡ under u i 1) → (a ≡ false → under u i 0 ≢ under u i 1)
        → TurnRule m u i (cond a 1 (cond (beyond m d) (width m - 1) (width m)))
    same true p q = equal (p refl)
    same false p q = parity (q refl) (eqb (nat_abs d % 2) 1) (eqb-true (nat_abs d % 2) 1) (eqb-false (nat_abs d % 2) 1)

-- some place is done
pub turn_some : {m u i w : ℕ} → 1 ≤ m → TurnRule m u i w → 1 ≤ w
turn_some h (equal e) = omega arith
turn_some {m} h (wide n l) = omega (arith, (width_is m h).is)
turn_some {m} h (narrow n o l) = omega (arith, (width_is m h).is)

-- the bound on the turns does not matter
enough : {m : ℕ} (u f g n : ℕ) → 1 ≤ m → n ≤ f → n ≤ g → places_in f m u n ≡ places_in g m u n
unfolding places_in
enough u zero zero n h p q = refl
enough u zero (suc g) zero h p q = refl
enough u zero (suc g) (suc i) h p q = absurd (omega arith)
enough u (suc f) zero zero h p q = refl
enough u (suc f) zero (suc i) h p q = absurd (omega arith)
enough u (suc f) (suc g) zero h p q = refl
enough {m} u (suc f) (suc g) (suc i) h p q =
    let some : 1 ≤ taken m u i = turn_some h (taken_meets m u i) in
    ap (λ (ds : List ℤ). ds ++ window u i (taken m u i)) (enough u f g (suc i - taken m u i) h (omega arith) (omega arith))

-- below place 0 there is no digit
pub places_zero : (m u : ℕ) → places m u 0 ≡ []
unfolding places places_in
places_zero m u = refl

-- a turn gives the digits of the places that it does
pub places_step : (m u i : ℕ) → 1 ≤ m → places m u (suc i) ≡ places m u (suc i - taken m u i) ++ window u i (taken m u i)
unfolding places places_in
places_step m u i h =
    let some : 1 ≤ taken m u i = turn_some h (taken_meets m u i) in
    ap (λ (ds : List ℤ). ds ++ window u i (taken m u i)) (enough u i (suc i - taken m u i) (suc i - taken m u i) h (omega arith) (omega arith))

meets_in : {m : ℕ} (u f n : ℕ) → 1 ≤ m → n ≤ f → DownRule m u n (places_in f m u n)
unfolding places_in
meets_in u zero zero h p = end
meets_in u zero (suc i) h p = absurd (omega arith)
meets_in u (suc f) zero h p = end
meets_in {m} u (suc f) (suc i) h p =
    let some : 1 ≤ taken m u i = turn_some h (taken_meets m u i) in
    turn (taken_meets m u i) (meets_in u f (suc i - taken m u i) h (omega arith))

-- the digits meet the rule
pub places_meet : (m u n : ℕ) → 1 ≤ m → DownRule m u n (places m u n)
unfolding places
places_meet m u n h = meets_in u n n h (omega arith)

-- only one number of places is done at a place
turn_only : {m u i v w : ℕ} → TurnRule m u i v → TurnRule m u i w → v ≡ w
turn_only (equal e) (equal f) = refl
turn_only (equal e) (wide n l) = absurd (n e)
turn_only (equal e) (narrow n o l) = absurd (n e)
turn_only (wide n l) (equal f) = absurd (n f)
turn_only (wide n l) (wide n' l') = refl
turn_only (wide n l) (narrow n' o g) = let most = l o in absurd (omega arith)
turn_only (narrow n o l) (equal f) = absurd (n f)
turn_only (narrow n o l) (wide n' g) = let most = g o in absurd (omega arith)
turn_only (narrow n o l) (narrow n' o' l') = refl

rule_only : {m u n k : ℕ} {ds es : List ℤ} → n ≡ k → DownRule m u n ds → DownRule m u k es → ds ≡ es
rule_only e end end = refl
rule_only e end (turn t r) = absurd (omega arith)
rule_only e (turn t r) end = absurd (omega arith)
rule_only {m} {u} e (turn {i = i} {w = w} t r) (turn {i = j} {w = v} s q) =
    let p : i ≡ j = omega arith in
    let b : w ≡ v = turn_only t (subst (λ (x : ℕ). TurnRule m u x v) (sym p) s) in
    ap₂ (λ (xs ys : List ℤ). xs ++ ys) (rule_only (omega arith) r q) (ap₂ (window u) p b)

-- no other list meets it
pub places_only : (m u n : ℕ) (ds : List ℤ) → 1 ≤ m → DownRule m u n ds → ds ≡ places m u n
places_only m u n ds h r = rule_only refl r (places_meet m u n h)

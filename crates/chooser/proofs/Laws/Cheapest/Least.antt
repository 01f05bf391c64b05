-- The cheapest plan: it is one of those within the limit, nothing of them comes before it, and it is the only such one.
use Rattle.std.specs.Prelude.{◌≡◌, refl, ◌≢◌, ◌⊎◌, Bool, true, false, ◌&&◌, List, ℕ, ◌≤◌, T, ℤ}
use Rattle.std.proofs.Common.{sym, ap, subst, ◌∙◌, inl, inr, arith}
use Rattle.digits.specs.Row.{value, is_window}
use Rattle.digits.specs.Two.{Column}
use Rattle.forms.proofs.Laws.Promise.{row_fewest, joint_fewest}
use Rattle.forms.specs.Row.{row}
use Rattle.sheet.specs.declared.Plan.{Plan}
use Rattle.sheet.specs.declared.Plan.TheVariants.{J, I}
use Rattle.sheet.specs.Digits.{Fits, weight, row_p, row_q}
use Rattle.sheet.specs.Plan.{slots}
use Rattle.written.specs.Valid.{Valid, for_j, for_i, window_positive}
use Rattle.written.specs.Written.Columns.{paired_weight}
use Rattle.written.specs.Written.{digits, written_additions}
use Rattle.writer.specs.Call.Met.{windows_valid}
use Rattle.chooser.specs.Lexicographic.{before}
use Rattle.chooser.specs.Lexicographic.Order.{In, before_first, before_self, before_same, least_one, least_least}
use Rattle.chooser.specs.Cheapest.{cheapest_plan, key, plans, within, Sooner, First}
use Rattle.chooser.proofs.Laws.Cheapest.Order.{sooner_exactly, key_only, order_total}
use Rattle.chooser.specs.Cheapest.Lists.{is_valid}
use Rattle.chooser.proofs.Laws.Cheapest.Lists.{in_plans, joint_in_plans, in_within, within_in, plans_valid}

-- the digits that 01 takes have the fewest non-zero ones of all that read k and l by the plan
pub digits_fewest : (p : Plan) (k l : ℤ) (cs : List Column) → Valid p → Fits p cs → value (row_p cs) ≡ k → value (row_q cs) ≡ l
    → weight p (digits p k l) ≤ weight p cs
unfolding digits
digits_fewest J k l cs v f e g = joint_fewest k l cs f e g
digits_fewest (I m1 m2) k l cs (for_i v w) f e g =
    omega (arith, paired_weight (row m1 k) (row m2 l), row_fewest m1 k (row_p cs) (window_positive v) f.0 e, row_fewest m2 l (row_q cs) (window_positive w) f.1 g)

valid_of : (p : Plan) → T (is_valid p) → Valid p
valid_of J t = for_j
valid_of (I m1 m2) t = go (is_window m1 && is_window m2) refl t
  where
    go : (b : Bool) → (is_window m1 && is_window m2) ≡ b → T b → Valid (I m1 m2)
    go true e u = windows_valid m1 m2 e
    go false e u = absurd u

-- I 1, 1 is one
pub smallest : Valid (I 1 1)
smallest = valid_of (I 1 1) tt

-- every valid plan is in the list
pub valid_in : {p : Plan} → Valid p → In p plans
valid_in for_j = joint_in_plans
valid_in (for_i v w) = in_plans v w

-- and the plans in it, and those of a limit, are plans of 01
pub plan_valid : {p : Plan} → In p plans → Valid p
plan_valid {p} o = valid_of p (plans_valid o)

pub within_valid : (limit : ℕ) {p : Plan} → In p (within limit plans) → Valid p
within_valid limit o = plan_valid (within_in limit plans o).0

module _ (k l : ℤ) (limit : ℕ) where
  -- it is a plan of 01 within the limit
  pub plan_within : Valid (cheapest_plan k l limit) × (slots (cheapest_plan k l limit) ≤ limit)
  unfolding cheapest_plan
  plan_within =
      least_one (key k l) (λ (p : Plan). Valid p × (slots p ≤ limit)) (I 1 1) (within limit plans)
      (smallest, omega arith) (λ p o. (within_valid limit o, (within_in limit plans o).1))

  -- no plan within the limit comes before it
  plan_first : (p : Plan) → Valid p → slots p ≤ limit → before (key k l p) (key k l (cheapest_plan k l limit)) ≡ false
  unfolding cheapest_plan
  plan_first p v h = least_least (key k l) p (I 1 1) (within limit plans) (in_within limit h (valid_in v))

  pub plan_least : (p : Plan) → Valid p → slots p ≤ limit → written_additions (cheapest_plan k l limit) k l ≤ written_additions p k l
  unfolding key
  plan_least p v h = before_first _ _ _ _ (plan_first p v h)

-- it comes before every other
pub first_plan : (k l : ℤ) (limit : ℕ) → First k l limit (cheapest_plan k l limit)
first_plan k l limit =
    let v = plan_within k l limit in
    record { valid = v.0; within = v.1; before_all = λ q w h n. go q w h ((order_total k l).one_first q (cheapest_plan k l limit) w v.0 n) }
  where
    go : (q : Plan) → Valid q → slots q ≤ limit
        → Sooner k l q (cheapest_plan k l limit) ⊎ Sooner k l (cheapest_plan k l limit) q → Sooner k l (cheapest_plan k l limit) q
    go q w h (inl s) = absurd (subst T (sym ((sooner_exactly k l q (cheapest_plan k l limit)).0 s) ∙ plan_first k l limit q w h) tt)
    go q w h (inr s) = s

-- and it is the only one that does
pub first_only : (k l : ℤ) (limit : ℕ) (p : Plan) → First k l limit p → p ≡ cheapest_plan k l limit
first_only k l limit p f =
    let c = cheapest_plan k l limit in
    let w = plan_within k l limit in
    let behind = plan_first k l limit p f.valid f.within in
    let other : before (key k l c) (key k l p) ≡ true → c ≢ p = λ t e. subst T (sym t ∙ ap (λ (q : Plan). before (key k l q) (key k l p)) e ∙ before_self (key k l p)) tt in
    key_only k l p c f.valid w.0 (before_same (key k l p) (key k l c) behind
    (never (before (key k l c) (key k l p)) (λ t. subst T (sym ((sooner_exactly k l p c).0 (f.before_all c w.0 w.1 (other t))) ∙ behind) tt)))
  where
    never : (b : Bool) → (b ≡ true → ⊥) → b ≡ false
    never true h = absurd (h refl)
    never false h = refl

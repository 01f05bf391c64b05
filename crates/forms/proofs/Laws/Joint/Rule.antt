-- The columns of the joint sparse form as a rule (`JointRule`): the function `joint` meets it, and nothing else does. Proofs
-- go by the rule, or by the law of one step (`joint_unfold`), and not by the bound in `joint_in`.
use Rattle.std.specs.Prelude.{◌≡◌, refl, ◌≢◌, ◌⊎◌, Bool, true, false, List, [], ◌∷◌, ℕ, zero, suc, ◌+◌, ◌≤◌, eqb, ℤ, pos, nat_abs}
use Rattle.std.proofs.Math.Path.{sym}
use Rattle.std.proofs.Common.{ap, inl, inr, arith, eqb-true}
use Rattle.std.proofs.lemmas.Bool.{eqb-false}
use Rattle.digits.specs.Integer.Parts.{integers, size}
use Rattle.digits.specs.Two.{Column}
use Rattle.forms.specs.Joint.{column, rest, joint_in, joint}
use Rattle.forms.proofs.Laws.Joint.Digit.{rest_is, rest_only, rest_falls}
use Rattle.forms.specs.Joint.Rule.{BothZero, JointRule, end, place}

not_zero : (k l : ℤ) → nat_abs k + nat_abs l ≢ 0 → ¬ (BothZero k l)
not_zero k l n b = n (omega (arith, ap nat_abs b.0, ap nat_abs b.1))

both_zero : (k l : ℤ) → nat_abs k + nat_abs l ≡ 0 → BothZero k l
both_zero k l h = (omega (integers, size k), omega (integers, size l))

-- they are, or not
pub zero_or_not : (k l : ℤ) → BothZero k l ⊎ (¬ (BothZero k l))
zero_or_not k l = go (eqb (nat_abs k + nat_abs l) 0) refl
  where
    go : (b : Bool) → eqb (nat_abs k + nat_abs l) 0 ≡ b → BothZero k l ⊎ (¬ (BothZero k l))
    go true e = inl (both_zero k l (eqb-true (nat_abs k + nat_abs l) 0 e))
    go false e = inr (not_zero k l (eqb-false (nat_abs k + nat_abs l) 0 e))

stop : (k l : ℤ) → BothZero k l → JointRule k l []
stop k l b = rw (b.0, b.1) end

-- any bound that is no smaller than the numbers does
rule_in : (f : ℕ) (k l : ℤ) → nat_abs k + nat_abs l ≤ f → JointRule k l (joint_in f k l)
unfolding joint_in
rule_in zero k l h = stop k l (both_zero k l (omega arith))
rule_in (suc f) k l h = go (eqb (nat_abs k + nat_abs l) 0) refl (rule_in f (rest k l) (rest l k))
  where
    next : List Column
    next = column k l ∷ joint_in f (rest k l) (rest l k)

    go : (b : Bool) → eqb (nat_abs k + nat_abs l) 0 ≡ b
        → (nat_abs (rest k l) + nat_abs (rest l k) ≤ f → JointRule (rest k l) (rest l k) (joint_in f (rest k l) (rest l k)))
        → JointRule k l (elim b as (λ x. List Column) [ true ↦ [] | false ↦ next ])
    go true e r = stop k l (both_zero k l (eqb-true (nat_abs k + nat_abs l) 0 e))
    go false e r =
        place (not_zero k l (eqb-false (nat_abs k + nat_abs l) 0 e)) (rest_is k l) (rest_is l k)
        (r (omega (arith, rest_falls k l, rest_falls l k, eqb-false (nat_abs k + nat_abs l) 0 e)))

-- the function meets the rule
pub joint_rule : (k l : ℤ) → JointRule k l (joint k l)
unfolding joint
joint_rule k l = rule_in (nat_abs k + nat_abs l) k l (omega arith)

-- two lists that meet it are the same
rule_same : {k l : ℤ} {cs ds : List Column} → JointRule k l cs → JointRule k l ds → cs ≡ ds
rule_same end end = refl
rule_same end (place n e f r) = absurd (n (refl, refl))
rule_same (place n e f r) end = absurd (n (refl, refl))
rule_same (place {k = k} {l = l} {k' = a} {l' = b} n e f r) (place {k' = a'} {l' = b'} n' e' f' r') =
    ap (λ cs. column k l ∷ cs)
    (rule_same r (rw (rest_only k l a e, rest_only l k b f) (rw (rest_only k l a' e', rest_only l k b' f') at r')))

-- nothing else meets the rule
pub joint_rule_only : {k l : ℤ} {cs : List Column} → JointRule k l cs → cs ≡ joint k l
joint_rule_only {k} {l} r = rule_same r (joint_rule k l)

-- one step
pub joint_unfold : (k l : ℤ) → ¬ (BothZero k l) → joint k l ≡ column k l ∷ joint (rest k l) (rest l k)
joint_unfold k l n = sym (joint_rule_only (place n (rest_is k l) (rest_is l k) (joint_rule (rest k l) (rest l k))))

-- 0 and 0 have no columns
pub joint_zero : joint (pos 0) (pos 0) ≡ []
joint_zero = sym (joint_rule_only end)

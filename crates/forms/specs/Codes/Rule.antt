-- The code of a remainder beside the other one: its condition holds, and the digit follows from it. Case by case.
use Rattle.std.specs.Prelude.{◌≡◌, refl, Bool, true, false, cond, ◌%◌, T, eqb, ℤ, pos, neg_ℤ, nat_abs}
use Rattle.std.proofs.Common.{sym, subst, arith, eqb-true}
use Rattle.std.proofs.lemmas.Bool.{eqb-false}
use Rattle.digits.specs.Integer.{rem}
use Rattle.forms.specs.Codes.{Turned, code, Held, digit_by}
use Rattle.forms.specs.Joint.{turns, digit}
use Rattle.forms.specs.Residue.{residue}
use Rattle.forms.specs.Test.{Test, both, either, equal}

-- the digit follows from the code
pub digit_by_lem : (c o : ℤ) → digit c o ≡ digit_by (code c o) c
unfolding digit code
digit_by_lem c o = go (eqb (nat_abs c % 2) 0) (turns c o)
  where
    go : (e t : Bool) → cond e (pos 0) (cond t (neg_ℤ (residue 2 c)) (residue 2 c)) ≡ digit_by (cond e 0 (cond t 2 1)) c
    go true t = refl
    go false true = refl
    go false false = refl

-- the test of a turned sign
abbrev turned : (c o : ℤ) → Test (Turned c o)
turned c o = both (either (equal (rem c 8) 3) (equal (rem c 8) 5)) (equal (rem o 4) 2)

-- the code's condition holds
pub code_held : (c o : ℤ) → Held c o (code c o)
unfolding code
code_held c o = go (eqb (nat_abs c % 2) 0) refl (turns c o) refl
  where
    go : (e : Bool) → eqb (nat_abs c % 2) 0 ≡ e → (t : Bool) → turns c o ≡ t → Held c o (cond e 0 (cond t 2 1))
    go true h t g =
        let even : nat_abs c % 2 ≡ 0 = eqb-true (nat_abs c % 2) 0 h in
        record {
          even = (λ _. even, λ _. refl);
          plain = (λ z. absurd (omega arith), λ p. absurd (omega (arith, p.0)));
          turned = (λ z. absurd (omega arith), λ p. absurd (omega (arith, p.0)));
        }
    go false h true g =
        let odd : nat_abs c % 2 ≡ 1 = omega (arith, eqb-false (nat_abs c % 2) 0 h) in
        let turn : Turned c o = (turned c o).tells (subst T (sym g) tt) in
        record {
          even = (λ z. absurd (omega arith), λ p. absurd (omega arith));
          plain = (λ z. absurd (omega arith), λ p. absurd (p.1 turn));
          turned = (λ _. (odd, turn), λ _. refl);
        }
    go false h false g =
        let odd : nat_abs c % 2 ≡ 1 = omega (arith, eqb-false (nat_abs c % 2) 0 h) in
        let not_turned : ¬ (Turned c o) = λ t. subst T g ((turned c o).shows t) in
        record {
          even = (λ z. absurd (omega arith), λ p. absurd (omega arith));
          plain = (λ _. (odd, not_turned), λ _. refl);
          turned = (λ z. absurd (omega arith), λ p. absurd (not_turned p.1));
        }

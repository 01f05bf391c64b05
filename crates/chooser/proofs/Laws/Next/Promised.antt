-- What the call for the next limit promises of accepted sheets, and the number of its answer, whatever is asked. From demand 3.
use Rattle.std.specs.Prelude.{◌≡◌, Bool, ◌&&◌, List, ℕ, suc, ◌≤◌, ◌<◌, ◌^◌, ltb, ℤ, nat_abs, Ok, Err}
use Rattle.std.proofs.Math.Path.{refl}
use Rattle.std.proofs.Common.{subst, arith, ltb-true, ltb-false}
use Rattle.std.proofs.Math.Bool.{true, false, cond}
use Rattle.digits.specs.declared.limits.Limits.{Limits}
use Rattle.digits.specs.Limits.{bits}
use Rattle.digits.specs.Scalar.{Bytes, signed_scalar, sized}
use Rattle.digits.proofs.Laws.Scalar.Signed.{signed_bounded}
use Rattle.sheet.specs.Answer.{sheet_additions}
use Rattle.sheet.specs.Plan.{most_slots, is_limit}
use Rattle.written.specs.Enough.{Enough}
use Rattle.digits.specs.declared.missed.Missed.TheVariants.{BadScalar, BadLimit}
use Rattle.std.specs.declared.option.Option.{Option}
use Rattle.chooser.specs.declared.next.Pays.{Pays}
use Rattle.chooser.specs.Call.{Cheapest, choice_question}
use Rattle.chooser.proofs.Laws.Call.Demand.{cheapest_sheet}
use Rattle.chooser.specs.Cheapest.{cheapest}
use Rattle.chooser.proofs.Laws.Cheapest.Sheet.{additions_of, cheapest_is_least}
use Rattle.chooser.specs.Next.{fewest, Next, pays, none, next_limit, next_number, next_answer, NoneFewer, NextPromised}
use Rattle.chooser.proofs.Laws.Next.First.{next_meets}

-- the limit that the words say keeps the promise, under any limits that are enough
module _ (limits : Limits) (enough : Enough limits) (k l : ℤ) (limit : ℕ) (k_fits : nat_abs k < 2 ^ bits limits) (l_fits : nat_abs l < 2 ^ bits limits) where
  none_fewer : (n : ℕ) → ((i : ℕ) → limit < i → i < n → fewest k l limit ≤ fewest k l i) → NoneFewer limits k l limit n
  none_fewer n h i from below t a s = go (ltb limit i) refl
    where
      go : (b : Bool) → ltb limit i ≡ b → sheet_additions limits (cheapest k l limit) ≤ sheet_additions limits t
      go true e =
          omega (arith, additions_of limits enough k l limit k_fits l_fits, h i (ltb-true limit i e) below, additions_of limits enough k l i k_fits l_fits, cheapest_is_least limits enough k l i k_fits l_fits t a s)
      go false e = cheapest_is_least limits enough k l limit k_fits l_fits t a (omega (arith, ltb-false limit i e, s))

  pub next_kept : {r : Option Pays} → Next (fewest k l) limit r → NextPromised limits (Ok r) k l limit
  next_kept (pays {n} u v e w q) =
      record {
        larger = u;
        allowed = v;
        none_sooner = none_fewer n q;
        there = subst (Cheapest limits (cheapest k l n) k l n) e (cheapest_sheet limits enough k l n k_fits l_fits);
        fewer = omega (arith, w, additions_of limits enough k l limit k_fits l_fits);
      }
  next_kept (none q) = none_fewer (suc most_slots) (λ i x y. q i x (omega arith))

module _ (limits : Limits) (k : List ℕ) (k_sign : ℕ) (l : List ℕ) (l_sign : ℕ) (limit : ℕ) where
  -- the two signed scalars
  abbrev x : ℤ
  x = signed_scalar k k_sign

  abbrev y : ℤ
  y = signed_scalar l l_sign

  -- whatever is asked, the answer keeps the promise
  pub next_promised : Enough limits → Bytes k → Bytes l → NextPromised limits (next_answer limits k k_sign l l_sign limit) x y limit
  unfolding next_answer
  next_promised enough bk bl = go (sized limits k) (sized limits l) (is_limit limit) refl refl
    where
      go : (a b c : Bool) → sized limits k ≡ a → sized limits l ≡ b → NextPromised limits (cond (a && b) (cond c (Ok (next_limit x y limit)) (Err BadLimit)) (Err BadScalar)) x y limit
      go false b c e f = tt
      go true false c e f = tt
      go true true false e f = tt
      go true true true e f = next_kept limits enough x y limit (signed_bounded limits k k_sign bk e) (signed_bounded limits l l_sign bl f) (next_meets x y limit)

  -- and its number is that of the first question missed
  pub next_question : next_number (next_answer limits k k_sign l l_sign limit) ≡ choice_question limits k l limit
  unfolding next_answer
  next_question = go (sized limits k) (sized limits l) (is_limit limit)
    where
      go : (a b c : Bool) → next_number (cond (a && b) (cond c (Ok (next_limit x y limit)) (Err BadLimit)) (Err BadScalar)) ≡ cond a (cond b (cond c 0 4) 1) 1
      go true true true = refl
      go true true false = refl
      go true false c = refl
      go false b c = refl

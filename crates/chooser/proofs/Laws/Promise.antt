-- What is promised of the next limit that pays, in one place; the proofs are in the files that the answers name. The contract of `next_limit`
-- carries it (`NextPromised`).
use Rattle.std.specs.Prelude.{◌≡◌, ◌↔◌, ℕ, ◌^◌, ◌≤◌, ◌<◌, ℤ, pos, nat_abs, Ok}
use Rattle.std.proofs.Common.{sym, subst, arith}
use Rattle.digits.specs.declared.limits.Limits.{Limits}
use Rattle.digits.specs.Limits.{bits}
use Rattle.sheet.specs.Answer.{sheet_additions}
use Rattle.sheet.specs.Plan.{most_slots}
use Rattle.written.specs.Enough.{Enough}
use Rattle.std.specs.declared.option.Option.{Option}
use Rattle.std.specs.declared.option.Option.TheVariants.{None}
use Rattle.chooser.specs.declared.next.Pays.{Pays}
use Rattle.chooser.specs.Cheapest.{cheapest}
use Rattle.chooser.proofs.Laws.Cheapest.Sheet.{additions_of}
use Rattle.chooser.specs.Next.{fewest, Next, none, next_limit, NextPromised}
use Rattle.chooser.proofs.Laws.Next.First as First
use Rattle.chooser.proofs.Laws.Next.Promised.{next_kept}

module _ (k l : ℤ) (limit : ℕ) where
  -- the answer is the smallest larger limit, up to 31, at which the cheapest sheet has fewer additions, and that number; or none
  pub next_meets : Next (fewest k l) limit (next_limit k l limit)
  next_meets = First.next_meets k l limit

  -- and it is the only such answer
  pub next_only : (r : Option Pays) → Next (fewest k l) limit r → r ≡ next_limit k l limit
  next_only = First.next_only k l limit

  -- it is none exactly when no larger limit up to 31 lowers the additions
  pub none_exactly : (next_limit k l limit ≡ None) ↔ ((i : ℕ) → limit < i → i ≤ most_slots → fewest k l limit ≤ fewest k l i)
  none_exactly = (λ e. none_lowers (subst (Next (fewest k l) limit) e next_meets), λ q. sym (next_only None (none q)))
    where
      none_lowers : Next (fewest k l) limit None → (i : ℕ) → limit < i → i ≤ most_slots → fewest k l limit ≤ fewest k l i
      none_lowers (none q) = q

  -- so it is none at the highest limit
  pub none_highest : most_slots ≤ limit → next_limit k l limit ≡ None
  none_highest h = none_exactly.1 (λ i u v. absurd (omega arith))

  -- the signs of the scalars do not change it
  pub next_signs : next_limit k l limit ≡ next_limit (pos (nat_abs k)) (pos (nat_abs l)) limit
  next_signs = First.next_signs k l limit

-- a larger limit never has more additions
pub fewest_falls : (k l : ℤ) (n m : ℕ) → n ≤ m → fewest k l m ≤ fewest k l n
fewest_falls = First.fewest_falls

-- under any limits that are enough for the scalars that they allow:
module _ (limits : Limits) (enough : Enough limits) (k l : ℤ) (limit : ℕ) (k_fits : nat_abs k < 2 ^ bits limits) (l_fits : nat_abs l < 2 ^ bits limits) where
  -- the additions compared are those of the cheapest sheet's lines
  pub fewest_is : sheet_additions limits (cheapest k l limit) ≡ fewest k l limit
  fewest_is = additions_of limits enough k l limit k_fits l_fits

  -- before a limit that pays no accepted sheet has fewer additions than the cheapest at the limit asked, and at it one has those told; where none
  -- pays, none has fewer at any limit up to 31
  pub next_promise : NextPromised limits (Ok (next_limit k l limit)) k l limit
  next_promise = next_kept limits enough k l limit k_fits l_fits (next_meets k l limit)

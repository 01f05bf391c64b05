-- The cheapest sheet: its plan and its digits, that it is accepted and keeps the limit, its additions, and that every accepted sheet within
-- the limit has as many. Under any limits that are enough, from the laws of written sheets, of the digits
-- of accepted ones, and of the cheapest plan.
use Rattle.std.specs.Prelude.{◌≡◌, List, ℕ, ◌^◌, ◌≤◌, ◌<◌, ℤ, nat_abs}
use Rattle.std.proofs.Common.{sym, ap, subst, arith}
use Rattle.digits.specs.declared.limits.Limits.{Limits}
use Rattle.digits.specs.Limits.{bits}
use Rattle.sheet.specs.Answer.{Accepted, heading, sheet_slots, sheet_additions}
use Rattle.sheet.proofs.Laws.Promise.{accepted_exactly, accepted_states, accepted_rows}
use Rattle.sheet.specs.Digits.{columns}
use Rattle.sheet.specs.Line.{Kind, Header, plan, plan_of}
use Rattle.sheet.specs.Sound.{Windows, for_j, for_i, sheet_lines}
use Rattle.sheet.specs.Spelling.{lines}
use Rattle.written.specs.Enough.{Enough}
use Rattle.written.proofs.Laws.Promise.{written_accepted, written_lines_lem, written_plan, written_slots, written_counted, written_doubled, written_cost, written_columns}
use Rattle.written.specs.Valid as Valids
use Rattle.written.specs.Valid.{Valid}
use Rattle.written.specs.Written.{digits, written_additions, written_doublings}
use Rattle.chooser.specs.Cheapest.{cheapest_plan, cheapest}
use Rattle.chooser.proofs.Laws.Cheapest.Least.{digits_fewest, plan_within, plan_least}

windows_valid : (h : Header) → Windows h.kind h.m1 h.m2 → Valid (plan h)
windows_valid h w = go h.kind w
  where
    go : (t : Kind) → Windows t h.m1 h.m2 → Valid (plan_of t h.m1 h.m2)
    go t (for_j a b) = Valids.for_j
    go t (for_i a b) = Valids.for_i a b

-- the plan of an accepted sheet is one of 01's
accepted_valid : (limits : Limits) (s : List ℕ) (k l : ℤ) → Accepted limits s k l → Valid (plan (heading (lines limits s)))
unfolding sheet_lines
accepted_valid limits s k l a =
    let b = (accepted_exactly limits s k l).0 a in
    subst (λ (h : Header). Valid (plan h)) (sym (ap heading b.laid)) (windows_valid b.head b.windows)

module _ (limits : Limits) (enough : Enough limits) (k l : ℤ) (limit : ℕ) (k_fits : nat_abs k < 2 ^ bits limits) (l_fits : nat_abs l < 2 ^ bits limits) where
  -- the additions of the cheapest sheet are those of its plan
  pub additions_of : sheet_additions limits (cheapest k l limit) ≡ written_additions (cheapest_plan k l limit) k l
  unfolding cheapest
  additions_of = written_counted limits enough (cheapest_plan k l limit) k l (plan_within k l limit).0 k_fits l_fits

  -- every sheet anybody could write that is accepted for k and l within the limit has at least as many additions
  pub cheapest_is_least : (s : List ℕ) → Accepted limits s k l → sheet_slots limits s ≤ limit → sheet_additions limits (cheapest k l limit) ≤ sheet_additions limits s
  unfolding sheet_slots
  cheapest_is_least s a h =
      let p = plan (heading (lines limits s)) in
      let r = accepted_rows limits s k l a in
      let v = accepted_valid limits s k l a in
      omega (arith, additions_of, plan_least k l limit p v h, written_cost p k l v, digits_fewest p k l (columns (lines limits s)) v r.fits r.reads_k r.reads_l, r.costs)

  -- it is accepted for k and l
  pub cheapest_accepted : Accepted limits (cheapest k l limit) k l
  unfolding cheapest
  cheapest_accepted = written_accepted limits enough (cheapest_plan k l limit) k l (plan_within k l limit).0 k_fits l_fits

  -- it keeps the limit
  pub cheapest_within : sheet_slots limits (cheapest k l limit) ≤ limit
  unfolding cheapest
  cheapest_within =
      let v = plan_within k l limit in
      omega (arith, written_slots limits enough (cheapest_plan k l limit) k l v.0 k_fits l_fits, v.1)

  -- its header counts the additions of its lines, table additions included
  pub cheapest_counted : (heading (lines limits (cheapest k l limit))).additions ≡ sheet_additions limits (cheapest k l limit)
  cheapest_counted = (accepted_states limits (cheapest k l limit) k l cheapest_accepted).1

  -- its header counts the doublings by which its plan is compared
  pub cheapest_doubled : (heading (lines limits (cheapest k l limit))).doublings ≡ written_doublings (cheapest_plan k l limit) k l
  unfolding cheapest
  cheapest_doubled = written_doubled limits enough (cheapest_plan k l limit) k l (plan_within k l limit).0 k_fits l_fits

  -- its digits are 01's row or joint form of the cheapest plan
  pub cheapest_digits : columns (lines limits (cheapest k l limit)) ≡ digits (cheapest_plan k l limit) k l
  unfolding cheapest
  cheapest_digits =
      let v = (plan_within k l limit).0 in
      rw (written_lines_lem limits enough (cheapest_plan k l limit) k l v k_fits l_fits) (written_columns (cheapest_plan k l limit) k l v)

  -- its plan is the cheapest plan
  pub cheapest_plan_lem : plan (heading (lines limits (cheapest k l limit))) ≡ cheapest_plan k l limit
  unfolding cheapest
  cheapest_plan_lem = written_plan limits enough (cheapest_plan k l limit) k l (plan_within k l limit).0 k_fits l_fits

-- `write_digits` meets its contract. The loop's invariant: what stands in the buffer, followed by the row of the remainder,
-- is the whole row (RowTurns). The measure is the number of places left.
use mathlib.Core.Path.{◌≡◌, ap, ◌∙◌}
use Prim.Native.Nat.{ℕ, ◌+◌, ◌*◌, ◌/◌, ◌%◌, ◌^◌, ◌≤◌, ◌<◌}
use native.Mathlib.Omega.{arith}
use borrow.Author.Rules.{rules}
use lib.IntN.{pos, nat_abs}
use lib.ListN.{length, length-set}
use Rattle.digits.specs.Byte.{byte_of}
use Rattle.forms.specs.Row.{digit}
use Rattle.recode.specs.declared.low.Low.{Low}
use Rattle.recode.proofs.LowBits.{all_zeros}
use Rattle.recode.proofs.LowRemainder.{Without, still}
use Rattle.recode.proofs.MachineDigit.{cast_fits, as_byte, less_asks, less_says}
use Rattle.recode.proofs.RowLoop.{Given, State, begin, refill, finish, skipped, inside, small, halved, stored, reached, few}
use Rattle.recode.proofs.rows.write_digits.Goals.{After-byte_of, After-digit_of-digit, After-filled-full, After-new-low, After-shifted-low, After-shifted-odd, After-struct_known-then-full-eq0-1, At-loop-rule, Else-ended, Else-odd-lt6}
use Rattle.recode.proofs.rows.write_digits.Goals as goal

given : (c : After-new-low) → Given c.args.bytes.now c.args.rule.m c.args.out.now
given c =
    record {
      one = c.args.rule.some;
      most = c.args.rule.most;
      are_bytes = λ i. (c.type_inv.bytes i).fits;
      in_use = c.requires.trimmed;
      cleared = c.requires.room.0;
      fits = c.requires.room.1;
    }

-- the state at a place of a turn
abbrev Standing : At-loop-rule → Low → ℕ → Type 0
Standing c s place =
    let a = c.args in State a.bytes.now a.rule.m a.out.now c.loop-rule.out s place c.loop-rule.weight

-- once the low bits are filled up
full : (c : After-filled-full) → Standing (goal.at.ended-requires c).At-loop-rule c.filled-full.result c.loop-rule.place
full c =
    refill (given (goal.at.ended-requires c).After-new-low) c.loop-rule.low c.filled-full.result c.filled-full.ensures.0 c.loop-rule.invariant

pub loop-rule-init : goal.loop-rule-init
loop-rule-init c = begin (given c) c.new-low.result c.new-low.ensures

pub ended-requires : goal.ended-requires
ended-requires c = search rules

pub returns-then-ended : goal.returns-then-ended
returns-then-ended c =
    let old = finish (given (goal.at.returns-then-ended c).After-new-low) c.filled-full.result (c.ended.ensures.0 c.if-ended.true) (full (goal.at.returns-then-ended c).After-filled-full) in record { answer = old.0; buffer = old.1 }

-- something is left
abbrev Left : After-filled-full → Low → Type 0
Left c s = s.low ≡ 0 → s.at < length c.args.bytes.now

going : (c : Else-ended) → (c.filled-full.result.low ≡ 0 → c.filled-full.result.at < length c.args.bytes.now)
going c = c.ended.ensures.1 c.if-ended.false

no-bit : (c : After-struct_known-then-full-eq0-1) → let s = c.filled-full.result in s.low ≡ 2 ^ s.bits * (s.low / 2 ^ s.bits)
no-bit c = (all_zeros c.filled-full.result.bits c.filled-full.result.low c.if-full-eq0.true).1.0

module _ (c : After-shifted-low) where
  emptied : Standing (goal.at.loop-rule-smaller-then-full-eq0 c).At-loop-rule c.shifted-low.result (c.loop-rule.place + c.filled-full.result.bits)
  emptied =
      skipped (given (goal.at.loop-rule-smaller-then-full-eq0 c).After-new-low) c.filled-full.result (going (goal.at.loop-rule-smaller-then-full-eq0 c).Else-ended) (full (goal.at.loop-rule-smaller-then-full-eq0 c).After-filled-full) c.shifted-low.result c.filled-full.result.bits
      (record { zeros = no-bit (goal.at.loop-rule-smaller-then-full-eq0 c).After-struct_known-then-full-eq0-1; shifted = c.shifted-low.ensures })

pub loop-rule-smaller-then-full-eq0 : goal.loop-rule-smaller-then-full-eq0
loop-rule-smaller-then-full-eq0 c =
    omega (arith, reached (given (goal.at.loop-rule-smaller-then-full-eq0 c).After-new-low) c.shifted-low.result (emptied c), c.filled-full.ensures.1)

pub loop-rule-preserved-then-full-eq0 : goal.loop-rule-preserved-then-full-eq0
loop-rule-preserved-then-full-eq0 c = emptied c

module _ (c : After-shifted-odd) where
  without : Without c.filled-full.result c.shifted-odd.result c.zeros-zeros.result
  without = record { zeros = c.zeros-zeros.ensures.1.0; shifted = c.shifted-odd.ensures }

  odd : Standing (goal.at.overflow_cast-place-in-loop-rule c).At-loop-rule c.shifted-odd.result (c.loop-rule.place + c.zeros-zeros.result)
  odd =
      skipped (given (goal.at.overflow_cast-place-in-loop-rule c).After-new-low) c.filled-full.result (going (goal.at.overflow_cast-place-in-loop-rule c).Else-ended) (full (goal.at.overflow_cast-place-in-loop-rule c).After-filled-full) c.shifted-odd.result
      c.zeros-zeros.result without

  going_on : Left (goal.at.overflow_cast-place-in-loop-rule c).After-filled-full c.shifted-odd.result
  going_on = still without (length c.args.bytes.now) (going (goal.at.overflow_cast-place-in-loop-rule c).Else-ended)

  within : c.loop-rule.place + c.zeros-zeros.result ≤ length c.loop-rule.out
  within = reached (given (goal.at.overflow_cast-place-in-loop-rule c).After-new-low) c.shifted-odd.result odd

pub overflow_cast-place-in-loop-rule : goal.overflow_cast-place-in-loop-rule
overflow_cast-place-in-loop-rule c = search rules

pub loop-rule-smaller-then-odd-lt6 : goal.loop-rule-smaller-then-odd-lt6
loop-rule-smaller-then-odd-lt6 c =
    omega (arith, within (goal.at.loop-rule-smaller-then-odd-lt6 c).After-shifted-odd, c.if-odd-lt6.true, c.shifted-odd.ensures.1.0, c.filled-full.ensures.1)

pub loop-rule-preserved-then-odd-lt6 : goal.loop-rule-preserved-then-odd-lt6
loop-rule-preserved-then-odd-lt6 c = odd (goal.at.loop-rule-preserved-then-odd-lt6 c).After-shifted-odd

-- and the remainder is odd
parity : (c : Else-odd-lt6) → c.shifted-odd.result.low % 2 ≡ 1
parity c =
    omega (arith, c.zeros-zeros.ensures.1.1 (omega (arith, c.if-odd-lt6.false, c.shifted-odd.ensures.1.0)), c.shifted-odd.ensures.1.1)

module _ (c : After-digit_of-digit) where
  enough : 6 ≤ c.shifted-odd.result.bits
  enough = omega (arith, c.if-odd-lt6.false)

  low_digit : c.digit_of-digit.result ≡ digit c.args.rule.m (pos (c.shifted-odd.result.low % 64))
  low_digit =
      c.digit_of-digit.ensures ∙ ap (λ (x : ℕ). digit c.args.rule.m (pos x)) c.lowest.ensures

  tiny : nat_abs c.digit_of-digit.result ≤ 31
  tiny =
      small (given (goal.at.overflow_cast-digit c).After-new-low) c.shifted-odd.result (going_on (goal.at.overflow_cast-digit c).After-shifted-odd) (odd (goal.at.overflow_cast-digit c).After-shifted-odd) enough c.digit_of-digit.result low_digit

pub overflow_cast-digit : goal.overflow_cast-digit
overflow_cast-digit c = cast_fits c.digit_of-digit.result (tiny c)

pub bounds-out-place : goal.bounds-out-place
bounds-out-place c =
    inside (given (goal.at.bounds-out-place c).After-new-low) c.shifted-odd.result (going_on (goal.at.bounds-out-place c).After-shifted-odd) (odd (goal.at.bounds-out-place c).After-shifted-odd)

pub less-low-requires : goal.less-low-requires
less-low-requires c =
    less_asks c.digit_of-digit.result (tiny (goal.at.less-low-requires c).After-digit_of-digit) c.shifted-odd.result (omega (arith, enough (goal.at.less-low-requires c).After-digit_of-digit))
    (halved (given (goal.at.less-low-requires c).After-new-low) c.shifted-odd.result (going_on (goal.at.less-low-requires c).After-shifted-odd) (odd (goal.at.less-low-requires c).After-shifted-odd) (enough (goal.at.less-low-requires c).After-digit_of-digit) c.digit_of-digit.result (low_digit (goal.at.less-low-requires c).After-digit_of-digit))

pub loop-rule-preserved : goal.loop-rule-preserved
loop-rule-preserved c =
    stored (given (goal.at.loop-rule-preserved c).After-new-low) c.shifted-odd.result (going_on (goal.at.loop-rule-preserved c).After-shifted-odd) (odd (goal.at.loop-rule-preserved c).After-shifted-odd) (enough (goal.at.loop-rule-preserved c).After-digit_of-digit) c.digit_of-digit.result (low_digit (goal.at.loop-rule-preserved c).After-digit_of-digit)
    c.less-low.result c.byte_of.result (parity (goal.at.loop-rule-preserved c).Else-odd-lt6)
    (c.byte_of.ensures ∙ ap byte_of (as_byte c.digit_of-digit.result (tiny (goal.at.loop-rule-preserved c).After-digit_of-digit)))
    (less_says c.digit_of-digit.result (tiny (goal.at.loop-rule-preserved c).After-digit_of-digit) c.shifted-odd.result c.less-low.result c.less-low.ensures)

pub overflow_add-weight : goal.overflow_add-weight
overflow_add-weight c =
    omega (arith, bounds-out-place (goal.at.overflow_add-weight c).After-byte_of, few (given (goal.at.overflow_add-weight c).After-new-low) c.loop-rule.low c.loop-rule.invariant, c.loop-rule.invariant.0, c.well_formed)

pub loop-rule-smaller : goal.loop-rule-smaller
loop-rule-smaller c = simp length-set (omega (arith, bounds-out-place (goal.at.loop-rule-smaller c).After-byte_of))

-- `write_columns` meets its contract. The loop's invariant: the columns that stand in the buffers, followed by those of the
-- remainders, are all columns (JointLoop). The measure is the number of places left.
use mathlib.Core.Path.{◌≡◌, ap, ap₂, ◌∙◌}
use Prim.Native.Nat.{ℕ, ◌+◌, ◌%◌, ◌≤◌, ◌<◌}
use native.Mathlib.Omega.{arith}
use borrow.Author.Rules.{rules}
use lib.IntN.{pos, nat_abs}
use lib.ListN.{length, replicate, length-set, length-replicate}
use Rattle.digits.specs.Byte.{byte_of}
use Rattle.digits.specs.Two.{Two, P, Q, of}
use Rattle.forms.specs.Joint.{digit}
use Rattle.forms.specs.Test.{rows}
use Rattle.recode.specs.declared.low.Low.{Low}
use Rattle.recode.proofs.LowRemainder.{Without}
use Rattle.recode.proofs.MachineDigit.{cast_fits, as_byte, less_asks, less_says}
use Rattle.recode.proofs.JointLoop.{Given, Going, State, begin, refill, finish, going_on, skipped, inside, few, small, halved, stored}
use Rattle.recode.proofs.columns.write_columns.Goals.{After-digit_table-table, After-filled-l_full, After-joint_digit-l_digit, After-shifted-l_odd, At-loop-table}
use Rattle.recode.proofs.columns.write_columns.Goals as goal

module _ (c : After-digit_table-table) where
  given : Given c.args.k.now c.args.l.now c.args.k_out.now c.args.l_out.now
  given =
      record {
        k_bytes = λ i. (c.type_inv.k i).fits;
        l_bytes = λ i. (c.type_inv.l i).fits;
        k_in_use = c.requires.trimmed.0;
        l_in_use = c.requires.trimmed.1;
        cleared = rows (λ (r : Two). of c.args.k_out.now c.args.l_out.now r ≡ replicate (length c.args.k_out.now) 0) (c.requires.cleared.0, c.requires.cleared.1);
        equal = ap length c.requires.cleared.1 ∙ length-replicate (length c.args.k_out.now) 0;
        fits = c.requires.room;
      }

-- the state at a place of a turn
abbrev Standing : At-loop-table → Low → Low → ℕ → Type 0
Standing c s t place =
    let a = c.args in State a.k.now a.l.now a.k_out.now c.loop-table.k_out c.loop-table.l_out s t place c.loop-table.weight

-- once the low bits are filled up
full : (c : After-filled-l_full) → Standing (goal.at.both_ended-requires c).At-loop-table c.filled-k_full.result c.filled-l_full.result c.loop-table.place
full c =
    refill (given (goal.at.both_ended-requires c).After-digit_table-table) c.loop-table.k_low c.filled-k_full.result c.loop-table.l_low c.filled-l_full.result c.filled-k_full.ensures.0
    c.filled-l_full.ensures.0 (omega (arith, c.loop-table.invariant.level)) c.loop-table.invariant

pub loop-table-init : goal.loop-table-init
loop-table-init c =
    begin (given c) c.new-k_low.result c.new-l_low.result c.new-k_low.ensures c.new-l_low.ensures

pub both_ended-requires : goal.both_ended-requires
both_ended-requires c = search rules

pub returns-then-both_ended : goal.returns-then-both_ended
returns-then-both_ended c =
    let e = finish (given (goal.at.returns-then-both_ended c).After-digit_table-table) c.filled-k_full.result c.filled-l_full.result (c.both_ended.ensures.0 c.if-both_ended.true) (full (goal.at.returns-then-both_ended c).After-filled-l_full) in
    record { answer = e.0; first = e.1 P; second = e.1 Q }

module _ (c : After-shifted-l_odd) where
  k-without : Without c.filled-k_full.result c.shifted-k_odd.result c.both_zeros-zeros.result
  k-without = record { zeros = c.both_zeros-zeros.ensures.zeros.1.0; shifted = c.shifted-k_odd.ensures }

  l-without : Without c.filled-l_full.result c.shifted-l_odd.result c.both_zeros-zeros.result
  l-without = record { zeros = c.both_zeros-zeros.ensures.zeros.1.1; shifted = c.shifted-l_odd.ensures }

  going : Going (length c.args.k.now) (length c.args.l.now) c.filled-k_full.result c.filled-l_full.result
  going = c.both_ended.ensures.1 c.if-both_ended.false

  some : Going (length c.args.k.now) (length c.args.l.now) c.shifted-k_odd.result c.shifted-l_odd.result
  some = going_on (length c.args.k.now) (length c.args.l.now) k-without l-without going

  odd : Standing (goal.at.overflow_add-place c).At-loop-table c.shifted-k_odd.result c.shifted-l_odd.result (c.loop-table.place + c.both_zeros-zeros.result)
  odd =
      skipped (given (goal.at.overflow_add-place c).After-digit_table-table) c.filled-k_full.result c.filled-l_full.result c.shifted-k_odd.result c.shifted-l_odd.result
      c.both_zeros-zeros.result k-without l-without going (full (goal.at.overflow_add-place c).After-filled-l_full)

  within : c.loop-table.place + c.both_zeros-zeros.result < length c.args.k_out.now
  within = inside (given (goal.at.overflow_add-place c).After-digit_table-table) c.shifted-k_odd.result c.shifted-l_odd.result some odd

pub overflow_add-place : goal.overflow_add-place
overflow_add-place c = omega (arith, within c, c.well_formed)

pub loop-table-smaller-then-k_odd-lt3 : goal.loop-table-smaller-then-k_odd-lt3
loop-table-smaller-then-k_odd-lt3 c =
    omega (arith, within (goal.at.loop-table-smaller-then-k_odd-lt3 c).After-shifted-l_odd, (odd (goal.at.loop-table-smaller-then-k_odd-lt3 c).After-shifted-l_odd).k_long, c.if-k_odd-lt3.true, c.shifted-k_odd.ensures.1.0, c.filled-k_full.ensures.1.0)

pub loop-table-preserved-then-k_odd-lt3 : goal.loop-table-preserved-then-k_odd-lt3
loop-table-preserved-then-k_odd-lt3 c = odd (goal.at.loop-table-preserved-then-k_odd-lt3 c).After-shifted-l_odd

module _ (c : After-joint_digit-l_digit) where
  k-digit : c.joint_digit-k_digit.result ≡ digit (pos (c.shifted-k_odd.result.low % 64)) (pos (c.shifted-l_odd.result.low % 64))
  k-digit =
      c.joint_digit-k_digit.ensures ∙ ap₂ (λ (x y : ℕ). digit (pos x) (pos y)) c.lowest-x.ensures c.lowest-y.ensures

  l-digit : c.joint_digit-l_digit.result ≡ digit (pos (c.shifted-l_odd.result.low % 64)) (pos (c.shifted-k_odd.result.low % 64))
  l-digit =
      c.joint_digit-l_digit.ensures ∙ ap₂ (λ (x y : ℕ). digit (pos x) (pos y)) c.lowest-y.ensures c.lowest-x.ensures

  k-tiny : nat_abs c.joint_digit-k_digit.result ≤ 31
  k-tiny = omega (arith, small c.shifted-k_odd.result c.shifted-l_odd.result c.joint_digit-k_digit.result k-digit)

  l-tiny : nat_abs c.joint_digit-l_digit.result ≤ 31
  l-tiny = omega (arith, small c.shifted-l_odd.result c.shifted-k_odd.result c.joint_digit-l_digit.result l-digit)

  parity : 1 ≤ c.shifted-k_odd.result.low % 2 + c.shifted-l_odd.result.low % 2
  parity =
      omega (
        arith,
        c.both_zeros-zeros.ensures.ended (omega (arith, c.if-k_odd-lt3.false, c.shifted-k_odd.ensures.1.0)),
        c.shifted-k_odd.ensures.1.1,
        c.shifted-l_odd.ensures.1.1,
      )

  enough : (3 ≤ c.shifted-k_odd.result.bits) × (3 ≤ c.shifted-l_odd.result.bits)
  enough = omega (arith, c.if-k_odd-lt3.false, (odd (goal.at.less-k_low-requires c).After-shifted-l_odd).level)

pub less-k_low-requires : goal.less-k_low-requires
less-k_low-requires c =
    let s = c.shifted-k_odd.result in
    less_asks c.joint_digit-k_digit.result (k-tiny c) s (omega (arith, (enough c).0))
    (halved s c.shifted-l_odd.result c.joint_digit-k_digit.result (k-digit c))

pub less-l_low-requires : goal.less-l_low-requires
less-l_low-requires c =
    let t = c.shifted-l_odd.result in
    less_asks c.joint_digit-l_digit.result (l-tiny (goal.at.less-l_low-requires c).After-joint_digit-l_digit) t (omega (arith, (enough (goal.at.less-l_low-requires c).After-joint_digit-l_digit).1))
    (halved t c.shifted-k_odd.result c.joint_digit-l_digit.result (l-digit (goal.at.less-l_low-requires c).After-joint_digit-l_digit))

pub overflow_cast-k_digit : goal.overflow_cast-k_digit
overflow_cast-k_digit c =
    cast_fits c.joint_digit-k_digit.result (k-tiny (goal.at.overflow_cast-k_digit c).After-joint_digit-l_digit)

pub bounds-k_out-place : goal.bounds-k_out-place
bounds-k_out-place c = omega (arith, within (goal.at.bounds-k_out-place c).After-shifted-l_odd, (odd (goal.at.bounds-k_out-place c).After-shifted-l_odd).k_long)

pub overflow_cast-l_digit : goal.overflow_cast-l_digit
overflow_cast-l_digit c = cast_fits c.joint_digit-l_digit.result (l-tiny (goal.at.overflow_cast-l_digit c).After-joint_digit-l_digit)

pub bounds-l_out-place : goal.bounds-l_out-place
bounds-l_out-place c = omega (arith, within (goal.at.bounds-l_out-place c).After-shifted-l_odd, (odd (goal.at.bounds-l_out-place c).After-shifted-l_odd).l_long)

pub overflow_add-place-in-loop-table : goal.overflow_add-place-in-loop-table
overflow_add-place-in-loop-table c =
    omega (arith, within (goal.at.overflow_add-place-in-loop-table c).After-shifted-l_odd, c.well_formed)

pub overflow_add-weight : goal.overflow_add-weight
overflow_add-weight c =
    omega (arith, within (goal.at.overflow_add-weight c).After-shifted-l_odd, few (given (goal.at.overflow_add-weight c).After-digit_table-table) c.shifted-k_odd.result c.shifted-l_odd.result (some (goal.at.overflow_add-weight c).After-shifted-l_odd) (odd (goal.at.overflow_add-weight c).After-shifted-l_odd), c.well_formed)

pub loop-table-smaller : goal.loop-table-smaller
loop-table-smaller c =
    simp length-set (omega (arith, within (goal.at.loop-table-smaller c).After-shifted-l_odd, (odd (goal.at.loop-table-smaller c).After-shifted-l_odd).k_long))

pub loop-table-preserved : goal.loop-table-preserved
loop-table-preserved c =
    let s = c.shifted-k_odd.result in
    let t = c.shifted-l_odd.result in
    let x = c.joint_digit-k_digit.result in
    let y = c.joint_digit-l_digit.result in
    stored (given (goal.at.loop-table-preserved c).After-digit_table-table) s t (some (goal.at.loop-table-preserved c).After-shifted-l_odd) (odd (goal.at.loop-table-preserved c).After-shifted-l_odd) (enough (goal.at.loop-table-preserved c).After-joint_digit-l_digit).0 (enough (goal.at.loop-table-preserved c).After-joint_digit-l_digit).1 (parity (goal.at.loop-table-preserved c).After-joint_digit-l_digit) x y (k-digit (goal.at.loop-table-preserved c).After-joint_digit-l_digit) (l-digit (goal.at.loop-table-preserved c).After-joint_digit-l_digit)
    c.byte_of.result c.byte_of-in-loop-table.result
    (c.byte_of.ensures ∙ ap byte_of (as_byte x (k-tiny (goal.at.loop-table-preserved c).After-joint_digit-l_digit)))
    (c.byte_of-in-loop-table.ensures ∙ ap byte_of (as_byte y (l-tiny (goal.at.loop-table-preserved c).After-joint_digit-l_digit)))
    c.less-k_low.result c.less-l_low.result (less_says x (k-tiny (goal.at.loop-table-preserved c).After-joint_digit-l_digit) s c.less-k_low.result c.less-k_low.ensures)
    (less_says y (l-tiny (goal.at.loop-table-preserved c).After-joint_digit-l_digit) t c.less-l_low.result c.less-l_low.ensures)

-- `write_row` meets its contract: the bytes copied have the scalar's value, those in use alone have it too, and the places up to the
-- bit length plus one hold the whole row.
use mathlib.Core.Path.{◌≡◌, sym, ap, ◌∙◌}
use mathlib.Core.List.{List}
use Prim.Native.Nat.{ℕ, ◌+◌, ◌*◌, ◌-◌, ◌/◌, ◌≤◌}
use native.Mathlib.Omega.{arith}
use lib.IntN.{pos}
use lib.ListN.{length, take}
use lib.Seq.{length-take-le}
use Rattle.digits.specs.Scalar.Value.{length_bytes}
use Rattle.digits.specs.Scalar.{little, scalar, bit_length}
use Rattle.forms.specs.Row.{row}
use Rattle.forms.proofs.Laws.Row.Length.{row_length}
use Rattle.recode.specs.Call.{row_size, filled}
use Rattle.recode.specs.Call.Lent.{first_length, first_cleared, first_filled}
use Rattle.recode.proofs.Prefix.{first_bytes}
use Rattle.recode.proofs.rows.write_row.Goals.{After-bits_of-bits, After-new-rule}
use Rattle.recode.proofs.rows.write_row.Goals as goal

module _ (c : After-bits_of-bits) where
  few : c.bits_of-bits.result ≤ 8 * length c.args.bytes.now
  few =
      omega (arith, c.bits_of-bits.ensures, length_bytes c.args.bytes.now (λ i. (c.type_inv.bytes i).fits))

pub overflow_add-used : goal.overflow_add-used
overflow_add-used c = omega (arith, few c, c.requires.room, c.requires.cleared)

pub overflow_add-places : goal.overflow_add-places
overflow_add-places c = omega (arith, few c, c.requires.room, c.requires.cleared)

-- once the buffer is cleared: its first places, and the number that was copied
module _ (c : After-new-rule) where
  abbrev bits : ℕ
  bits = c.bits_of-bits.result

  abbrev bytes : List ℕ
  bytes = c.copy_into.new.bytes

  abbrev out : List ℕ
  out = c.args.out.now

  abbrev m : ℕ
  m = c.new-rule.result.m

  one : 1 ≤ m
  one = c.new-rule.result.some

  enough : bits + 1 ≤ length out
  enough = omega (arith, few (goal.at.slice_bounds-write_digits-end c).After-bits_of-bits, c.requires.room)

  -- the bytes that are lent on, and their number
  abbrev used : ℕ
  used = (bits + 7) / 8

  within : used ≤ length bytes
  within = omega (arith, few (goal.at.slice_bounds-write_digits-end c).After-bits_of-bits, c.requires.room, c.requires.cleared, c.copy_into.auto)

  number : little (take used bytes) ≡ scalar c.args.bytes.now
  number =
      let a = c.args in
      first_bytes a.bytes.now (length a.remainder.now - length a.bytes.now) bytes bits c.copy_into.ensures c.bits_of-bits.ensures

  short : length (row m (pos (little (take used bytes)))) ≤ bits + 1
  short = rw number (omega (arith, row_length m (pos (scalar c.args.bytes.now)) one, c.bits_of-bits.ensures))

pub slice_bounds-write_digits-end : goal.slice_bounds-write_digits-end
slice_bounds-write_digits-end c = within (goal.at.slice_bounds-write_digits-end c).After-new-rule

pub slice_bounds-write_digits-end-2 : goal.slice_bounds-write_digits-end-2
slice_bounds-write_digits-end-2 c =
    sym (length-take-le (used (goal.at.slice_bounds-write_digits-end-2 c).After-new-rule) (c.copy_into.new.bytes) (within (goal.at.slice_bounds-write_digits-end-2 c).After-new-rule))

pub slice_bounds-write_digits-end-3 : goal.slice_bounds-write_digits-end-3
slice_bounds-write_digits-end-3 c =
    omega (arith, enough (goal.at.slice_bounds-write_digits-end-3 c).After-new-rule, c.clear.auto)

pub slice_bounds-write_digits-end-4 : goal.slice_bounds-write_digits-end-4
slice_bounds-write_digits-end-4 c =
    sym (first_length (c.args.out.now) c.clear.new.buffer _ c.clear.ensures (enough (goal.at.slice_bounds-write_digits-end-4 c).After-new-rule))

pub write_digits-requires : goal.write_digits-requires
write_digits-requires c =
    let s = (goal.at.write_digits-requires c).After-new-rule in
    let long = first_length (out s) c.clear.new.buffer (bits s + 1) c.clear.ensures (enough s) in record {
      trimmed = length-take-le (used s) (bytes s) (within s) ∙ ap (λ (n : ℕ). (n + 7) / 8) (c.bits_of-bits.ensures ∙ ap bit_length (sym (number s)));
      room = (first_cleared (out s) c.clear.new.buffer (bits s + 1) c.clear.ensures (enough s), omega (arith, short s, long));
    }

pub returns : goal.returns
returns c =
    let s = (goal.at.returns c).After-new-rule in
    rw (← c.new-rule.ensures) record {
      answer = c.write_digits.ensures.answer ∙ ap (λ (n : ℕ). row_size (row (m s) (pos n))) (number s);
      buffer = first_filled (out s) c.clear.new.buffer (bits s + 1) c.clear.ensures (enough s) (row (m s) (pos (little (take (used s) (bytes s))))) _ (short s) c.write_digits.ensures.buffer
          ∙ ap (λ (n : ℕ). filled (row (m s) (pos n)) (out s)) (number s);
    }

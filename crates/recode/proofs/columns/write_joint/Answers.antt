-- `write_joint` meets its contract: the bytes copied and in use have the scalars' values, and the places up to the longer bit length
-- plus one hold all columns.
use mathlib.Core.Path.{◌≡◌, sym, ap, ap₂, ◌∙◌}
use mathlib.Core.List.{List}
use Prim.Native.Nat.{ℕ, ◌+◌, ◌*◌, ◌-◌, ◌/◌, ◌≤◌, max}
use native.Mathlib.Omega.{arith}
use lib.IntN.{pos}
use lib.ListN.{length, take, replicate}
use lib.Seq.{length-take-le}
use Rattle.digits.specs.Scalar.Value.{length_bytes}
use Rattle.digits.specs.Column as Columns
use Rattle.digits.specs.Column.Length.{row_length}
use Rattle.digits.specs.Scalar.{little, scalar, bit_length}
use Rattle.digits.specs.Two.{Column, P, Q, two}
use Rattle.forms.specs.Joint.{joint}
use Rattle.forms.proofs.Laws.Joint.Length.{joint_length}
use Rattle.recode.specs.Call.{columns_size, filled}
use Rattle.recode.specs.Call.Lent.{first_length, first_cleared, first_filled, first_places}
use Rattle.recode.proofs.Prefix.{first_bytes}
use Rattle.recode.proofs.columns.write_joint.Goals.{After-max-places, After-slice_known-8-1}
use Rattle.recode.proofs.columns.write_joint.Goals as goal

module _ (c : After-max-places) where
  k-few : c.bits_of-k_bits.result ≤ 8 * length c.args.k.now
  k-few = omega (arith, c.bits_of-k_bits.ensures, length_bytes c.args.k.now (λ i. (c.type_inv.k i).fits))

  l-few : c.bits_of-l_bits.result ≤ 8 * length c.args.l.now
  l-few =
      omega (arith, c.bits_of-l_bits.ensures, length_bytes c.args.l.now (λ i. (c.type_inv.l i).fits))

  few : c.max-places.result ≤ 8 * max (length c.args.k.now) (length c.args.l.now)
  few = omega (arith, c.max-places.ensures, k-few, l-few)

pub overflow_add-places : goal.overflow_add-places
overflow_add-places c = omega (arith, few c, c.requires.scalars)

-- once the buffers are cleared: their first places, and the numbers that were copied
module _ (c : After-slice_known-8-1) where
  abbrev places : ℕ
  places = c.max-places.result + 1

  abbrev k-out : List ℕ
  k-out = c.args.k_out.now

  abbrev l-out : List ℕ
  l-out = c.args.l_out.now

  -- the buffers as cleared
  abbrev k-clear : List ℕ
  k-clear = c.clear.new.buffer

  k-cleared : k-clear ≡ replicate (length k-out) 0
  k-cleared = c.clear.ensures

  abbrev l-clear : List ℕ
  l-clear = c.clear-2.new.buffer

  l-cleared : l-clear ≡ replicate (length l-out) 0
  l-cleared = c.clear-2.ensures

  -- the bytes that are lent on
  abbrev k-bytes : List ℕ
  k-bytes = take ((c.bits_of-k_bits.result + 7) / 8) c.copy_into.new.bytes

  abbrev l-bytes : List ℕ
  l-bytes = take ((c.bits_of-l_bits.result + 7) / 8) c.copy_into-2.new.bytes

  k-within : (c.bits_of-k_bits.result + 7) / 8 ≤ length c.copy_into.new.bytes
  k-within = omega (arith, k-few (goal.at.overflow_add-k_used c).After-max-places, c.requires.first_remainder, c.copy_into.auto)

  l-within : (c.bits_of-l_bits.result + 7) / 8 ≤ length c.copy_into-2.new.bytes
  l-within = omega (arith, l-few (goal.at.overflow_add-k_used c).After-max-places, c.requires.second_remainder, c.copy_into-2.auto)

  abbrev columns : List Column
  columns = joint (pos (little k-bytes)) (pos (little l-bytes))

  k-enough : places ≤ length k-out
  k-enough = omega (arith, few (goal.at.overflow_add-k_used c).After-max-places, c.requires.room)

  l-enough : places ≤ length l-out
  l-enough = omega (arith, few (goal.at.overflow_add-k_used c).After-max-places, c.requires.room)

  k-number : little k-bytes ≡ scalar c.args.k.now
  k-number =
      let a = c.args in
      first_bytes a.k.now (length a.k_remainder.now - length a.k.now) c.copy_into.new.bytes _ c.copy_into.ensures c.bits_of-k_bits.ensures

  l-number : little l-bytes ≡ scalar c.args.l.now
  l-number =
      let a = c.args in
      first_bytes a.l.now (length a.l_remainder.now - length a.l.now) c.copy_into-2.new.bytes _ c.copy_into-2.ensures c.bits_of-l_bits.ensures

  short : length columns ≤ places
  short =
      let a = c.args in
      rw (k-number, l-number)
      (omega (arith, joint_length (pos (scalar a.k.now)) (pos (scalar a.l.now)), c.bits_of-k_bits.ensures, c.bits_of-l_bits.ensures, c.max-places.ensures))

  k-first : length (take places k-clear) ≡ places
  k-first = first_length k-out k-clear places k-cleared k-enough

  l-first : length (take places l-clear) ≡ places
  l-first = first_length l-out l-clear places l-cleared l-enough

pub overflow_add-k_used : goal.overflow_add-k_used
overflow_add-k_used c = omega (arith, k-few (goal.at.overflow_add-k_used c).After-max-places, c.requires.scalars)

pub overflow_add-l_used : goal.overflow_add-l_used
overflow_add-l_used c = omega (arith, l-few (goal.at.overflow_add-l_used c).After-max-places, c.requires.scalars)

pub slice_bounds-write_columns-end : goal.slice_bounds-write_columns-end
slice_bounds-write_columns-end c = k-within c

pub slice_bounds-write_columns-end-2 : goal.slice_bounds-write_columns-end-2
slice_bounds-write_columns-end-2 c = sym (length-take-le _ _ (k-within c))

pub slice_bounds-write_columns-end-3 : goal.slice_bounds-write_columns-end-3
slice_bounds-write_columns-end-3 c = l-within c

pub slice_bounds-write_columns-end-4 : goal.slice_bounds-write_columns-end-4
slice_bounds-write_columns-end-4 c = sym (length-take-le _ _ (l-within c))

pub slice_bounds-write_columns-end-5 : goal.slice_bounds-write_columns-end-5
slice_bounds-write_columns-end-5 c =
    omega (arith, k-enough c, c.clear.auto)

pub slice_bounds-write_columns-end-6 : goal.slice_bounds-write_columns-end-6
slice_bounds-write_columns-end-6 c = sym (k-first (goal.at.slice_bounds-write_columns-end-6 c).After-slice_known-8-1)

pub slice_bounds-write_columns-end-7 : goal.slice_bounds-write_columns-end-7
slice_bounds-write_columns-end-7 c =
    omega (arith, l-enough (goal.at.slice_bounds-write_columns-end-7 c).After-slice_known-8-1, c.clear-2.auto)

pub slice_bounds-write_columns-end-8 : goal.slice_bounds-write_columns-end-8
slice_bounds-write_columns-end-8 c = sym (l-first (goal.at.slice_bounds-write_columns-end-8 c).After-slice_known-8-1)

pub write_columns-requires : goal.write_columns-requires
write_columns-requires c =
    record {
      trimmed = (
        length-take-le _ _ (k-within (goal.at.write_columns-requires c).After-slice_known-8-1) ∙ ap (λ (b : ℕ). (b + 7) / 8) (c.bits_of-k_bits.ensures ∙ ap bit_length (sym (k-number (goal.at.write_columns-requires c).After-slice_known-8-1))),
        length-take-le _ _ (l-within (goal.at.write_columns-requires c).After-slice_known-8-1) ∙ ap (λ (b : ℕ). (b + 7) / 8) (c.bits_of-l_bits.ensures ∙ ap bit_length (sym (l-number (goal.at.write_columns-requires c).After-slice_known-8-1))),
      );
      cleared = (
        first_cleared (c.args.k_out.now) (c.clear.new.buffer) (places (goal.at.write_columns-requires c).After-slice_known-8-1) (k-cleared (goal.at.write_columns-requires c).After-slice_known-8-1) (k-enough (goal.at.write_columns-requires c).After-slice_known-8-1),
        first_places (c.args.l_out.now) (c.clear-2.new.buffer) (places (goal.at.write_columns-requires c).After-slice_known-8-1) (l-cleared (goal.at.write_columns-requires c).After-slice_known-8-1) (l-enough (goal.at.write_columns-requires c).After-slice_known-8-1) ∙ ap (λ (i : ℕ). replicate i 0) (sym (k-first (goal.at.write_columns-requires c).After-slice_known-8-1)),
      );
      room = omega (arith, short (goal.at.write_columns-requires c).After-slice_known-8-1, k-first (goal.at.write_columns-requires c).After-slice_known-8-1);
    }

pub returns : goal.returns
returns c =
    let cs = columns (goal.at.returns c).After-slice_known-8-1 in record {
      answer = c.write_columns.ensures.answer ∙ ap₂ (λ (a b : ℕ). columns_size (joint (pos a) (pos b))) (k-number (goal.at.returns c).After-slice_known-8-1) (l-number (goal.at.returns c).After-slice_known-8-1);
      first = first_filled (c.args.k_out.now) (c.clear.new.buffer) (places (goal.at.returns c).After-slice_known-8-1) (k-cleared (goal.at.returns c).After-slice_known-8-1) (k-enough (goal.at.returns c).After-slice_known-8-1) (Columns.row two P cs) _ (omega (arith, short (goal.at.returns c).After-slice_known-8-1, row_length two P cs)) c.write_columns.ensures.first
          ∙ ap₂ (λ (a b : ℕ). filled (Columns.row two P (joint (pos a) (pos b))) (c.args.k_out.now)) (k-number (goal.at.returns c).After-slice_known-8-1) (l-number (goal.at.returns c).After-slice_known-8-1);
      second = first_filled (c.args.l_out.now) (c.clear-2.new.buffer) (places (goal.at.returns c).After-slice_known-8-1) (l-cleared (goal.at.returns c).After-slice_known-8-1) (l-enough (goal.at.returns c).After-slice_known-8-1) (Columns.row two Q cs) _ (omega (arith, short (goal.at.returns c).After-slice_known-8-1, row_length two Q cs)) c.write_columns.ensures.second
          ∙ ap₂ (λ (a b : ℕ). filled (Columns.row two Q (joint (pos a) (pos b))) (c.args.l_out.now)) (k-number (goal.at.returns c).After-slice_known-8-1) (l-number (goal.at.returns c).After-slice_known-8-1);
    }

-- `write_row` meets its contract: the bytes lent have the scalar's value, the places lent hold the whole row, and the sign is that of the scalar.
use mathlib.Core.Path.{◌≡◌, sym, ap, ap₂, subst, ◌∙◌}
use mathlib.Core.List.{List, ◌++◌, map}
use Prim.Native.Nat.{ℕ, ◌+◌, ◌-◌, ◌≤◌}
use native.Mathlib.Omega.{arith}
use lib.IntN.{ℤ}
use lib.ListN.{length, take, drop, length-append}
use lib.Seq.{take_at}
use Rattle.digits.specs.Integer.{signed_by}
use Rattle.digits.specs.Row.{weight}
use Rattle.digits.specs.Scalar.{Bytes, scalar, signed_scalar, bit_length}
use Rattle.digits.proofs.Laws.Scalar.Signed.{scalar_size}
use Rattle.forms.specs.Residue.{width}
use Rattle.recode.specs.Call.{of_size, filled}
use Rattle.recode.specs.Call.Lent.{first_length, first_cleared, first_filled}
use Rattle.down.specs.Body.Length.{UpTo}
use Rattle.down.specs.Down.{natural, down}
use Rattle.down.proofs.Laws.Down.Row.{down_signed, down_length, down_digits, down_top}
use borrow.Author.Rules.{rules}
use Rattle.down.proofs.UsedBytes.{bytes_from, used_most, used_length, used_value, filled_up_to}
use Rattle.down.proofs.rows.write_row.Goals.{After-bits_of-below, After-length_of, After-slice_known-2-1, After-slice_known-3-1, After-struct_known-1}
use Rattle.down.proofs.rows.write_row.Goals as goal

-- once the bit length is known
module _ (c : After-struct_known-1) where
  abbrev bytes : List ℕ
  bytes = c.args.bytes.now

  abbrev used : ℕ
  used = c.bit_length-used.result.below + 1

  abbrev row : List ℤ
  row = down c.get-m.result (signed_scalar bytes c.args.sign)

  one : 1 ≤ c.get-m.result
  one = omega (arith, c.get-m.ensures.odd, c.get-m.ensures.number)

  few : c.get-m.result ≤ 31
  few = omega (arith, c.get-m.ensures.most, c.get-m.ensures.number)

  are-bytes : Bytes bytes
  are-bytes i = (c.type_inv.bytes i).fits

  used-few : used ≤ length bytes
  used-few = used_most bytes are-bytes c.requires.0 c.bit_length-used.ensures

  bytes-lent : length (bytes_from bytes (length bytes - used)) ≡ used
  bytes-lent = used_length bytes are-bytes c.requires.0 c.bit_length-used.ensures

  -- the digits of the bytes lent, with the sign, are the row
  row_is : map (signed_by c.args.sign) (natural c.get-m.result (scalar (bytes_from bytes (length bytes - used)))) ≡ row
  unfolding signed_scalar
  row_is =
      let a = c.args in
      ap (λ (n : ℕ). map (signed_by a.sign) (natural c.get-m.result n)) (used_value bytes are-bytes c.requires.0 c.bit_length-used.ensures)
      ∙ sym (down_signed c.get-m.result a.sign (scalar bytes) one)

pub overflow_add-used : goal.overflow_add-used
overflow_add-used c = omega (arith, used-few c)

pub overflow_sub-first : goal.overflow_sub-first
overflow_sub-first c = used-few c

pub places_for-places-requires : goal.places_for-places-requires
places_for-places-requires c = omega (arith, used-few c, c.requires)

pub bits_of-below-requires : goal.bits_of-below-requires
bits_of-below-requires c = search rules

-- once the buffer is cleared
module _ (c : After-slice_known-2-1) where
  abbrev lent : List ℕ
  lent = take c.places_for-places.result c.clear.new.buffer

  abbrev rest : List ℕ
  rest = drop c.places_for-places.result c.clear.new.buffer

  places-few : c.places_for-places.result ≤ length c.args.out.now
  places-few = omega (arith, used-few (goal.at.bits_of-below-requires c).After-struct_known-1, c.requires)

  -- the row has no more places than are lent
  row-short : length (row (goal.at.bits_of-below-requires c).After-struct_known-1) ≤ c.places_for-places.result
  row-short =
      let a = c.args in
      omega (
        arith,
        down_length c.get-m.result (signed_scalar a.bytes.now a.sign) (one (goal.at.bits_of-below-requires c).After-struct_known-1),
        ap bit_length (scalar_size a.bytes.now a.sign),
        c.bit_length-used.ensures,
      )

  lent_length : length lent ≡ c.places_for-places.result
  lent_length = first_length c.args.out.now c.clear.new.buffer c.places_for-places.result c.clear.ensures places-few

pub slice_bounds-write_digits-end-2 : goal.slice_bounds-write_digits-end-2
slice_bounds-write_digits-end-2 c = omega (arith, used-few (goal.at.slice_bounds-write_digits-end-2 c).After-struct_known-1, c.requires)

pub slice_bounds-write_digits-end-3 : goal.slice_bounds-write_digits-end-3
slice_bounds-write_digits-end-3 c = sym (lent_length (goal.at.slice_bounds-write_digits-end-3 c).After-slice_known-2-1)

width_is : (c : After-bits_of-below) → c.bits_of-below.result + 1 ≡ width c.get-m.result
unfolding width
width_is c = omega (arith, c.bits_of-below.ensures)

pub write_digits-weight-requires : goal.write_digits-weight-requires
write_digits-weight-requires c =
    record {
      recodable = (omega (arith, bytes-lent (goal.at.write_digits-weight-requires c).After-struct_known-1, used-few (goal.at.write_digits-weight-requires c).After-struct_known-1, c.requires.1.0), (one (goal.at.write_digits-weight-requires c).After-struct_known-1, (few (goal.at.write_digits-weight-requires c).After-struct_known-1, width_is (goal.at.write_digits-weight-requires c).After-bits_of-below)));
      cleared = (
        first_cleared c.args.out.now c.clear.new.buffer c.places_for-places.result c.clear.ensures (places-few (goal.at.write_digits-weight-requires c).After-slice_known-2-1),
        omega (arith, lent_length (goal.at.write_digits-weight-requires c).After-slice_known-2-1, bytes-lent (goal.at.write_digits-weight-requires c).After-struct_known-1),
      );
    }

-- once the digits are written
module _ (c : After-slice_known-3-1) where
  -- what the places lent hold
  abbrev first : List ℕ
  first = c.write_digits-weight.new.out

  first-is : first ≡ filled (row (goal.at.slice_bounds-length_of-end c).After-struct_known-1) (lent (goal.at.slice_bounds-length_of-end c).After-slice_known-2-1)
  first-is = c.write_digits-weight.ensures.buffer ∙ ap (λ (ds : List ℤ). filled ds (lent (goal.at.slice_bounds-length_of-end c).After-slice_known-2-1)) (row_is (goal.at.slice_bounds-length_of-end c).After-struct_known-1)

  first_count : length first ≡ c.places_for-places.result
  first_count = omega (arith, lent_length (goal.at.slice_bounds-length_of-end c).After-slice_known-2-1, c.write_digits-weight.auto)

  first_taken : take c.places_for-places.result (first ++ rest (goal.at.slice_bounds-length_of-end c).After-slice_known-2-1) ≡ first
  first_taken = take_at first (rest (goal.at.slice_bounds-length_of-end c).After-slice_known-2-1) c.places_for-places.result first_count

pub slice_bounds-length_of-end : goal.slice_bounds-length_of-end
slice_bounds-length_of-end c =
    omega (arith, length-append (c.write_digits-weight.new.out) (rest (goal.at.slice_bounds-length_of-end c).After-slice_known-2-1), first_count c)

pub slice_bounds-length_of-end-2 : goal.slice_bounds-length_of-end-2
slice_bounds-length_of-end-2 c =
    sym (ap length (first_taken c) ∙ first_count c)

-- the length told is the row's
length-is : (c : After-length_of) → c.length_of.result ≡ length (row (goal.at.returns c).After-struct_known-1)
length-is c =
    let a = c.args in
    let z = signed_scalar (c.args.bytes.now) a.sign in
    filled_up_to (lent (goal.at.returns c).After-slice_known-2-1) _ (omega (arith, few (goal.at.returns c).After-struct_known-1)) (down_digits c.get-m.result z (one (goal.at.returns c).After-struct_known-1)) (down_top c.get-m.result z (one (goal.at.returns c).After-struct_known-1))
    (subst (λ (s : List ℕ). UpTo s c.length_of.result) (first_taken (goal.at.returns c).After-slice_known-3-1 ∙ first-is (goal.at.returns c).After-slice_known-3-1) c.length_of.ensures)

pub returns : goal.returns
returns c =
    rw (← c.get-m.ensures.number) record { answer = ap₂ of_size (length-is c) (c.write_digits-weight.ensures.weight ∙ ap weight (row_is (goal.at.returns c).After-struct_known-1)); buffer = first_filled c.args.out.now c.clear.new.buffer c.places_for-places.result c.clear.ensures (places-few (goal.at.returns c).After-slice_known-2-1) (row (goal.at.returns c).After-struct_known-1) (c.write_digits-weight.new.out) (row-short (goal.at.returns c).After-slice_known-2-1) (first-is (goal.at.returns c).After-slice_known-3-1) }

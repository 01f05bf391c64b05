-- `write_digits` meets its contract. The loop's invariant: the digits of the places left, followed by what stands in the buffer, are those
-- of all places (Turns), and the bits held are those from the highest place left down (Reading). That place gets lower at each turn, or
-- more bits are held.
use mathlib.Core.Path.{◌≡◌, refl, ap, ◌∙◌}
use Prim.Native.Nat.{ℕ, suc, ◌+◌, ◌-◌, ◌*◌, ◌/◌, ◌^◌, ◌≤◌, ◌<◌}
use native.Mathlib.Omega.{arith}
use borrow.Author.Rules.{rules}
use lib.IntN.{pos}
use lib.ListN.{length}
use Rattle.digits.specs.Integer.{signed_by}
use Rattle.digits.specs.Scalar.{Bytes, scalar, bit_length}
use Rattle.digits.specs.Scalar.Length.{length_least}
use Rattle.digits.specs.Scalar.Value.{length_bytes}
use Rattle.forms.specs.Residue.{width}
use Rattle.down.specs.declared.window.WindowDigit.{WindowDigit}
use Rattle.down.specs.Body.Window.{size_of, WindowOf}
use Rattle.down.specs.Down.{beyond}
use Rattle.down.proofs.DownLoop.{DigitTurn, skipped, digit_turn}
use Rattle.down.proofs.HeldBits.{Seen, seen, length_few, length_many, window_held}
use Rattle.down.proofs.Reading.{Reading, start_reading, space, fill_read, less_read}
use Rattle.down.proofs.Turns.{Turn, start, light, finish}
use Rattle.down.proofs.WindowSize.{width_few, chosen}
use Rattle.down.proofs.rows.write_digits.Goals.{After-slice_known-in-loop-bits-1, After-store-arg-1, After-zeros_above, At-loop-bits}
use Rattle.down.proofs.rows.write_digits.Goals as goal

-- the arguments, and what holds of the places and the weight
module _ (c : At-loop-bits) where
  abbrev u : ℕ
  u = scalar c.args.bytes.now

  abbrev m : ℕ
  m = c.args.m

  abbrev sign : ℕ
  sign = c.args.sign

  abbrev P : ℕ
  P = length c.args.out.now

  bytes : Bytes c.args.bytes.now
  bytes i = (c.type_inv.bytes i).fits

  one : 1 ≤ m
  one = c.requires.recodable.1.0

  few : m ≤ 31
  few = c.requires.recodable.1.1.0

  bounds : (2 ≤ width m) × (width m ≤ 6)
  bounds = width_few m one few

  few-places : c.loop-bits.place ≤ 1024
  few-places = omega (arith, c.loop-bits.invariant.0.size, c.requires.cleared.1, c.requires.recodable.0)

  few-digits : c.loop-bits.weight ≤ 1025
  few-digits = omega (arith, light m u sign P one c.loop-bits.invariant.0, c.requires.cleared.1, c.requires.recodable.0)

  long-enough : bit_length u + 1 ≤ P
  long-enough = omega (arith, c.requires.cleared.1, length_bytes c.args.bytes.now bytes)

pub loop-bits-init : goal.loop-bits-init
loop-bits-init c =
    let s = c.args.bytes.now in
    let P : ℕ = length c.args.out.now in
    let all : suc (8 * length s) ≡ P = omega (arith, c.requires.cleared.1) in (
      rw all (start c.args.m (scalar s) c.args.sign P c.requires.recodable.1.0 c.args.out.now c.requires.cleared.0),
      rw (c.new-bits.ensures.0, c.new-bits.ensures.1.0) (start_reading s c.args.sign c.new-bits.result.bits (λ i. (c.type_inv.bytes i).fits) c.new-bits.ensures.1.1),
    )

pub overflow_add-most : goal.overflow_add-most
overflow_add-most c =
    record { fits = omega (arith, c.zeros_above.ensures, c.requires.recodable.1.1.1, bounds (goal.at.overflow_add-most c).At-loop-bits) }

-- what the bits held tell
module _ (c : After-zeros_above) where
  abbrev place : ℕ
  place = c.loop-bits.place

  abbrev weight : ℕ
  weight = c.loop-bits.weight

  abbrev held : ℕ
  held = c.loop-bits.bits.held

  read : Reading (u (goal.at.overflow_add-most c).At-loop-bits) (length c.args.bytes.now) (c.args.sign) place c.loop-bits.bits.at held c.loop-bits.bits.bits
  read = c.loop-bits.invariant.1

  -- the 64 bits that they are the highest of, folded, and how many there are below them
  abbrev y : ℕ
  y = c.folded-x.result

  abbrev rest : ℕ
  rest = 64 - held

  abbrev x : ℕ
  x = y / 2 ^ rest

  abbrev below : ℕ
  below = c.args.below

  zeros : c.zeros_above.result + bit_length y ≡ 64
  zeros = c.zeros_above.ensures

  narrow : (below + 1 ≡ width (c.args.m)) × (below ≤ 5)
  narrow = (c.requires.recodable.1.1.1, omega (arith, c.requires.recodable.1.1.1, bounds (goal.at.overflow_add-most c).At-loop-bits))

  bits : Seen (held - 1) (u (goal.at.overflow_add-most c).At-loop-bits) place x (c.args.sign) (c.loop-bits.bits.bits / 2 ^ 63)
  bits = seen y read c.folded-x.ensures

  -- no window is in sight
  skip : 57 ≤ held → held ≤ c.zeros_above.result + below → (next : ℕ) → next ≡ suc place - 51
      → Turn (c.args.m) (u (goal.at.overflow_add-most c).At-loop-bits) (c.args.sign) (P (goal.at.overflow_add-most c).At-loop-bits) c.loop-bits.out next weight
  skip h l next e =
      let short : bit_length x ≤ 5 = length_few y rest 5 (omega (arith, zeros, narrow, read.few)) in
      skipped (one (goal.at.overflow_add-most c).At-loop-bits) c.loop-bits.invariant.0 bits.ahead (bit_length x) refl 51 next (omega arith) e

  -- a window is
  module _ (l : c.zeros_above.result + below < held) (r : WindowDigit) (made : WindowOf 63 (c.args.m) y (bit_length y) r) where
    many : width (c.args.m) ≤ bit_length x
    many = length_many y rest (width (c.args.m)) (omega (arith, bounds (goal.at.overflow_add-most c).At-loop-bits)) (omega (arith, zeros, narrow, read.few))

    digit : DigitTurn (c.args.m) (u (goal.at.overflow_add-most c).At-loop-bits) (c.args.sign) (P (goal.at.overflow_add-most c).At-loop-bits) c.loop-bits.out place weight bits.bit r
    digit =
        digit_turn (one (goal.at.overflow_add-most c).At-loop-bits) c.loop-bits.invariant.0 bits.ahead (bit_length x) refl (few (goal.at.overflow_add-most c).At-loop-bits) many (length_least x (held - 1) bits.ahead.few) r
        (window_held y rest (held - 1) (c.args.m) r (omega (arith, read.few, read.some)) (bounds (goal.at.overflow_add-most c).At-loop-bits).0 many made)

    within : r.taken < held
    within =
        let b : ℕ = bit_length y in
        let width-most = chosen (beyond (c.args.m) (pos (size_of y b (width (c.args.m))))) (width (c.args.m)) (bounds (goal.at.overflow_add-most c).At-loop-bits).0 in
        omega (arith, made.taken, width-most, zeros, narrow)

pub filled-bits-requires : goal.filled-bits-requires
filled-bits-requires c =
    let r = read (goal.at.filled-bits-requires c).After-zeros_above in
    (omega (arith, r.level, few-places (goal.at.filled-bits-requires c).At-loop-bits, c.requires.recodable.0, c.if-bits-le56.true), (c.if-bits-le56.true, space r))

pub loop-bits-preserved-then-bits-le56 : goal.loop-bits-preserved-then-bits-le56
loop-bits-preserved-then-bits-le56 c =
    (c.loop-bits.invariant.0, fill_read c.args.bytes.now (c.args.sign) c.loop-bits.bits c.filled-bits.result (bytes (goal.at.loop-bits-preserved-then-bits-le56 c).At-loop-bits) c.if-bits-le56.true c.filled-bits.ensures (read (goal.at.loop-bits-preserved-then-bits-le56 c).After-zeros_above))

pub returns-then-place-lt51 : goal.returns-then-place-lt51
returns-then-place-lt51 c =
    let old = finish (c.args.m) (u (goal.at.returns-then-place-lt51 c).At-loop-bits) (c.args.sign) (one (goal.at.returns-then-place-lt51 c).At-loop-bits) c.args.out.now refl (long-enough (goal.at.returns-then-place-lt51 c).At-loop-bits) (skip (goal.at.returns-then-place-lt51 c).After-zeros_above (omega (arith, c.if-bits-le56.false)) c.if-bits-most.true 0 (omega (arith, c.if-place-lt51.true))) in record { weight = old.0; buffer = old.1 }

pub loop-bits-preserved-then-bits-most : goal.loop-bits-preserved-then-bits-most
loop-bits-preserved-then-bits-most c = (
  skip (goal.at.loop-bits-preserved-then-bits-most c).After-zeros_above (omega (arith, c.if-bits-le56.false)) c.if-bits-most.true _ (omega (arith, c.if-place-lt51.false)),
  rw (c.less-bits.ensures.0, c.less-bits.ensures.1.0, c.less-bits.ensures.1.1) (less_read (read (goal.at.loop-bits-preserved-then-bits-most c).After-zeros_above) 51 _ (omega (arith, c.if-bits-le56.false)) (omega (arith, c.if-place-lt51.false))),
)

pub highest-requires : goal.highest-requires
highest-requires c = search rules

module _ (c : After-store-arg-1) where
  inside : c.zeros_above.result + c.args.below < c.loop-bits.bits.held
  inside = omega (arith, c.if-bits-most.false)

  abbrev r : WindowDigit
  r = c.window_of-window.result

  digit-here : DigitTurn (c.args.m) (u (goal.at.highest-requires c).At-loop-bits) (c.args.sign) (P (goal.at.highest-requires c).At-loop-bits) c.loop-bits.out (c.loop-bits.place) (c.loop-bits.weight) (bits (goal.at.highest-requires c).After-zeros_above).bit r
  digit-here = digit (goal.at.highest-requires c).After-zeros_above inside r c.window_of-window.ensures

  taken-few : r.taken < c.loop-bits.bits.held
  taken-few = within (goal.at.highest-requires c).After-zeros_above inside r c.window_of-window.ensures

pub store-requires : goal.store-requires
store-requires c = (digit-here (goal.at.store-requires c).After-store-arg-1).placed (few-places (goal.at.store-requires c).At-loop-bits)

pub overflow_add-weight : goal.overflow_add-weight
overflow_add-weight c = record { fits = omega (arith, few-digits (goal.at.overflow_add-weight c).At-loop-bits) }

module _ (c : After-slice_known-in-loop-bits-1) where
  next : (n : ℕ) → n ≡ suc (c.loop-bits.place) - (c.window_of-window.result).taken → Turn (c.args.m) (u (goal.at.overflow_add-weight c).At-loop-bits) (c.args.sign) (P (goal.at.overflow_add-weight c).At-loop-bits) c.store.new.out n (c.loop-bits.weight + 1)
  next n e =
      (digit-here (goal.at.overflow_add-weight c).After-store-arg-1).stored n c.store.new.out c.highest.result e c.store.ensures (λ d. ap (λ (k : ℕ). signed_by k d) c.highest.ensures ∙ (bits (goal.at.overflow_add-weight c).After-zeros_above).signs d)

pub returns-then-place-taken : goal.returns-then-place-taken
returns-then-place-taken c =
    let old = finish (c.args.m) (u (goal.at.returns-then-place-taken c).At-loop-bits) (c.args.sign) (one (goal.at.returns-then-place-taken c).At-loop-bits) c.args.out.now refl (long-enough (goal.at.returns-then-place-taken c).At-loop-bits) (next (goal.at.returns-then-place-taken c).After-slice_known-in-loop-bits-1 0 (omega (arith, c.if-place-taken.true))) in record { weight = old.0; buffer = old.1 }

pub loop-bits-smaller : goal.loop-bits-smaller
loop-bits-smaller c =
    omega (arith, c.less-bits-in-loop-bits.ensures.1.0, c.if-place-taken.false, (digit-here (goal.at.loop-bits-smaller c).After-store-arg-1).some, (read (goal.at.loop-bits-smaller c).After-zeros_above).few)

pub loop-bits-preserved : goal.loop-bits-preserved
loop-bits-preserved c = (
  next (goal.at.loop-bits-preserved c).After-slice_known-in-loop-bits-1 _ (omega (arith, c.if-place-taken.false)),
  rw (c.less-bits-in-loop-bits.ensures.0, c.less-bits-in-loop-bits.ensures.1.0, c.less-bits-in-loop-bits.ensures.1.1) (less_read (read (goal.at.loop-bits-preserved c).After-zeros_above) (c.window_of-window.result).taken _ (taken-few (goal.at.loop-bits-preserved c).After-store-arg-1) (omega (arith, c.if-place-taken.false))),
)

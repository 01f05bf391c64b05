-- One turn of the loop over plain values: equal bits are skipped, and a window's digit is stored.
use mathlib.Core.Path.{◌≡◌, refl, sym, ap, subst, ◌∙◌}
use mathlib.Core.List.{List, ◌++◌}
use Prim.Native.Nat.{ℕ, suc, ◌+◌, ◌*◌, ◌-◌, ◌%◌, ◌^◌, ◌≤◌, ◌<◌}
use native.Mathlib.Nat.{mul-le-mul_left}
use native.Mathlib.Omega.{arith}
use lib.IntN.{ℤ, pos, nat_abs}
use lib.ListN.{length, set, replicate}
use lib.Pow.{pow_pos, pow_mono}
use Rattle.digits.specs.Byte.{byte_of}
use Rattle.digits.specs.Integer.{signed_by}
use Rattle.digits.specs.Integer.Sign.{signed_size}
use Rattle.digits.specs.Row.Adding.{count_odd}
use Rattle.digits.specs.Scalar.{bit_length}
use Rattle.forms.specs.Residue.{width}
use Rattle.down.specs.declared.window.WindowDigit.{WindowDigit}
use Rattle.down.specs.Body.Window.{size_of, width_of, WindowOf, place_of, byte_for, Placed}
use Rattle.down.specs.Down.{worth, beyond, taken, window, places}
use Rattle.down.proofs.Laws.Down.Settled.{worth_size}
use Rattle.down.specs.Down.Unfold.{places_step}
use Rattle.down.proofs.AheadBits.{Ahead, equal, inside, worth_is, zeros_reach, taken_is}
use Rattle.down.proofs.DigitPlaces.{alone, zeros_within, window_is, run_zeros}
use Rattle.down.proofs.Turns.{Turn, skip, store, out_length}
use Rattle.down.proofs.WindowSize.{Signs, width_few, chosen}

-- a window r with the equal bits above it from place i on: its digit has a place in the buffer, and is stored
pub record DigitTurn (m u sign P : ℕ) (out : List ℕ) (i heavy t : ℕ) (r : WindowDigit) : Type 0 where
  pub some : 1 ≤ r.taken
  pub placed : i ≤ 1024 → Placed i r (length out)
  pub stored : (next : ℕ) (out' : List ℕ) (minus : ℕ) → next ≡ suc i - r.taken → out' ≡ set out (place_of i r) (byte_for r minus) → Signs sign t minus
      → Turn m u sign P out' next (heavy + 1)

-- where the digit stands in the window's places from place 0 on
here_is : (top w z : ℕ) → w ≤ suc top + z → top + 1 + z - w ≡ suc top - w + (z - (w - suc top))
here_is top w z h = omega arith

from_top : (i s w z taken : ℕ) → taken ≡ s + w → s ≤ i → i + 1 + z - taken ≡ i - s + 1 + z - w
from_top i s w z taken e h = omega arith

all_places : (n w z : ℕ) → w ≤ n + z → z < w → n ≡ n - w + (z - (w - n) + suc (w - suc z))
all_places n w z h l = omega arith

module _ {m u sign P : ℕ} (one : 1 ≤ m) {out : List ℕ} {i heavy : ℕ} (turn : Turn m u sign P out (suc i) heavy) {n x t : ℕ} (ahead : Ahead n u i x t) (b : ℕ) (is : b ≡ bit_length x) where
  -- z equal bits are skipped
  pub skipped : (z k : ℕ) → z + b ≤ n → k ≡ suc i - z → Turn m u sign P out k heavy
  skipped z k l e =
      let y : ℕ = suc i - k in
      let zeros = run_zeros m u one y i (omega arith) (λ j h. equal ahead b is j (omega arith) ∙ sym (equal ahead b is (suc j) (omega arith))) in
      skip m u sign P one turn k y (omega arith) (zeros ∙ ap (λ (j : ℕ). places m u j ++ replicate y (pos 0)) {x = suc i - y} {y = k} (omega arith))

  -- a window of at most b bits
  module _ (few : m ≤ 31) (wide : width m ≤ b) (within : b ≤ n) (r : WindowDigit) (made : WindowOf n m x b r) where
    abbrev s : ℕ
    s = n - b

    abbrev w : ℕ
    w = width_of m x b

    bounds : (2 ≤ width m) × (width m ≤ 6)
    bounds = width_few m one few

    takes : (1 ≤ w) × (w ≤ width m)
    takes = chosen (beyond m (pos (size_of x b (width m)))) (width m) bounds.0

    taken_is' : r.taken ≡ s + w
    taken_is' = omega (arith, made.taken)

    -- the last of the equal bits is not below place 0
    within_place : s ≤ i
    within_place = inside ahead b is s (omega arith) (omega (arith, bounds))

    abbrev j : ℕ
    j = i - s

    abbrev v : ℕ
    v = w - 1

    whole : suc v ≡ w
    whole = omega (arith, takes)

    as_taken : taken m u j ≡ suc v
    as_taken = taken_is ahead b is s (omega arith) (omega (arith, bounds)) m (width m) refl (omega (arith, bounds)) wide ∙ sym whole

    sized : size_of x b (suc v) ≡ 2 ^ r.zeros * r.odd
    sized = ap (size_of x b) whole ∙ made.size

    value : worth u j (suc v) ≡ signed_by t (pos (2 ^ r.zeros * r.odd))
    value = worth_is ahead b is s (omega arith) (omega (arith, bounds)) v (omega (arith, takes)) ∙ ap (λ (k : ℕ). signed_by t (pos k)) sized

    -- the digit's place is there
    above : w ≤ suc j + r.zeros
    above = omega (arith, whole, zeros_reach ahead b is s (omega arith) (omega (arith, bounds)) v (omega (arith, takes)) r.zeros r.odd sized made.odd)

    below : r.zeros < w
    below = omega (arith, takes, zeros_within u j v t r.zeros r.odd value made.odd)

    -- and its size is small
    small : (1 ≤ r.odd) × (r.odd ≤ 32)
    small = (
      omega (arith, made.odd),
      omega (
        arith,
        worth_size u j v,
        ap nat_abs value,
        signed_size t (pos (2 ^ r.zeros * r.odd)),
        mul-le-mul_left {m = 1} {n = 2 ^ r.zeros} r.odd (pow_pos r.zeros),
        pow_mono {i = v} {j = 5} (omega (arith, takes, bounds)),
      ),
    )

    abbrev d : ℤ
    d = signed_by t (pos r.odd)

    odd_size : nat_abs d % 2 ≡ 1
    odd_size = ap (λ (k : ℕ). k % 2) (signed_size t (pos r.odd)) ∙ made.odd

    -- the digits of the places that it takes
    digits : places m u (suc j) ≡ places m u (suc j - w) ++ alone (r.zeros - (w - suc j)) d (w - suc r.zeros)
    digits =
        rw (← whole)
        (subst (λ (k : ℕ). places m u (suc j) ≡ places m u (suc j - k) ++ window u j k) as_taken (places_step m u j one)
        ∙ ap (λ (ds : List ℤ). places m u (suc j - suc v) ++ ds) (window_is u j v t r.zeros r.odd value made.odd (omega (arith, above))))

    here : place_of i r ≡ suc j - w + (r.zeros - (w - suc j))
    here = from_top i s w r.zeros r.taken taken_is' within_place ∙ here_is j w r.zeros above

    pub digit_turn : DigitTurn m u sign P out i heavy t r
    digit_turn =
        record {
          some = omega (arith, taken_is', takes);
          placed = λ few_places.
              record {
                above = omega (arith, taken_is', within_place, above);
                within = omega (arith, here, above, below, within_place, turn.size, out_length m u sign P one turn);
                small = small;
                near = omega (arith, few_places, below, takes, bounds);
              };
          stored = λ next out' minus e f signs.
              subst (λ (o : List ℕ). Turn m u sign P o next (heavy + 1)) (sym f)
              (subst (λ (k : ℕ). Turn m u sign P (set out (place_of i r) (byte_for r minus)) k (heavy + 1)) {x = suc j - w} {y = next} (omega (arith, e, taken_is', within_place))
              (store m u sign P one (skipped s (suc j) (omega arith) (omega (arith, within_place))) (suc j - w) (r.zeros - (w - suc j)) d (w - suc r.zeros) (place_of i r) (byte_for r minus)
              (all_places (suc j) w r.zeros above below) digits (count_odd d odd_size) here (ap byte_of (signs (pos r.odd)))));
        }

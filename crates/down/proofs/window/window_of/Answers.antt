-- `window_of` meets its contract: the smaller width is taken where the odd part of the size is beyond m.
use mathlib.Core.Path.{◌≡◌, refl}
use Prim.Native.Nat.{ℕ, ◌+◌, ◌-◌, ◌/◌, ◌^◌, ◌≤◌, ◌<◌}
use native.Mathlib.Omega.{arith}
use Rattle.digits.specs.Scalar.{bit_length}
use Rattle.digits.specs.Scalar.Length.{length_least}
use Rattle.forms.specs.Residue.{width}
use Rattle.down.proofs.WindowSize.{width_few, half_less, half_some, window_wide, window_narrow}
use Rattle.down.proofs.window.window_of.Goals.{Start}
use Rattle.down.proofs.window.window_of.Goals as goal

module _ (c : Start) where
  abbrev x : ℕ
  x = c.args.x

  abbrev b : ℕ
  b = bit_length x

  abbrev most : ℕ
  most = c.args.most

  abbrev W : ℕ
  W = width c.args.m

  bounds : (2 ≤ W) × (W ≤ 6)
  bounds = width_few c.args.m c.requires.window.0 c.requires.window.1

  within : b ≤ 64
  within = length_least x 64 c.ranges.x.fits

  some : 1 ≤ most
  some = omega (arith, c.requires.most.1, bounds, within)

  -- w of the top bits
  few : (low w : ℕ) → low + w ≡ b → w ≤ 6 → x / 2 ^ low < 64
  few = half_less c.args.m x b most c.requires.window.0 c.requires.window.1 refl within c.requires.most.0 c.requires.most.1

  not-zero : (low w : ℕ) → low + w ≡ b → 1 ≤ w → (n : ℕ) → n ≡ (x / 2 ^ low + 1) / 2 → 0 < n
  not-zero = half_some c.args.m x b most c.requires.window.0 c.requires.window.1 refl within c.requires.most.0 c.requires.most.1

  wide_low : 63 - most + W ≡ b
  wide_low = omega (arith, c.requires.most)

  narrow-low : 64 - most + (W - 1) ≡ b
  narrow-low = omega (arith, c.requires.most, some, bounds)

pub half_of-requires : goal.half_of-requires
half_of-requires c = (omega arith, few c (63 - c.args.most) (W c) (wide_low c) (bounds c).1)

pub sized-wide-requires : goal.sized-wide-requires
sized-wide-requires c =
    not-zero (goal.at.sized-wide-requires c).Start (63 - c.args.most) (W (goal.at.sized-wide-requires c).Start) (wide_low (goal.at.sized-wide-requires c).Start) (omega (arith, bounds (goal.at.sized-wide-requires c).Start)) c.half_of.result c.half_of.ensures

pub half_of-requires-then-m-wide : goal.half_of-requires-then-m-wide
half_of-requires-then-m-wide c =
    (omega (arith, some (goal.at.half_of-requires-then-m-wide c).Start), few (goal.at.half_of-requires-then-m-wide c).Start (64 - c.args.most) (W (goal.at.half_of-requires-then-m-wide c).Start - 1) (narrow-low (goal.at.half_of-requires-then-m-wide c).Start) (omega (arith, bounds (goal.at.half_of-requires-then-m-wide c).Start)))

pub sized-requires : goal.sized-requires
sized-requires c =
    not-zero (goal.at.sized-requires c).Start (64 - c.args.most) (W (goal.at.sized-requires c).Start - 1) (narrow-low (goal.at.sized-requires c).Start) (omega (arith, bounds (goal.at.sized-requires c).Start)) c.half_of-then-m-wide.result c.half_of-then-m-wide.ensures

pub returns-then-m-wide : goal.returns-then-m-wide
returns-then-m-wide c =
    window_narrow c.args.m (c.args.x) (b (goal.at.returns-then-m-wide c).Start) (c.args.most) c.requires.window.0 c.requires.window.1 refl (within (goal.at.returns-then-m-wide c).Start) c.requires.most.0 c.requires.most.1
    c.half_of.result c.sized-wide.result c.half_of.ensures c.sized-wide.ensures
    c.if-m-wide.true c.half_of-then-m-wide.result c.sized.result c.half_of-then-m-wide.ensures c.sized.ensures

pub returns : goal.returns
returns c =
    window_wide c.args.m (c.args.x) (b (goal.at.returns c).Start) (c.args.most) c.requires.window.0 c.requires.window.1 refl (within (goal.at.returns c).Start) c.requires.most.0 c.requires.most.1
    c.half_of.result c.sized-wide.result c.half_of.ensures c.sized-wide.ensures
    (omega (arith, c.if-m-wide.false))

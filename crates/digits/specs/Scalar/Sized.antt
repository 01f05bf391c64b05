-- What question 1 gives where it is met: as many bytes as the limits allow at most, so a scalar of so many bits; and wider limits are met where
-- narrower ones are. Assumes nothing.
use Rattle.std.specs.Prelude.{◌≡◌, Bool, true, ◌&&◌, List, ℕ, ◌^◌, ◌≤◌, ◌<◌, ltb, leb, length}
use Rattle.std.proofs.Math.Bool.{and-eq-true_iff}
use Rattle.std.proofs.Common.{le_trans, lt-ltb, le-leb, ltb-true, leb-true}
use Rattle.digits.specs.Scalar.Value.{scalar_bits}
use Rattle.digits.specs.Scalar.{Bytes}
use Rattle.digits.specs.declared.limits.Limits.{Limits}
use Rattle.digits.specs.Limits.{bits}
use Rattle.digits.specs.Scalar.{scalar, sized}

pub both : (a b : Bool) → (a && b) ≡ true → (a ≡ true) × (b ≡ true)
both a b e = (and-eq-true_iff a b).0 e

module _ (limits : Limits) (s : List ℕ) where
  pub some_bytes : sized limits s ≡ true → (1 ≤ length s) × (length s ≤ limits.bytes)
  some_bytes e =
      let (a, b) = both (ltb 0 (length s)) (leb (length s) limits.bytes) e in
      (ltb-true 0 (length s) a, leb-true (length s) limits.bytes b)

  pub bytes_sized : (1 ≤ length s) × (length s ≤ limits.bytes) → sized limits s ≡ true
  bytes_sized h = rw (lt-ltb 0 (length s) h.0, le-leb (length s) limits.bytes h.1)

pub both_sized : (limits : Limits) (s t : List ℕ) → sized limits s ≡ true → sized limits t ≡ true → (sized limits s && sized limits t) ≡ true
both_sized limits s t e f = (and-eq-true_iff (sized limits s) (sized limits t)).1 (e, f)

pub bounded : (limits : Limits) (s : List ℕ) → Bytes s → sized limits s ≡ true → scalar s < 2 ^ bits limits
bounded limits s h e = scalar_bits s limits.bytes h (some_bytes limits s e).1

-- a scalar for narrower limits is one for wider ones
pub sized_wider : (narrow wide : Limits) (s : List ℕ) → narrow.bytes ≤ wide.bytes → sized narrow s ≡ true → sized wide s ≡ true
sized_wider narrow wide s h e = let (a, b) = some_bytes narrow s e in bytes_sized wide s (a, le_trans b h)

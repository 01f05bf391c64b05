-- Signed machine numbers of 16 bits: a small number fits, is read back as it was stored, and is cast to an unsigned type
-- where it is not negative.
use Rattle.std.specs.Prelude.{◌≡◌, ℕ, ◌+◌, ◌^◌, ◌<◌, T, ℤ, pos, nat_abs}
use Rattle.std.proofs.Common.{sym, subst, arith, to_z-of_z}
use Rattle.std.specs.Int.Signed.{non_neg}
use Rattle.std.specs.Int.{Width, w16}
use mir.Val.{SFits, Fits, to_z, of_z, bits}
use Rattle.digits.specs.Integer.{up, down}
use Rattle.digits.specs.Integer.Parts.{mag_size}

pub small_fits : (z : ℤ) → up z + down z < 32768 → SFits w16 z
small_fits z h = record { sfits = omega (arith, mag_size z) }

pub read_back : (z : ℤ) → up z + down z < 32768 → to_z w16 (of_z w16 z) ≡ z
read_back z h = to_z-of_z (small_fits z h)

-- a cast of the number z, which is n
pub cast_of : {w : Width} (z : ℤ) (n : ℕ) → z ≡ pos n → n < 2 ^ bits w → T (non_neg z) × Fits w (nat_abs z)
cast_of {w} z n e h = subst (λ (y : ℤ). T (non_neg y) × Fits w (nat_abs y)) (sym e) (tt, record { fits = h })

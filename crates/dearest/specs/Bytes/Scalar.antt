-- The bytes of a number are as many as asked for, and are the scalar again where it fits. Assumes nothing.
use Rattle.std.specs.Prelude.{◌≡◌, refl, List, [], ◌∷◌, ◌++◌, ℕ, zero, suc, ◌+◌, ◌*◌, ◌/◌, ◌%◌, ◌^◌, ◌<◌, length}
use Rattle.std.proofs.Common.{ap, pow-suc, arith, length-append}
use Rattle.std.proofs.lemmas.List.{reverse-append}
use Rattle.digits.specs.Scalar.{little, scalar}
use Rattle.dearest.specs.Bytes.{in_bytes}

pub bytes_length : (n c : ℕ) → length (in_bytes n c) ≡ n
unfolding in_bytes
bytes_length zero c = refl
bytes_length (suc n) c = omega (arith, bytes_length n (c / 256), length-append (in_bytes n (c / 256)) (c % 256 ∷ []))

-- the last byte counts once, and the others 256 times
scalar_last : (s : List ℕ) (b : ℕ) → scalar (s ++ (b ∷ [])) ≡ b + 256 * scalar s
unfolding scalar little
scalar_last s b = ap little (reverse-append s (b ∷ []))

pub bytes_scalar : (n c : ℕ) → c < 256 ^ n → scalar (in_bytes n c) ≡ c
unfolding in_bytes scalar little
bytes_scalar zero c h = omega arith
bytes_scalar (suc n) c h =
    omega (arith, scalar_last (in_bytes n (c / 256)) (c % 256), bytes_scalar n (c / 256) (omega (arith, pow-suc 256 n)))

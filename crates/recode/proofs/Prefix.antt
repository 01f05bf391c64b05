-- Lending the first bytes of a copied scalar: those in use have its value.
use mathlib.Core.Path.{◌≡◌, refl, sym, ap, ◌∙◌}
use mathlib.Core.List.{List, ◌++◌, reverse}
use Prim.Native.Nat.{ℕ, zero, suc, ◌+◌, ◌/◌}
use native.Mathlib.Omega.{arith}
use lib.ListN.{take, replicate}
use Rattle.digits.specs.Scalar.Value.{little_append}
use Rattle.digits.specs.Scalar.{little, scalar, bit_length}
use Rattle.recode.proofs.LowRemainder.{used_whole}

little_zeros : (n : ℕ) → little (replicate n 0) ≡ 0
unfolding little
little_zeros zero = refl
little_zeros (suc n) = omega (arith, little_zeros n)

-- the scalar of bytes copied least significant first, with zeros above them
little_copied : (s : List ℕ) (n : ℕ) → little (reverse s ++ replicate n 0) ≡ scalar s
unfolding scalar
little_copied s n = rw (little_append, little_zeros) (omega arith)

-- and of those among them that its bit length takes
pub first_bytes : (s : List ℕ) (n : ℕ) (bytes : List ℕ) (bits : ℕ) → bytes ≡ reverse s ++ replicate n 0 → bits ≡ bit_length (scalar s)
    → little (take ((bits + 7) / 8) bytes) ≡ scalar s
first_bytes s n bytes bits e b =
    let whole : little bytes ≡ scalar s = ap little e ∙ little_copied s n in
    used_whole bytes ((bits + 7) / 8) (ap (λ (k : ℕ). (k + 7) / 8) (b ∙ ap bit_length (sym whole))) ∙ whole

-- The first bytes of a scalar are what is left above the others, and four more of them count 2^32 times those before.
use mathlib.Core.Path.{◌≡◌, sym, ap, ◌∙◌}
use mathlib.Core.List.{List, [], ◌∷◌, ◌++◌, reverse, reverse-append}
use Prim.Native.Nat.{ℕ, suc, ◌+◌, ◌*◌, ◌/◌, ◌^◌, ◌<◌}
use native.Mathlib.Nat.{mul_comm}
use native.Mathlib.Omega.{arith}
use lib.Arith.{digits_div}
use lib.ListN.{length, get_or, take, drop, length-reverse, length-drop, take-append-drop}
use lib.Seq.{take-suc, get_or-drop}
use Rattle.digits.specs.Scalar.{Bytes, little, scalar}
use Rattle.digits.specs.Scalar.Value.{little_append, scalar_below}
use Rattle.down.specs.Body.Ahead.{four}

pub scalar_append : (s t : List ℕ) → scalar (s ++ t) ≡ scalar t + 256 ^ length t * scalar s
unfolding scalar
scalar_append s t =
    ap little (reverse-append s t) ∙ little_append (reverse t) (reverse s)
    ∙ ap (λ (n : ℕ). little (reverse t) + 256 ^ n * little (reverse s)) (length-reverse t)

-- the first k bytes are what is left above the other q
pub first_bytes : (s : List ℕ) (k q : ℕ) → Bytes s → k + q ≡ length s → scalar s / 256 ^ q ≡ scalar (take k s)
first_bytes s k q bytes e =
    let rest : length (drop k s) ≡ q = length-drop k s ∙ omega arith in
    let low : scalar (drop k s) < 256 ^ q = rw rest at (scalar_below (drop k s) (λ i. rw (get_or-drop k s i 0) (bytes (k + i)))) in
    let whole : scalar s ≡ scalar (take k s) * 256 ^ q + scalar (drop k s) =
    ap scalar (sym (take-append-drop k s)) ∙ scalar_append (take k s) (drop k s) ∙ rw rest (omega (arith, mul_comm (256 ^ q) (scalar (take k s))))
    in
    ap (λ (n : ℕ). n / 256 ^ q) whole ∙ digits_div (scalar (take k s)) low

-- one byte more
one_more : (s : List ℕ) (k next : ℕ) → next ≡ suc k → k < length s → scalar (take next s) ≡ get_or s k 0 + 256 * scalar (take k s)
unfolding scalar little
one_more s k next e h =
    ap (λ (n : ℕ). scalar (take n s)) e ∙ ap scalar (take-suc s k 0 h) ∙ scalar_append (take k s) (get_or s k 0 ∷ []) ∙ omega arith

-- four more
pub four_more : (s : List ℕ) (p : ℕ) → p + 3 < length s → scalar (take (p + 4) s) ≡ four s p + 2 ^ 32 * scalar (take p s)
four_more s p h =
    let more = one_more s in
    omega (arith, more p (p + 1) (omega arith) (omega arith), more (p + 1) (p + 2) (omega arith) (omega arith), more (p + 2) (p + 3) (omega arith) (omega arith), more (p + 3) (p + 4) (omega arith) (omega arith))

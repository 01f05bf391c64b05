-- A filled buffer is no shorter than it was; and lending the first places of a cleared buffer: they are cleared too, and what is filled
-- there fills the whole buffer. Assumes nothing.
use Rattle.std.specs.Prelude.{◌≡◌, List, ◌++◌, map, ℕ, ◌+◌, ◌-◌, ◌≤◌, ℤ, length, take, drop, replicate}
use Rattle.std.proofs.Common.{sym, ap, ◌∙◌, append_assoc, arith, length-append}
use Rattle.std.proofs.lemmas.List.{length-map, length-replicate, replicate-append-replicate}
use Rattle.digits.specs.Byte.{byte_of}
use Rattle.digits.specs.Buffer.Zeros.{take_zeros, drop_zeros}
use Rattle.recode.specs.Call.{filled}

pub filled_long : (ds : List ℤ) (buffer : List ℕ) (n : ℕ) → n ≤ length buffer → n ≤ length (filled ds buffer)
filled_long ds buffer n h =
    omega (arith, length-append (map byte_of ds) (replicate (length buffer - length ds) 0), length-map ds byte_of, length-replicate {A = ℕ} (length buffer - length ds) 0)

-- the first k places of a cleared buffer
module _ (out₀ out : List ℕ) (k : ℕ) (cleared : out ≡ replicate (length out₀) 0) (h : k ≤ length out₀) where
  pub first_places : take k out ≡ replicate k 0
  first_places = ap (take k) cleared ∙ take_zeros k (length out₀) h

  pub first_length : length (take k out) ≡ k
  first_length = ap length first_places ∙ length-replicate k 0

  pub first_cleared : take k out ≡ replicate (length (take k out)) 0
  first_cleared = first_places ∙ ap (λ (n : ℕ). replicate n 0) (sym first_length)

  pub first_filled : (ds : List ℤ) (first : List ℕ) → length ds ≤ k → first ≡ filled ds (take k out) → first ++ drop k out ≡ filled ds out₀
  first_filled ds first l e =
      let rest : drop k out ≡ replicate (length out₀ - k) 0 = ap (drop k) cleared ∙ drop_zeros k (length out₀) h in
      let all : k - length ds + (length out₀ - k) ≡ length out₀ - length ds = omega arith in
      rw (e, first_length, rest, append_assoc, replicate-append-replicate, all)

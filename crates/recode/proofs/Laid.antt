-- Digits laid into a buffer of zeros from place 0 on: none, then zeros or one digit at a time.
use mathlib.Core.Path.{◌≡◌, refl, sym, ap, ap₂, ◌∙◌}
use mathlib.Core.List.{List, [], ◌∷◌, ◌++◌, map, map-append, append_assoc}
use Prim.Native.Nat.{ℕ, zero, suc, ◌+◌, ◌-◌, ◌≤◌, ◌<◌}
use native.Mathlib.Omega.{arith}
use lib.IntN.{ℤ, pos}
use lib.ListN.{length, set, replicate, length-append, length-map, length-replicate, replicate-append-replicate}
use lib.Seq.{set_at}
use Rattle.digits.specs.Byte.{byte_of}

pub record Laid (P : ℕ) (ds : List ℤ) (out : List ℕ) (place : ℕ) : Type 0 where
  pub places : length ds ≡ place
  pub buffer : out ≡ map byte_of ds ++ replicate (P - place) 0

pub laid_none : (P : ℕ) (out : List ℕ) → out ≡ replicate P 0 → Laid P [] out 0
laid_none P out e = let all : P ≡ P - 0 = omega arith in record { places = refl; buffer = e ∙ ap (λ (n : ℕ). replicate n 0) all }

zeros : (z : ℕ) → map byte_of (replicate z (pos 0)) ≡ replicate z 0
unfolding byte_of
zeros zero = refl
zeros (suc z) = ap (λ (l : List ℕ). 0 ∷ l) (zeros z)

pub laid_zeros : (P : ℕ) (ds : List ℤ) (out : List ℕ) (place z : ℕ) → place + z ≤ P → Laid P ds out place → Laid P (ds ++ replicate z (pos 0)) out (place + z)
laid_zeros P ds out place z h l =
    let split : z + (P - (place + z)) ≡ P - place = omega arith in
    record {
      places = length-append ds (replicate z (pos 0)) ∙ ap₂ (λ (a b : ℕ). a + b) l.places (length-replicate z (pos 0));
      buffer =
          l.buffer
          ∙ sym (ap (λ (k : List ℕ). k ++ replicate (P - (place + z)) 0) (map-append byte_of ds (replicate z (pos 0)) ∙ ap (λ (k : List ℕ). map byte_of ds ++ k) (zeros z))
          ∙ append_assoc (map byte_of ds) (replicate z 0) (replicate (P - (place + z)) 0)
          ∙ ap (λ (k : List ℕ). map byte_of ds ++ k) (replicate-append-replicate z (P - (place + z)) 0 ∙ ap (λ (n : ℕ). replicate n 0) split));
    }

pub laid_digit : (P : ℕ) (ds : List ℤ) (out : List ℕ) (place b : ℕ) (d : ℤ) → place < P → b ≡ byte_of d → Laid P ds out place → Laid P (ds ++ (d ∷ [])) (set out place b) (place + 1)
laid_digit P ds out place b d h e l =
    let more : P - place ≡ suc (P - (place + 1)) = omega arith in
    record {
      places = length-append ds (d ∷ []) ∙ ap (λ (n : ℕ). n + 1) l.places;
      buffer =
          ap₂ (λ (k : List ℕ) (x : ℕ). set k place x) (l.buffer ∙ ap (λ (n : ℕ). map byte_of ds ++ replicate n 0) more) e
          ∙ set_at (map byte_of ds) 0 (replicate (P - (place + 1)) 0) (byte_of d) place (length-map ds byte_of ∙ l.places)
          ∙ sym (ap (λ (k : List ℕ). k ++ replicate (P - (place + 1)) 0) (map-append byte_of ds (d ∷ []))
          ∙ append_assoc (map byte_of ds) (byte_of d ∷ []) (replicate (P - (place + 1)) 0));
    }

-- The first places of a cleared buffer, and the others; and a place of a buffer with zeros behind what it holds. Assumes nothing.
use Rattle.std.specs.Prelude.{◌≡◌, refl, List, [], ◌∷◌, ◌++◌, ℕ, zero, suc, ◌-◌, ◌≤◌, get_or, take, drop, replicate}
use Rattle.std.proofs.Common.{ap, ◌∙◌, le_of_suc-le-suc, arith}

pub take_zeros : (k n : ℕ) → k ≤ n → take {A = ℕ} k (replicate n 0) ≡ replicate k 0
take_zeros zero n h = refl
take_zeros (suc k) zero h = absurd (omega arith)
take_zeros (suc k) (suc n) h = ap (λ (l : List ℕ). 0 ∷ l) (take_zeros k n (le_of_suc-le-suc h))

pub drop_zeros : (k n : ℕ) → k ≤ n → drop {A = ℕ} k (replicate n 0) ≡ replicate (n - k) 0
drop_zeros zero n h = let e : n ≡ n - 0 = omega arith in ap (λ (i : ℕ). replicate i 0) e
drop_zeros (suc k) zero h = absurd (omega arith)
drop_zeros (suc k) (suc n) h =
    let e : n - k ≡ suc n - suc k = omega arith in
    drop_zeros k n (le_of_suc-le-suc h) ∙ ap (λ (i : ℕ). replicate i 0) e

pub zeros_at : (n i : ℕ) → get_or {A = ℕ} (replicate n 0) i 0 ≡ 0
zeros_at zero i = refl
zeros_at (suc n) zero = refl
zeros_at (suc n) (suc i) = zeros_at n i

pub padded_at : (bytes : List ℕ) (n i : ℕ) → get_or (bytes ++ replicate n 0) i 0 ≡ get_or bytes i 0
padded_at [] n i = zeros_at n i
padded_at (b ∷ bytes) n zero = refl
padded_at (b ∷ bytes) n (suc i) = padded_at bytes n i

-- A number is its trailing zeros' power of two times an odd number. From how the machine counts the zeros.
use Rattle.std.specs.Prelude.{◌≡◌, refl, ℕ, zero, suc, ◌*◌, ◌/◌, ◌%◌, ◌^◌, ◌<◌}
use Rattle.std.proofs.Common.{pow-suc, arith}
use Rattle.std.specs.Int.Count.{count_trailing_zeros, under}

-- one zero more
doubled : (n t q : ℕ) → n % 2 ≡ 0 → n / 2 ≡ 2 ^ t * q → n ≡ 2 ^ suc t * q
doubled n t q e h = rw pow-suc (omega arith)

pub odd_part : (k n : ℕ) → 0 < n → n < 2 ^ k → (q : ℕ) × (n ≡ 2 ^ count_trailing_zeros k n * q) × (q % 2 ≡ 1)
unfolding count_trailing_zeros
odd_part zero n p h = absurd (omega arith)
odd_part (suc k) n p h = go (n % 2) refl (λ q. odd_part k (n / 2) q (omega arith))
  where
    go : (r : ℕ) → n % 2 ≡ r → (0 < n / 2 → (q : ℕ) × (n / 2 ≡ 2 ^ count_trailing_zeros k (n / 2) * q) × (q % 2 ≡ 1))
        → (q : ℕ) × (n ≡ 2 ^ under r (count_trailing_zeros k (n / 2)) * q) × (q % 2 ≡ 1)
    go zero e rest = let t = rest (omega arith) in (t.0, doubled n (count_trailing_zeros k (n / 2)) t.0 e t.1, t.2)
    go (suc r) e rest = (n, omega arith, omega arith)

-- The bytes of pairs of bits 10, and of the number that is one more, as they are laid: zeros, a byte of one to three pairs, bytes of four.
-- From the bytes of any number.
use mathlib.Core.Path.{◌≡◌, refl, sym, ap, ap₂, ◌∙◌}
use mathlib.Core.List.{List, [], ◌∷◌, ◌++◌, append_assoc, append-nil}
use Prim.Native.Nat.{ℕ, zero, suc, ◌+◌, ◌*◌, ◌-◌, ◌/◌, ◌%◌, ◌≤◌, ◌<◌}
use native.Mathlib.Omega.{arith}
use lib.ListN.{length, get_or, set, take, replicate, length-replicate, replicate-append-replicate}
use lib.Seq.{append_snoc, set_at, get_or_at}
use Rattle.digits.specs.Buffer.Zeros.{take_zeros}
use Rattle.dearest.specs.Body.{pairs}
use Rattle.dearest.specs.Bytes.{in_bytes}
use Rattle.dearest.specs.Bytes.Scalar.{bytes_length}

-- the number from its last byte
last_byte : (n c q b : ℕ) → c ≡ 256 * q + b → b < 256 → in_bytes (suc n) c ≡ in_bytes n q ++ (b ∷ [])
unfolding in_bytes
last_byte n c q b e h =
    let quotient : c / 256 ≡ q = omega arith in
    let remainder : c % 256 ≡ b = omega arith in
    ap₂ (λ (x y : ℕ). in_bytes n x ++ (y ∷ [])) quotient remainder

-- one more byte behind equal ones
one_more : (n b : ℕ) → replicate n b ++ (b ∷ []) ≡ replicate (suc n) b
one_more n b = let e : n + 1 ≡ suc n = omega arith in rw e at (replicate-append-replicate n 1 b)

zeros : (n : ℕ) → in_bytes n 0 ≡ replicate n 0
unfolding in_bytes
zeros zero = refl
zeros (suc n) = ap (λ (l : List ℕ). l ++ (0 ∷ [])) (zeros n) ∙ one_more n 0

-- four pairs more are a byte more
four_more : (n : ℕ) → pairs (suc (suc (suc (suc n)))) ≡ 256 * pairs n + 170
unfolding pairs
four_more n = omega arith

whole_bytes : (k f r : ℕ) → in_bytes (k + f) (pairs (4 * f + r)) ≡ in_bytes k (pairs r) ++ replicate f 170
whole_bytes k zero r =
    let none : k + 0 ≡ k = omega arith in
    let same : 4 * 0 + r ≡ r = omega arith in rw (none, same) (sym (append-nil (in_bytes k (pairs r))))
whole_bytes k (suc f) r =
    let length_is : k + suc f ≡ suc (k + f) = omega arith in
    let pairs_are : 4 * suc f + r ≡ suc (suc (suc (suc (4 * f + r)))) = omega arith in
    ap₂ (λ (n p : ℕ). in_bytes n (pairs p)) length_is pairs_are
    ∙ last_byte (k + f) (pairs (suc (suc (suc (suc (4 * f + r)))))) (pairs (4 * f + r)) 170 (four_more (4 * f + r)) (omega arith)
    ∙ ap (λ (l : List ℕ). l ++ (170 ∷ [])) (whole_bytes k f r)
    ∙ append_assoc (in_bytes k (pairs r)) (replicate f 170) (170 ∷ [])
    ∙ ap (λ (l : List ℕ). in_bytes k (pairs r) ++ l) (one_more f 170)

-- up to three pairs fit a byte
few : (r : ℕ) → r < 4 → pairs r < 256
unfolding pairs
few zero h = omega arith
few (suc zero) h = omega arith
few (suc (suc zero)) h = omega arith
few (suc (suc (suc zero))) h = omega arith
few (suc (suc (suc (suc r)))) h = absurd (omega arith)

-- zeros, and bytes of four pairs
abbrev pub laid : ℕ → ℕ → List ℕ
laid k f = replicate k 0 ++ replicate f 170

laid_whole : (k f : ℕ) → laid k f ≡ in_bytes (k + f) (pairs (4 * f + 0))
unfolding pairs
laid_whole k f = sym (whole_bytes k f 0 ∙ ap (λ (l : List ℕ). l ++ replicate f 170) (zeros k))

-- a byte of fewer in the last place of the zeros
laid_part : (k f r : ℕ) → r < 4 → set (laid (suc k) f) k (pairs r) ≡ in_bytes (suc k + f) (pairs (4 * f + r))
laid_part k f r h =
    ap (λ (l : List ℕ). set (l ++ replicate f 170) k (pairs r)) (sym (one_more k 0))
    ∙ ap (λ (l : List ℕ). set l k (pairs r)) (append_snoc (replicate k 0) 0 (replicate f 170))
    ∙ set_at (replicate k 0) 0 (replicate f 170) (pairs r) k (length-replicate k 0)
    ∙ sym (append_snoc (replicate k 0) (pairs r) (replicate f 170))
    ∙ ap (λ (l : List ℕ). (l ++ (pairs r ∷ [])) ++ replicate f 170) (sym (zeros k))
    ∙ ap (λ (l : List ℕ). l ++ replicate f 170) (sym (last_byte k (pairs r) 0 (pairs r) (omega arith) (few r h)))
    ∙ sym (whole_bytes (suc k) f r)

-- n pairs, in bytes that were cleared and have bytes of four pairs from the place on where these begin
module _ (n long : ℕ) (fits : n ≤ 4 * long) where
  abbrev pub first : ℕ
  first = long - n / 4

  pub cleared : (clear out : List ℕ) → clear ≡ replicate long 0 → out ≡ take first clear ++ replicate (length clear - first) 170 → out ≡ laid first (n / 4)
  cleared clear out e f =
      let many : length clear ≡ long = ap length e ∙ length-replicate long 0 in
      let rest : length clear - first ≡ n / 4 = omega arith in
      f ∙ ap₂ ◌++◌ (ap (take first) e ∙ take_zeros first long (omega arith)) (ap (λ (k : ℕ). replicate k 170) rest)

  pub no_part : (out : List ℕ) → n % 4 ≡ 0 → out ≡ laid first (n / 4) → out ≡ in_bytes long (pairs n)
  no_part out none e =
      let all : 4 * (n / 4) + 0 ≡ n = omega arith in
      let many : first + n / 4 ≡ long = omega arith in
      e ∙ laid_whole first (n / 4) ∙ ap₂ (λ (k p : ℕ). in_bytes k (pairs p)) many all

  pub one_part : (out : List ℕ) (b : ℕ) → 0 < n % 4 → out ≡ laid first (n / 4) → b ≡ pairs (n % 4) → set out (first - 1) b ≡ in_bytes long (pairs n)
  one_part out b some e f =
      let all : 4 * (n / 4) + n % 4 ≡ n = omega arith in
      let many : suc (first - 1) + n / 4 ≡ long = omega arith in
      let above : first ≡ suc (first - 1) = omega arith in
      ap₂ (λ (l : List ℕ) (x : ℕ). set l (first - 1) x) (e ∙ ap (λ (k : ℕ). laid k (n / 4)) above) f
      ∙ laid_part (first - 1) (n / 4) (n % 4) (omega arith)
      ∙ ap₂ (λ (k p : ℕ). in_bytes k (pairs p)) many all

-- ── one more ────────────────────────────────────────────────────────────────────────────────

-- pairs are even, so one more changes the last byte alone
pairs_even : (n : ℕ) → pairs n % 2 ≡ 0
unfolding pairs
pairs_even zero = refl
pairs_even (suc n) = omega arith

last_low : (n : ℕ) → pairs n % 256 + 1 < 256
last_low n = omega (arith, pairs_even n)

module _ (n long : ℕ) (out : List ℕ) (some : 0 < long) (is : out ≡ in_bytes long (pairs n)) where
  -- the last place
  abbrev last : ℕ
  last = length out - 1

  last_is : out ≡ in_bytes last (pairs n / 256) ++ (pairs n % 256 ∷ [])
  unfolding in_bytes
  last_is =
      let many : long ≡ suc last = omega (arith, ap length is, bytes_length long (pairs n)) in
      is ∙ ap (λ (k : ℕ). in_bytes k (pairs n)) many

  byte_is : get_or out last 0 ≡ pairs n % 256
  byte_is = ap (λ (l : List ℕ). get_or l last 0) last_is ∙ get_or_at (in_bytes last (pairs n / 256)) (pairs n % 256) [] 0 last (bytes_length last (pairs n / 256))

  pub raised_fits : get_or out last 0 + 1 < 256
  raised_fits = omega (arith, byte_is, last_low n)

  pub raised : set out last (get_or out last 0 + 1) ≡ in_bytes long (suc (pairs n))
  raised =
      let many : suc last ≡ long = omega (arith, ap length is, bytes_length long (pairs n)) in
      ap₂ (λ (l : List ℕ) (b : ℕ). set l last (b + 1)) last_is byte_is
      ∙ set_at (in_bytes last (pairs n / 256)) (pairs n % 256) [] (pairs n % 256 + 1) last (bytes_length last (pairs n / 256))
      ∙ sym (last_byte last (suc (pairs n)) (pairs n / 256) (pairs n % 256 + 1) (omega arith) (last_low n))
      ∙ ap (λ (k : ℕ). in_bytes k (suc (pairs n))) many

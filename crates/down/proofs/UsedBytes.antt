-- The bytes of a scalar from the first one that is not 0 on have its value; and the places in use of the buffer that a row fills are the row's.
use mathlib.Core.Path.{◌≡◌, refl, sym, ap, ◌∙◌}
use mathlib.Core.Logic.{◌≢◌}
use mathlib.Core.List.{List, map, ◌++◌}
use Prim.Native.Nat.{ℕ, zero, suc, ◌+◌, ◌*◌, ◌-◌, ◌^◌, ◌≤◌, ◌<◌}
use native.Mathlib.Nat.{div-eq_of_lt, lt_of_lt_of_le, mul-zero}
use native.Mathlib.Omega.{arith}
use lib.IntN.{ℤ, pos, nat_abs}
use lib.ListN.{length, get_or, take, drop, replicate, length-drop, take-append-drop, get_or-eq_default, get_or-map}
use lib.Pow.{pow_mono}
use lib.Seq.{take_all}
use Rattle.digits.specs.Buffer.Zeros.{padded_at}
use Rattle.digits.specs.Byte.{byte_of, signed}
use Rattle.digits.proofs.Laws.Byte.Signed.{signed_byte}
use Rattle.digits.specs.Row.{none, odd, Over, empty, more}
use Rattle.digits.specs.Scalar.{Bytes, scalar, bit_length, BitsOf}
use Rattle.digits.specs.Scalar.Length.{below_length}
use Rattle.digits.specs.Scalar.Value.{bytes_power, length_bytes}
use Rattle.recode.specs.Call.{filled}
use Rattle.down.specs.Body.Length.{UpTo}
use Rattle.down.proofs.FourBytes.{scalar_append, first_bytes}

-- ── the bytes in use ────────────────────────────────────────────────────────────────────────

-- the bytes from place k on
abbrev pub bytes_from : List ℕ → ℕ → List ℕ
bytes_from s k = take (length s - k) (drop k s)

bytes_from_lem : (s : List ℕ) (k : ℕ) → bytes_from s k ≡ drop k s
bytes_from_lem s k = take_all (length s - k) (drop k s) (omega (arith, length-drop k s))

-- they have the scalar's value if it is below their power
last_bytes : (s : List ℕ) (k used : ℕ) → Bytes s → k + used ≡ length s → scalar s < 256 ^ used → scalar (drop k s) ≡ scalar s
last_bytes s k used bytes e l =
    let above : scalar (take k s) ≡ 0 = sym (first_bytes s k used bytes e) ∙ div-eq_of_lt l in
    let parts : scalar s ≡ scalar (drop k s) + 256 ^ length (drop k s) * scalar (take k s) = ap scalar (sym (take-append-drop k s)) ∙ scalar_append (take k s) (drop k s) in
    omega (arith, parts, ap (λ (n : ℕ). 256 ^ length (drop k s) * n) above, mul-zero (256 ^ length (drop k s)))

-- a number is below the power of the bytes up to its top one
used_below : {n below top : ℕ} → BitsOf n below top → n < 256 ^ (below + 1)
used_below {n} {below} {top} b =
    let few : bit_length n ≤ 8 * (below + 1) = omega arith in
    rw bytes_power (lt_of_lt_of_le (below_length n) (pow_mono few))

-- a scalar of one byte or more has them all
pub used_most : (s : List ℕ) {below top : ℕ} → Bytes s → 1 ≤ length s → BitsOf (scalar s) below top → below + 1 ≤ length s
used_most s {top = zero} bytes some b = omega (arith, b.none refl)
used_most s {top = suc t} bytes some b = omega (arith, b.all, length_bytes s bytes)

-- so the last bytes, as many of them, have its value
module _ (s : List ℕ) {below top : ℕ} (bytes : Bytes s) (some : 1 ≤ length s) (bits : BitsOf (scalar s) below top) where
  pub used_length : length (bytes_from s (length s - (below + 1))) ≡ below + 1
  used_length =
      let k : ℕ = length s - (below + 1) in
      omega (arith, ap length (bytes_from_lem s k), length-drop k s, used_most s bytes some bits)

  pub used_value : scalar (bytes_from s (length s - (below + 1))) ≡ scalar s
  used_value =
      let k : ℕ = length s - (below + 1) in
      ap scalar (bytes_from_lem s k) ∙ last_bytes s k (below + 1) bytes (omega (arith, used_most s bytes some bits)) (used_below bits)

-- ── the places in use ───────────────────────────────────────────────────────────────────────

-- the byte of a small digit is 0 for 0 only
byte_zero : (d : ℤ) → nat_abs d < 128 → byte_of d ≡ 0 → d ≡ pos 0
byte_zero d h e = sym (signed_byte d h) ∙ ap signed e

digit_zero : {m : ℕ} {ds : List ℤ} → m < 128 → Over m ds → (i : ℕ) → byte_of (get_or ds i (pos 0)) ≡ 0 → get_or ds i (pos 0) ≡ pos 0
digit_zero h empty i e = refl
digit_zero h (more none o) zero e = refl
digit_zero h (more {d = d} (odd p l) o) zero e = byte_zero d (omega arith) e
digit_zero h (more d o) (suc i) e = digit_zero h o i e

-- the byte at a place of a buffer filled with a row
byte_at : (ds : List ℤ) (k i : ℕ) → get_or (map byte_of ds ++ replicate k 0) i 0 ≡ byte_of (get_or ds i (pos 0))
unfolding byte_of
byte_at ds k i = padded_at (map byte_of ds) k i ∙ get_or-map byte_of ds i (pos 0)

-- above the row it is 0
above_row : (ds : List ℤ) (k i : ℕ) → length ds ≤ i → get_or (map byte_of ds ++ replicate k 0) i 0 ≡ 0
unfolding byte_of
above_row ds k i l = byte_at ds k i ∙ ap byte_of (get_or-eq_default ds (pos 0) l)

-- as many places are in use as the row has, if its top digit is not 0
pub filled_up_to : {m : ℕ} {ds : List ℤ} (buffer : List ℕ) (n : ℕ) → m < 128 → Over m ds → ((i : ℕ) → length ds ≡ suc i → get_or ds i (pos 0) ≢ pos 0)
    → UpTo (filled ds buffer) n → n ≡ length ds
filled_up_to {m} {ds} buffer n h o top up =
    let k : ℕ = length buffer - length ds in
    let i : ℕ = length ds - 1 in
    let least : ¬ (n < length ds) = λ l. top i (omega arith) (digit_zero h o i (sym (byte_at ds k i) ∙ up.none i (omega arith))) in
    let most : ¬ (length ds < n) = λ l. up.some (omega arith) (above_row ds k (n - 1) (omega arith)) in
    omega arith

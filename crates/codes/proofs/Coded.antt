-- Codes laid into a buffer of zeros from place 0 on: none, then one at a time. And the bytes of a joint form's row give its codes, by the
-- law that its digits do.
use mathlib.Core.Path.{◌≡◌, refl, sym, ap, ap₂, ◌∙◌}
use mathlib.Core.Bool.{Bool, true, false}
use mathlib.Core.List.{List, [], ◌∷◌, ◌++◌, map}
use Prim.Native.Nat.{ℕ, zero, suc, ◌+◌, ◌-◌, ◌≤◌, ◌<◌}
use native.Mathlib.Numerals.{add-one}
use native.Mathlib.Omega.{arith}
use borrow.Author.Tests.{ltb-true, ltb-false}
use lib.Dec.{ltb}
use lib.IntN.{ℤ, pos, nat_abs}
use lib.ListN.{length, get_or, set, replicate, length-append, length-replicate, get_or-map, get_or-eq_default}
use lib.Seq.{append_snoc, set_at, ext_get_or}
use Rattle.digits.specs.Buffer.Zeros.{padded_at}
use Rattle.digits.specs.Byte.{byte_of}
use Rattle.digits.specs.Scalar.{signed_scalar}
use Rattle.digits.specs.Column.Length.{row_length}
use Rattle.digits.specs.Two.{Two, other, two}
use Rattle.forms.specs.Codes.{digits, remainder_at, code_at, below, codes}
use Rattle.forms.proofs.Laws.Codes.Listed.{below_length, below_at, code_at_lem, codes_length}
use Rattle.forms.specs.Codes.Next.{by_next}
use Rattle.forms.proofs.Laws.Codes.Next.{codes_next}
use Rattle.forms.proofs.Laws.Codes.Place.{digit_at_lem}
use Rattle.forms.specs.Joint.{joint}
use Rattle.forms.proofs.Laws.Joint.Digit.{digit_fits}
use Rattle.forms.specs.Test.{equal, every_digit}
use Rattle.codes.specs.Body.{byte_code, byte_codes}
use Rattle.recode.specs.Call.{filled}
use Rattle.recode.specs.Call.Joint.{digits_of}
use Rattle.codes.specs.Call.{codes_of, coded}

pub coded_none : (digits out : List ℕ) (n : ℕ) → out ≡ replicate n 0 → out ≡ coded (byte_codes digits 0) out
unfolding byte_codes below
coded_none digits out n e =
    let all : n ≡ length out - 0 = omega (arith, ap length e, length-replicate {A = ℕ} n 0) in e ∙ ap (λ (m : ℕ). replicate m 0) all

-- of a buffer only its length counts
pub coded_same : (codes a b : List ℕ) → length a ≡ length b → coded codes a ≡ coded codes b
coded_same codes a b e = ap (λ (n : ℕ). codes ++ replicate (n - length codes) 0) e

below_more : (f : ℕ → ℕ) (n : ℕ) → below f (suc n) ≡ below f n ++ (f n ∷ [])
unfolding below
below_more f zero = refl
below_more f (suc n) = ap (λ (l : List ℕ). f 0 ∷ l) (below_more (λ i. f (suc i)) n)

codes_long : (digits : List ℕ) (i : ℕ) → length (byte_codes digits i) ≡ i
unfolding byte_codes
codes_long digits i = below_length (λ i. byte_code (get_or digits i 0) (get_or digits (suc i) 0)) i

codes_more : (digits : List ℕ) (i : ℕ) → byte_codes digits (i + 1) ≡ byte_codes digits i ++ (byte_code (get_or digits i 0) (get_or digits (i + 1) 0) ∷ [])
unfolding byte_codes
codes_more digits i = rw add-one (below_more (λ i. byte_code (get_or digits i 0) (get_or digits (suc i) 0)) i)

long : (codes buffer : List ℕ) → length codes ≤ length buffer → length (coded codes buffer) ≡ length buffer
long codes buffer h = simp (length-append, length-replicate) (omega arith)

module _ (digits buffer : List ℕ) (i : ℕ) where
  pub coded_length : i ≤ length buffer → length (coded (byte_codes digits i) buffer) ≡ length buffer
  coded_length h = long (byte_codes digits i) buffer (omega (arith, codes_long digits i))

  -- a code more
  pub coded_more : (out : List ℕ) (code : ℕ) → i < length buffer → out ≡ coded (byte_codes digits i) buffer
      → code ≡ byte_code (get_or digits i 0) (get_or digits (i + 1) 0) → set out i code ≡ coded (byte_codes digits (i + 1)) buffer
  coded_more out code h f e =
      let tail : List ℕ = replicate (length buffer - length (byte_codes digits (i + 1))) 0 in
      let more : length buffer - length (byte_codes digits i) ≡ suc (length buffer - length (byte_codes digits (i + 1))) =
      omega (arith, codes_long digits i, codes_long digits (i + 1))
      in
      ap₂ (λ (l : List ℕ) (b : ℕ). set l i b) (f ∙ ap (λ (n : ℕ). byte_codes digits i ++ replicate n 0) more) e
      ∙ set_at (byte_codes digits i) 0 tail (byte_code (get_or digits i 0) (get_or digits (i + 1) 0)) i (codes_long digits i)
      ∙ sym (append_snoc (byte_codes digits i) (byte_code (get_or digits i 0) (get_or digits (i + 1) 0)) tail)
      ∙ ap (λ (l : List ℕ). l ++ tail) (sym (codes_more digits i))

-- ── the codes of a joint form ───────────────────────────────────────────────────────────────

-- the bytes of two digits −1, 0 or 1 give the code that the digits give
small : (d : ℤ) → nat_abs d ≤ 1 → (e : ℤ) → nat_abs e ≤ 1 → byte_code (byte_of d) (byte_of e) ≡ by_next d e
unfolding byte_of
small = (every_digit (λ d. every_digit (λ e. equal (byte_code (byte_of d) (byte_of e)) (by_next d e)))).tells tt

filled_at : (ds : List ℤ) (buffer : List ℕ) (i : ℕ) → get_or (filled ds buffer) i 0 ≡ byte_of (get_or ds i (pos 0))
unfolding byte_of
filled_at ds buffer i = padded_at (map byte_of ds) (length buffer - length ds) i ∙ get_or-map byte_of ds i (pos 0)

-- above the row there is a 0
above : (ds : List ℤ) (buffer : List ℕ) (n : ℕ) → length ds ≤ n → get_or (filled ds buffer) n 0 ≡ 0
unfolding byte_of
above ds buffer n h = filled_at ds buffer n ∙ ap byte_of (get_or-eq_default ds (pos 0) h)

-- the bytes of a row of a joint form, with zeros above it, give its codes
module _ (k l : ℤ) (r : Two) (buffer : List ℕ) (places : ℕ) (few : length (joint k l) ≤ places) where
  tiny : (i : ℕ) → nat_abs (get_or (digits k l r) i (pos 0)) ≤ 1
  tiny i = rw (digit_at_lem k l i r) (digit_fits (remainder_at k l r i) (remainder_at k l (other r) i)).0

  byte_code_lem : (i : ℕ) → byte_code (get_or (filled (digits k l r) buffer) i 0) (get_or (filled (digits k l r) buffer) (suc i) 0) ≡ code_at k l r i
  byte_code_lem i =
      ap₂ byte_code (filled_at (digits k l r) buffer i) (filled_at (digits k l r) buffer (suc i))
      ∙ small (get_or (digits k l r) i (pos 0)) (tiny i) (get_or (digits k l r) (suc i) (pos 0)) (tiny (suc i))
      ∙ sym (codes_next k l r i)

  byte_codes_lem : (i : ℕ) → get_or (byte_codes (filled (digits k l r) buffer) places) i 0 ≡ get_or (codes k l r) i 0
  unfolding byte_codes
  byte_codes_lem i = go (ltb i places) refl
    where
      row : List ℕ
      row = filled (digits k l r) buffer

      go : (b : Bool) → ltb i places ≡ b → get_or (byte_codes row places) i 0 ≡ get_or (codes k l r) i 0
      go true e = below_at (λ i. byte_code (get_or row i 0) (get_or row (suc i) 0)) places i (ltb-true i places e) ∙ byte_code_lem i ∙ sym (code_at_lem k l r i)
      go false e =
          let high : places ≤ i = ltb-false i places e in
          get_or-eq_default (byte_codes row places) 0 (omega (arith, codes_long row places))
          ∙ sym (get_or-eq_default (codes k l r) 0 (omega (arith, codes_length k l r)))

  coded_joint : (out : List ℕ) → places ≤ length out → coded (byte_codes (filled (digits k l r) buffer) places) out ≡ coded (codes k l r) out
  coded_joint out h =
      let row : List ℕ = filled (digits k l r) buffer in
      ext_get_or 0 (coded (byte_codes row places) out) (coded (codes k l r) out)
      (coded_length row out places h ∙ sym (long (codes k l r) out (omega (arith, codes_length k l r))))
      (λ i _.
      padded_at (byte_codes row places) (length out - length (byte_codes row places)) i
      ∙ byte_codes_lem i
      ∙ sym (padded_at (codes k l r) (length out - length (codes k l r)) i))

-- what `write_codes` asks of a row that a joint call left, and what it then leaves
module _ (s : List ℕ) (s_sign : ℕ) (t : List ℕ) (t_sign : ℕ) (r : Two) (places : ℕ) (buffer row out : List ℕ)
    (few : length (joint (signed_scalar s s_sign) (signed_scalar t t_sign)) ≤ places) (written : row ≡ filled (digits_of r s s_sign t t_sign) buffer) (room : places ≤ length out) where
  pub asks : places ≤ length row → (places ≤ length row) × ((places ≤ length out) × (get_or row places 0 ≡ 0))
  asks h =
      (h, (room, rw written (above (digits_of r s s_sign t t_sign) buffer places (omega (arith, few, row_length two r (joint (signed_scalar s s_sign) (signed_scalar t t_sign)))))))

  pub leaves : (out' : List ℕ) → out' ≡ coded (byte_codes row places) out → out' ≡ coded (codes_of r s s_sign t t_sign) out
  leaves out' e =
      e ∙ ap (λ (b : List ℕ). coded (byte_codes b places) out) written ∙ coded_joint (signed_scalar s s_sign) (signed_scalar t t_sign) r buffer places few out room

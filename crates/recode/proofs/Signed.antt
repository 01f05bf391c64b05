-- A row of bytes that is given a sign, digit by digit; and a row or a joint form of the bytes' numbers that is given its sign is that of the
-- numbers with their signs. From the laws of negated forms.
use mathlib.Core.Path.{◌≡◌, refl, sym, ap, ap₂, ◌∙◌}
use mathlib.Core.Logic.{◌≢◌}
use mathlib.Core.List.{List, [], ◌∷◌, ◌++◌, map}
use Prim.Native.Nat.{ℕ, zero, suc, ◌-◌, ◌≤◌}
use native.Mathlib.Omega.{arith}
use lib.IntN.{ℤ, pos, neg_ℤ}
use lib.ListN.{length, take, drop, replicate, length-map, length-append}
use lib.Seq.{take_at, drop_at}
use Rattle.digits.specs.Byte.{byte_of, turned}
use Rattle.digits.proofs.Laws.Byte.Signed.{byte_negated}
use Rattle.digits.specs.Column.Length.{row_length}
use Rattle.digits.specs.Integer.{signed_by}
use Rattle.digits.specs.Row.Sign.{plus_row, weight_signed}
use Rattle.digits.specs.Scalar.{scalar, signed_scalar}
use Rattle.digits.specs.Two.{Two, of, two}
use Rattle.digits.specs.Column as Columns
use Rattle.forms.specs.Joint.{joint}
use Rattle.forms.proofs.Laws.Joint.Negated.{joint_negates, joint_signed_size}
use Rattle.forms.specs.Row.{row}
use Rattle.forms.proofs.Laws.Row.Negated.{row_signed}
use Rattle.recode.specs.Body.Sign.{signed_below}
use Rattle.recode.specs.Call.{wrote, wrote_row, wrote_columns, filled}
use Rattle.recode.specs.Call.Joint.{digits_of}

-- any sign but 0 is minus
pub minus_below : (sign places : ℕ) (row : List ℕ) → sign ≢ 0 → map turned (take places row) ++ drop places row ≡ signed_below sign places row
minus_below zero places row n = absurd (n refl)
minus_below (suc m) places row n = refl

turned_bytes : (ds : List ℤ) → map turned (map byte_of ds) ≡ map byte_of (map neg_ℤ ds)
turned_bytes [] = refl
turned_bytes (d ∷ ds) = ap₂ ◌∷◌ (sym (byte_negated d)) (turned_bytes ds)

-- the digits have their places in a filled buffer
pub filled_holds : (ds : List ℤ) (buffer : List ℕ) → length ds ≤ length (filled ds buffer)
filled_holds ds buffer =
    omega (arith, length-map ds byte_of, length-append (map byte_of ds) (replicate (length buffer - length ds) 0))

-- a filled buffer whose digits are given a sign
signed_filled : (sign n : ℕ) (ds : List ℤ) (buffer : List ℕ) → n ≡ length ds
    → signed_below sign n (filled ds buffer) ≡ filled (map (signed_by sign) ds) buffer
signed_filled zero n ds buffer e = sym (ap (λ (es : List ℤ). filled es buffer) (plus_row ds))
signed_filled (suc m) n ds buffer e =
    let rest : List ℕ = replicate (length buffer - length ds) 0 in
    let seam : length (map byte_of ds) ≡ n = length-map ds byte_of ∙ sym e in
    ap₂ (λ (a b : List ℕ). map turned a ++ b) (take_at (map byte_of ds) rest n seam) (drop_at (map byte_of ds) rest n seam)
    ∙ ap₂ (λ (a : List ℕ) (k : ℕ). a ++ replicate (length buffer - k) 0) (turned_bytes ds) (sym (length-map ds neg_ℤ))

module _ (s : List ℕ) (sign m : ℕ) (h : 1 ≤ m) where
  row_is : row m (signed_scalar s sign) ≡ map (signed_by sign) (row m (pos (scalar s)))
  unfolding signed_scalar
  row_is = row_signed m sign (pos (scalar s)) h

  pub signed_row : (n : ℕ) (buffer : List ℕ) → n ≡ length (row m (pos (scalar s)))
      → signed_below sign n (filled (row m (pos (scalar s))) buffer) ≡ filled (row m (signed_scalar s sign)) buffer
  signed_row n buffer e =
      signed_filled sign n (row m (pos (scalar s))) buffer e ∙ ap (λ (ds : List ℤ). filled ds buffer) (sym row_is)

  pub wrote_signed_row : wrote_row (row m (pos (scalar s))) ≡ wrote_row (row m (signed_scalar s sign))
  wrote_signed_row =
      sym (ap wrote_row row_is ∙ ap₂ wrote (length-map (row m (pos (scalar s))) (signed_by sign)) (weight_signed sign (row m (pos (scalar s)))))

module _ (s : List ℕ) (s_sign : ℕ) (t : List ℕ) (t_sign : ℕ) where
  pub signed_columns : (r : Two) (n : ℕ) (buffer : List ℕ) → n ≡ length (joint (pos (scalar s)) (pos (scalar t)))
      → signed_below (of s_sign t_sign r) n (filled (Columns.row two r (joint (pos (scalar s)) (pos (scalar t)))) buffer) ≡ filled (digits_of r s s_sign t t_sign) buffer
  unfolding signed_scalar
  signed_columns r n buffer e =
      let cs = joint (pos (scalar s)) (pos (scalar t)) in
      signed_filled (of s_sign t_sign r) n (Columns.row two r cs) buffer (e ∙ sym (row_length two r cs))
      ∙ ap (λ (ds : List ℤ). filled ds buffer) (sym (joint_negates (pos (scalar s)) (pos (scalar t)) s_sign t_sign r))

  pub wrote_signed_columns : wrote_columns (joint (pos (scalar s)) (pos (scalar t))) ≡ wrote_columns (joint (signed_scalar s s_sign) (signed_scalar t t_sign))
  unfolding signed_scalar
  wrote_signed_columns =
      let same = joint_signed_size (pos (scalar s)) (pos (scalar t)) s_sign t_sign in sym (ap₂ wrote same.0 same.1)

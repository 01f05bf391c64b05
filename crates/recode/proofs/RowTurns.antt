-- The turns of the row loop: what is laid into the buffer, followed by the row of the remainder, is the whole row; and the weight of what
-- is laid.
use mathlib.Core.Path.{◌≡◌, refl, sym, ap, ap₂, ◌∙◌}
use mathlib.Core.Logic.{◌≢◌, ⊎_elim}
use mathlib.Core.List.{List, [], ◌∷◌, ◌++◌, append_assoc, append-nil}
use Prim.Native.Nat.{ℕ, ◌+◌, ◌*◌, ◌%◌, ◌^◌, ◌≤◌, ◌<◌}
use native.Mathlib.Omega.{arith}
use lib.IntN.{ℤ, pos}
use lib.ListN.{length, set, replicate, length-append, length-replicate}
use Rattle.digits.specs.Byte.{byte_of}
use Rattle.digits.specs.Integer.{up}
use Rattle.digits.specs.Row as Rows
use Rattle.digits.specs.Row.Adding.{count_odd}
use Rattle.digits.specs.Row.Weight.{weight_append, weight_zeros, weight_most}
use Rattle.forms.specs.Row.{row, digit, rest}
use Rattle.forms.proofs.Laws.Row.Digit.{digit_meets}
use Rattle.forms.specs.Row.OddDigit.{digit_cases}
use Rattle.forms.proofs.Laws.Row.Natural.{row_zeros}
use Rattle.forms.proofs.Laws.Row.Only.{row_zero, row_unfold}
use Rattle.recode.specs.Call.{of_size, row_size, filled}
use Rattle.recode.proofs.Laid.{Laid, laid_none, laid_zeros, laid_digit}

-- done stands in the buffer, and the row of r is still to come
pub record Turn (m c P r : ℕ) (out : List ℕ) (place weight : ℕ) : Type 0 where
  pub done : List ℤ
  pub laid : Laid P done out place
  pub whole : row m (pos c) ≡ done ++ row m (pos r)
  pub heavy : weight ≡ Rows.weight done

module _ (m c P : ℕ) (h : 1 ≤ m) (fits : length (row m (pos c)) ≤ P) where
  pub bound : {r place weight : ℕ} {out : List ℕ} → Turn m c P r out place weight → place + length (row m (pos r)) ≤ P
  bound {r} t =
      omega (arith, ap length t.whole, length-append t.done (row m (pos r)), t.laid.places)

  -- no more digits count than there are places
  pub light : {r place weight : ℕ} {out : List ℕ} → Turn m c P r out place weight → weight ≤ place
  light t = omega (arith, t.heavy, weight_most t.done, t.laid.places)

  pub start : (out : List ℕ) → out ≡ replicate P 0 → Turn m c P c out 0 0
  unfolding Rows.weight
  start out e = record { done = []; laid = laid_none P out e; whole = refl; heavy = refl }

  -- zeros are skipped
  pub skip : {place weight : ℕ} {out : List ℕ} (z r : ℕ) → 0 < r → Turn m c P (2 ^ z * r) out place weight → Turn m c P r out (place + z) weight
  skip {place} {weight} {out} z r p t =
      let more = row_zeros m z r h p in
      let room : place + z ≤ P =
      omega (arith, bound t, ap length more, length-append (replicate z (pos 0)) (row m (pos r)), length-replicate z (pos 0))
      in
      record {
        done = t.done ++ replicate z (pos 0);
        laid = laid_zeros P t.done out place z room t.laid;
        whole = t.whole ∙ ap (λ (l : List ℤ). t.done ++ l) more ∙ sym (append_assoc t.done (replicate z (pos 0)) (row m (pos r)));
        heavy = omega (arith, t.heavy, weight_append t.done (replicate z (pos 0)), weight_zeros z);
      }

  nonzero : (r : ℕ) → 0 < r → pos r ≢ pos 0
  nonzero r p e = omega (arith, ap up e)

  pub room : {r place weight : ℕ} {out : List ℕ} → 0 < r → Turn m c P r out place weight → place < P
  room {r} p t = omega (arith, bound t, ap length (row_unfold m (pos r) h (nonzero r p)))

  -- the digit of an odd remainder is not 0
  digit_counts : (r : ℕ) → r % 2 ≡ 1 → Rows.count (digit m (pos r)) ≡ 1
  digit_counts r o = ⊎_elim (λ z. absurd (omega (arith, z.0))) (λ n. count_odd (digit m (pos r)) n.odd) (digit_cases h (digit_meets m (pos r) h))

  -- it is stored
  pub store : {r place weight : ℕ} {out : List ℕ} (b r' : ℕ) (d : ℤ) → 0 < r → r % 2 ≡ 1 → d ≡ digit m (pos r) → b ≡ byte_of d → pos r' ≡ rest m (pos r)
      → Turn m c P r out place weight → Turn m c P r' (set out place b) (place + 1) (weight + 1)
  unfolding Rows.weight
  store {r} {place} {weight} {out} b r' d p o e f g t =
      record {
        done = t.done ++ (d ∷ []);
        laid = laid_digit P t.done out place b d (room p t) f t.laid;
        whole =
            t.whole
            ∙ ap (λ (l : List ℤ). t.done ++ l) (row_unfold m (pos r) h (nonzero r p) ∙ rw (← e, ← g))
            ∙ sym (append_assoc t.done (d ∷ []) (row m (pos r')));
        heavy = omega (arith, t.heavy, weight_append t.done (d ∷ []), ap Rows.count e, digit_counts r o);
      }

  -- at 0 the row is done
  pub stop : {place weight : ℕ} {out : List ℕ} (out₀ : List ℕ) → length out₀ ≡ P → Turn m c P 0 out place weight
      → (of_size place weight ≡ row_size (row m (pos c))) × (out ≡ filled (row m (pos c)) out₀)
  stop {place} {weight} {out} out₀ e t =
      let all : row m (pos c) ≡ t.done = t.whole ∙ ap (λ (l : List ℤ). t.done ++ l) (row_zero m) ∙ append-nil t.done in
      let long : place ≡ length (row m (pos c)) = sym (ap length all ∙ t.laid.places) in
      (ap₂ of_size long (t.heavy ∙ ap Rows.weight (sym all)), t.laid.buffer ∙ rw (all, e, t.laid.places))

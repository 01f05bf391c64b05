-- The turns of the column loop: the columns laid into the two buffers, followed by those of the remainders, are all columns; and the weight
-- of those that are laid.
use mathlib.Core.Path.{◌≡◌, refl, sym, ap, ap₂, subst, ◌∙◌}
use mathlib.Core.List.{List, [], ◌∷◌, ◌++◌, map-append, append_assoc, append-nil}
use Prim.Native.Nat.{ℕ, zero, suc, ◌+◌, ◌*◌, ◌%◌, ◌^◌, ◌≤◌, ◌<◌}
use native.Mathlib.Omega.{arith}
use lib.IntN.{ℤ, pos, nat_abs}
use lib.ListN.{length, set, replicate, length-append, length-replicate}
use Rattle.digits.specs.Byte.{byte_of}
use Rattle.digits.specs.Column as Column
use Rattle.digits.specs.Column.Adding.{full_counted}
use Rattle.digits.specs.Column.Length.{row_length}
use Rattle.digits.specs.Column.Weight.{weight_append, weight_blank, weight_most}
use Rattle.digits.specs.Integer.{up}
use Rattle.digits.specs.Two as Two
use Rattle.digits.specs.Two.{Two, P, Q, of, two, blank_column}
use Rattle.forms.specs.Joint.{joint, column, digit, rest}
use Rattle.forms.proofs.Laws.Joint.Digit.{digit_fits}
use Rattle.forms.specs.Joint.Rule.{BothZero}
use Rattle.forms.proofs.Laws.Joint.Rule.{joint_unfold, joint_zero}
use Rattle.forms.proofs.Laws.Joint.Value.{column_digit}
use Rattle.forms.proofs.Laws.Joint.Zeros.{joint_zeros}
use Rattle.recode.specs.Call.{of_size, columns_size, filled}
use Rattle.recode.proofs.Laid.{Laid, laid_none, laid_zeros, laid_digit}

-- done stands in the buffers, and the columns of k and l are still to come
pub record Turn (k₀ l₀ n k l : ℕ) (out : Two → List ℕ) (place weight : ℕ) : Type 0 where
  pub done : List Two.Column
  pub laid : (r : Two) → Laid n (Column.row two r done) (out r) place
  pub whole : joint (pos k₀) (pos l₀) ≡ done ++ joint (pos k) (pos l)
  pub heavy : weight ≡ Column.weight two done

row_append : (r : Two) (cs ds : List Two.Column) → Column.row two r (cs ++ ds) ≡ Column.row two r cs ++ Column.row two r ds
unfolding Column.row
row_append r cs ds = map-append (λ c. Two.digit c r) cs ds

row_one : (r : Two) (c : Two.Column) → Column.row two r (c ∷ []) ≡ Two.digit c r ∷ []
unfolding Column.row
row_one r c = refl

row_blank : (r : Two) (z : ℕ) → Column.row two r (replicate z blank_column) ≡ replicate z (pos 0)
unfolding Column.row
row_blank r zero = refl
row_blank r (suc z) = ap₂ ◌∷◌ (Two.blank_digit blank_column tt r) (row_blank r z)

nonzero : (k l : ℕ) → 0 < k + l → ¬ (BothZero (pos k) (pos l))
nonzero k l p z = omega (arith, ap up z.0, ap up z.1)

-- the same buffers, written another way
pub relaid : {k₀ l₀ n k l place weight : ℕ} {out out' : Two → List ℕ} → ((r : Two) → out r ≡ out' r) → Turn k₀ l₀ n k l out place weight
    → Turn k₀ l₀ n k l out' place weight
relaid {n = n} {place = place} e t =
    record {
      done = t.done;
      laid = λ r. subst (λ (o : List ℕ). Laid n (Column.row two r t.done) o place) (e r) (t.laid r);
      whole = t.whole;
      heavy = t.heavy;
    }

module _ (k₀ l₀ n : ℕ) (fits : length (joint (pos k₀) (pos l₀)) ≤ n) where
  pub bound : {k l place weight : ℕ} {out : Two → List ℕ} → Turn k₀ l₀ n k l out place weight → place + length (joint (pos k) (pos l)) ≤ n
  bound {k} {l} t =
      omega (arith, ap length t.whole, length-append t.done (joint (pos k) (pos l)), (t.laid P).places, row_length two P t.done)

  -- no more columns count than there are places
  pub light : {k l place weight : ℕ} {out : Two → List ℕ} → Turn k₀ l₀ n k l out place weight → weight ≤ place
  light t = omega (arith, t.heavy, weight_most two t.done, (t.laid P).places, row_length two P t.done)

  pub start : (out : Two → List ℕ) → ((r : Two) → out r ≡ replicate n 0) → Turn k₀ l₀ n k₀ l₀ out 0 0
  unfolding Column.row Column.weight
  start out e = record { done = []; laid = λ r. laid_none n (out r) (e r); whole = refl; heavy = refl }

  -- zero columns are skipped
  pub skip : {place weight : ℕ} {out : Two → List ℕ} (z k l : ℕ) → 0 < k + l → Turn k₀ l₀ n (2 ^ z * k) (2 ^ z * l) out place weight
      → Turn k₀ l₀ n k l out (place + z) weight
  skip {place} {weight} {out} z k l some t =
      let more = joint_zeros z k l some in
      let room : place + z ≤ n =
      omega (arith, bound t, ap length more, length-append (replicate z blank_column) (joint (pos k) (pos l)), length-replicate z blank_column)
      in
      record {
        done = t.done ++ replicate z blank_column;
        laid = λ r. rw (row_append, row_blank) (laid_zeros n (Column.row two r t.done) (out r) place z room (t.laid r));
        whole =
            t.whole
            ∙ ap (λ (cs : List Two.Column). t.done ++ cs) more
            ∙ sym (append_assoc t.done (replicate z blank_column) (joint (pos k) (pos l)));
        heavy = omega (arith, t.heavy, weight_append two t.done (replicate z blank_column), weight_blank two z blank_column tt);
      }

  pub room : {k l place weight : ℕ} {out : Two → List ℕ} → 0 < k + l → Turn k₀ l₀ n k l out place weight → place < n
  room {k} {l} some t = omega (arith, bound t, ap length (joint_unfold (pos k) (pos l) (nonzero k l some)))

  -- a column is not zero where one of the remainders is odd
  column_counts : (k l : ℕ) → 1 ≤ k % 2 + l % 2 → Column.counted (Two.blank (column (pos k) (pos l))) ≡ 1
  column_counts k l o =
      full_counted (Two.blank (column (pos k) (pos l))) (λ t.
      let p : digit (pos k) (pos l) ≡ pos 0 = sym (column_digit (pos k) (pos l) P) ∙ Two.blank_digit (column (pos k) (pos l)) t P in
      let q : digit (pos l) (pos k) ≡ pos 0 = sym (column_digit (pos k) (pos l) Q) ∙ Two.blank_digit (column (pos k) (pos l)) t Q in
      omega (arith, ap nat_abs p, ap nat_abs q, (digit_fits (pos k) (pos l)).1, (digit_fits (pos l) (pos k)).1))

  -- it is stored
  pub store : {k l place weight : ℕ} {out : Two → List ℕ} (b : Two → ℕ) (k' l' : ℕ) → 0 < k + l → 1 ≤ k % 2 + l % 2
      → ((r : Two) → b r ≡ byte_of (digit (of (pos k) (pos l) r) (of (pos l) (pos k) r)))
      → pos k' ≡ rest (pos k) (pos l) → pos l' ≡ rest (pos l) (pos k) → Turn k₀ l₀ n k l out place weight
      → Turn k₀ l₀ n k' l' (λ r. set (out r) place (b r)) (place + 1) (weight + 1)
  unfolding Column.weight
  store {k} {l} {place} {weight} {out} b k' l' some o e f g t =
      let c = column (pos k) (pos l) in
      record {
        done = t.done ++ (column (pos k) (pos l) ∷ []);
        laid =
            λ r.
            subst (λ (ds : List ℤ). Laid n ds (set (out r) place (b r)) (place + 1))
            (sym (row_append r t.done (column (pos k) (pos l) ∷ []) ∙ ap (λ (ds : List ℤ). Column.row two r t.done ++ ds) (row_one r (column (pos k) (pos l)))))
            (laid_digit n (Column.row two r t.done) (out r) place (b r) (Two.digit (column (pos k) (pos l)) r) (room some t)
            (e r ∙ ap byte_of (sym (column_digit (pos k) (pos l) r))) (t.laid r));
        whole =
            t.whole
            ∙ ap (λ (cs : List Two.Column). t.done ++ cs) (joint_unfold (pos k) (pos l) (nonzero k l some) ∙ rw (← f, ← g))
            ∙ sym (append_assoc t.done (column (pos k) (pos l) ∷ []) (joint (pos k') (pos l')));
        heavy = omega (arith, t.heavy, weight_append two t.done (column (pos k) (pos l) ∷ []), column_counts k l o);
      }

  -- at 0, 0 the columns are done
  pub stop : {place weight : ℕ} {out : Two → List ℕ} (out₀ : Two → List ℕ) → ((r : Two) → length (out₀ r) ≡ n) → Turn k₀ l₀ n 0 0 out place weight
      → (of_size place weight ≡ columns_size (joint (pos k₀) (pos l₀))) × ((r : Two) → out r ≡ filled (Column.row two r (joint (pos k₀) (pos l₀))) (out₀ r))
  stop {place} {weight} {out} out₀ e t =
      let all : joint (pos k₀) (pos l₀) ≡ t.done =
      t.whole ∙ ap (λ (cs : List Two.Column). t.done ++ cs) joint_zero ∙ append-nil t.done
      in (
        ap₂ of_size (sym (ap length all ∙ sym (row_length two P t.done) ∙ (t.laid P).places)) (t.heavy ∙ ap (Column.weight two) (sym all)),
        λ r. (t.laid r).buffer ∙ rw (all, e r, (t.laid r).places),
      )

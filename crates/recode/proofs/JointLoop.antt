-- One turn of the column loop over plain values: the state that the loop keeps, what one side of a turn needs, and what each
-- kind of turn makes of the state.
use mathlib.Core.Path.{◌≡◌, refl, sym, ap, subst, ◌∙◌}
use mathlib.Core.Logic.{◌⊎◌, ⊎_elim, ⊎_map}
use mathlib.Core.List.{List}
use Prim.Native.Nat.{ℕ, ◌+◌, ◌%◌, ◌≤◌, ◌<◌}
use native.Mathlib.Omega.{arith}
use lib.IntN.{ℤ, pos, nat_abs, ◌-ℤ◌}
use lib.ListN.{length, set, replicate, length-set}
use Rattle.digits.specs.Byte.{byte_of}
use Rattle.digits.specs.Scalar.{Bytes}
use Rattle.digits.specs.Column as Column
use Rattle.digits.specs.Integer.{half}
use Rattle.digits.specs.Scalar.{little}
use Rattle.digits.specs.Two.{Two, P, Q, of, two}
use Rattle.forms.specs.Joint.{joint, digit, rest}
use Rattle.forms.proofs.Laws.Joint.Digit.{digit_mod, digit_fits, joint_rest_pos}
use Rattle.recode.specs.declared.low.Low.{Low}
use Rattle.recode.specs.Call.{of_size, columns_size, filled}
use Rattle.recode.specs.Body.Remainder.{remaining}
use Rattle.recode.proofs.LowRemainder.{Used, Without, remaining_new, remaining_shifted, still, remaining_zero, remaining_some, remaining_less, low_bits}
use Rattle.recode.proofs.JointTurns.{Turn, relaid, light, start, skip, store, stop, room}

-- what one of the two numbers needs: its digit comes from the lowest bits of both
module _ (s o : Low) (d : ℤ) (of_lowest : d ≡ digit (pos (s.low % 64)) (pos (o.low % 64))) where
  is : d ≡ digit (pos s.low) (pos o.low)
  is =
      of_lowest
      ∙ digit_mod (pos (s.low % 64)) (pos s.low) (pos (o.low % 64)) (pos o.low) (omega arith) (omega arith)

  pub small : nat_abs d ≤ 1
  small = subst (λ (x : ℤ). nat_abs x ≤ 1) (sym is) (digit_fits (pos s.low) (pos o.low)).0

  pub halved : (k : ℕ) × (half (pos s.low -ℤ d) ≡ pos k)
  unfolding rest
  halved =
      let k = joint_rest_pos s.low o.low in (k.0, ap (λ (x : ℤ). half (pos s.low -ℤ x)) is ∙ k.1)

  module _ (bytes bytes' : List ℕ) (bits : 3 ≤ s.bits) (bits' : 3 ≤ o.bits) where
    whole_digit : d ≡ digit (pos (remaining bytes s)) (pos (remaining bytes' o))
    whole_digit =
        is
        ∙ digit_mod (pos s.low) (pos (remaining bytes s)) (pos o.low) (pos (remaining bytes' o))
        (sym (low_bits bytes s 3 bits)) (sym (low_bits bytes' o 3 bits'))

    pub next : (t : Low) → (t.at ≡ s.at) × ((t.bits + 1 ≡ s.bits) × (pos t.low ≡ half (pos s.low -ℤ d)))
        → pos (remaining bytes t) ≡ rest (pos (remaining bytes s)) (pos (remaining bytes' o))
    unfolding rest
    next t h =
        remaining_less bytes s t d h.0 h.1.0 h.1.1
        ∙ ap (λ (x : ℤ). half (pos (remaining bytes s) -ℤ x)) whole_digit

-- what holds throughout the loop
pub record Given (k l k_out₀ l_out₀ : List ℕ) : Type 0 where
  pub k_bytes : Bytes k
  pub l_bytes : Bytes l
  pub k_in_use : Used k (length k)
  pub l_in_use : Used l (length l)
  pub cleared : (r : Two) → of k_out₀ l_out₀ r ≡ replicate (length k_out₀) 0
  pub equal : length l_out₀ ≡ length k_out₀
  pub fits : length (joint (pos (little k)) (pos (little l))) ≤ length k_out₀

-- something is left of one of the two
abbrev pub Going : ℕ → ℕ → Low → Low → Type 0
Going k_used l_used s t = (s.low ≡ 0 → s.at < k_used) ⊎ (t.low ≡ 0 → t.at < l_used)

-- and still is without the zeros of both
pub going_on : {s t s' t' : Low} {z : ℕ} (k_used l_used : ℕ) → Without s s' z → Without t t' z → Going k_used l_used s t → Going k_used l_used s' t'
going_on k_used l_used v w = ⊎_map (still v k_used) (still w l_used)

pub record State (k l k_out₀ k_out l_out : List ℕ) (s t : Low) (place weight : ℕ) : Type 0 where
  -- both hold as many bits
  pub level : s.bits ≡ t.bits
  pub k_long : length k_out ≡ length k_out₀
  pub l_long : length l_out ≡ length k_out₀
  pub turn : Turn (little k) (little l) (length k_out₀) (remaining k s) (remaining l t) (of k_out l_out) place weight

module _ {k l k_out₀ l_out₀ : List ℕ} (g : Given k l k_out₀ l_out₀) where
  moved : {k_out l_out : List ℕ} {place weight a b a' b' : ℕ} → a ≡ a' → b ≡ b' → Turn (little k) (little l) (length k_out₀) a b (of k_out l_out) place weight
      → Turn (little k) (little l) (length k_out₀) a' b' (of k_out l_out) place weight
  moved e f t = rw (e, f) at t

  pub begin : (s t : Low) → (s.at ≡ 0) × ((s.bits ≡ 0) × (s.low ≡ 0)) → (t.at ≡ 0) × ((t.bits ≡ 0) × (t.low ≡ 0)) → State k l k_out₀ k_out₀ l_out₀ s t 0 0
  begin s t e f =
      record {
        level = omega arith;
        k_long = refl;
        l_long = g.equal;
        turn =
            moved (sym (remaining_new k s e)) (sym (remaining_new l t f))
            (start (little k) (little l) (length k_out₀) g.fits (of k_out₀ l_out₀) g.cleared);
      }

  some : (s t : Low) → Going (length k) (length l) s t → 0 < remaining k s + remaining l t
  some s t going =
      ⊎_elim (λ h. omega (arith, remaining_some k s (length k) g.k_bytes g.k_in_use h))
      (λ h. omega (arith, remaining_some l t (length l) g.l_bytes g.l_in_use h)) going

  module _ {k_out l_out : List ℕ} {place weight : ℕ} where
    -- the low bits are filled up
    pub refill : (s s' t t' : Low) → remaining k s' ≡ remaining k s → remaining l t' ≡ remaining l t → s'.bits ≡ t'.bits
        → State k l k_out₀ k_out l_out s t place weight → State k l k_out₀ k_out l_out s' t' place weight
    refill s s' t t' e f b st =
        record { level = b; k_long = st.k_long; l_long = st.l_long; turn = moved (sym e) (sym f) st.turn }

    pub finish : (s t : Low) → ((s.low ≡ 0) × (length k ≤ s.at)) × ((t.low ≡ 0) × (length l ≤ t.at)) → State k l k_out₀ k_out l_out s t place weight
        → (of_size place weight ≡ columns_size (joint (pos (little k)) (pos (little l)))) × ((r : Two) → of k_out l_out r ≡ filled (Column.row two r (joint (pos (little k)) (pos (little l)))) (of k_out₀ l_out₀ r))
    finish s t e st =
        stop (little k) (little l) (length k_out₀) g.fits (of k_out₀ l_out₀) sizes
        (moved (remaining_zero k s (length k) g.k_in_use e.0) (remaining_zero l t (length l) g.l_in_use e.1) st.turn)
      where
        sizes : (r : Two) → length (of k_out₀ l_out₀ r) ≡ length k_out₀
        sizes P = refl
        sizes Q = g.equal

    -- z zeros of both are skipped
    pub skipped : (s t s' t' : Low) (z : ℕ) → Without s s' z → Without t t' z → Going (length k) (length l) s t
        → State k l k_out₀ k_out l_out s t place weight → State k l k_out₀ k_out l_out s' t' (place + z) weight
    skipped s t s' t' z v w going st =
        record {
          level = omega (arith, st.level, v.shifted.1.0, w.shifted.1.0);
          k_long = st.k_long;
          l_long = st.l_long;
          turn =
              skip (little k) (little l) (length k_out₀) g.fits z (remaining k s') (remaining l t') (some s' t' (going_on (length k) (length l) v w going))
              (moved (remaining_shifted v k) (remaining_shifted w l) st.turn);
        }

    module _ (s t : Low) (going : Going (length k) (length l) s t) (st : State k l k_out₀ k_out l_out s t place weight) where
      pub inside : place < length k_out₀
      inside = room (little k) (little l) (length k_out₀) g.fits (some s t going) st.turn

      -- no more columns count than there are places
      pub few : weight ≤ place
      few = light (little k) (little l) (length k_out₀) g.fits st.turn

      -- a column is stored, where one of the remainders is odd
      pub stored : 3 ≤ s.bits → 3 ≤ t.bits → 1 ≤ s.low % 2 + t.low % 2 → (c d : ℤ) → c ≡ digit (pos (s.low % 64)) (pos (t.low % 64)) → d ≡ digit (pos (t.low % 64)) (pos (s.low % 64))
          → (b e : ℕ) → b ≡ byte_of c → e ≡ byte_of d → (s' t' : Low)
          → (s'.at ≡ s.at) × ((s'.bits + 1 ≡ s.bits) × (pos s'.low ≡ half (pos s.low -ℤ c)))
          → (t'.at ≡ t.at) × ((t'.bits + 1 ≡ t.bits) × (pos t'.low ≡ half (pos t.low -ℤ d)))
          → State k l k_out₀ (set k_out place b) (set l_out place e) s' t' (place + 1) (weight + 1)
      stored p q o c d x y b e u v s' t' h h' =
          record {
            level = omega (arith, st.level, h.1.0, h'.1.0);
            k_long = length-set k_out place b ∙ st.k_long;
            l_long = length-set l_out place e ∙ st.l_long;
            turn =
                relaid sets
                (store (little k) (little l) (length k_out₀) g.fits (of b e) (remaining k s') (remaining l t') (some s t going)
                (omega (arith, o, low_bits k s 1 (omega arith), low_bits l t 1 (omega arith))) bytes
                (next s t c x k l p q s' h) (next t s d y l k q p t' h') st.turn);
          }
        where
          bytes : (r : Two) → of b e r ≡ byte_of (digit (of (pos (remaining k s)) (pos (remaining l t)) r) (of (pos (remaining l t)) (pos (remaining k s)) r))
          bytes P = u ∙ ap byte_of (whole_digit s t c x k l p q)
          bytes Q = v ∙ ap byte_of (whole_digit t s d y l k q p)

          sets : (r : Two) → set (of k_out l_out r) place (of b e r) ≡ of (set k_out place b) (set l_out place e) r
          sets P = refl
          sets Q = refl

-- One turn of the row loop over plain values: the state that the loop keeps, and what each kind of turn makes of it.
use mathlib.Core.Path.{◌≡◌, refl, sym, ap, subst, ◌∙◌}
use mathlib.Core.List.{List}
use Prim.Native.Nat.{ℕ, zero, suc, ◌+◌, ◌*◌, ◌%◌, ◌^◌, ◌≤◌, ◌<◌}
use native.Mathlib.Omega.{arith}
use lib.IntN.{ℤ, pos, nat_abs, ◌-ℤ◌}
use lib.ListN.{length, set, replicate, length-set}
use Rattle.digits.specs.Byte.{byte_of}
use Rattle.digits.specs.Scalar.{Bytes}
use Rattle.digits.specs.Integer.{half}
use Rattle.digits.specs.Scalar.{little}
use Rattle.forms.proofs.Laws.Row.Digit.{digit_meets, digit_mod}
use Rattle.forms.specs.Row.OddDigit.{digit_small}
use Rattle.forms.specs.Residue.{width}
use Rattle.forms.specs.Row.{row, digit, rest}
use Rattle.forms.proofs.Laws.Row.Natural.{rest_pos}
use Rattle.forms.specs.Residue.Width.{width_least}
use Rattle.recode.specs.declared.low.Low.{Low}
use Rattle.recode.specs.Call.{of_size, row_size, filled}
use Rattle.recode.specs.Body.Remainder.{remaining}
use Rattle.recode.proofs.LowRemainder.{Used, Without, remaining_new, remaining_shifted, remaining_zero, remaining_some, remaining_less, low_bits}
use Rattle.recode.proofs.RowTurns.{Turn, light, start, skip, store, stop, room, bound}

-- what holds throughout the loop
pub record Given (bytes : List ℕ) (m : ℕ) (out₀ : List ℕ) : Type 0 where
  pub one : 1 ≤ m
  pub most : m ≤ 31
  pub are_bytes : Bytes bytes
  pub in_use : Used bytes (length bytes)
  pub cleared : out₀ ≡ replicate (length out₀) 0
  pub fits : length (row m (pos (little bytes))) ≤ length out₀

positive : (z r : ℕ) → 0 < 2 ^ z * r → 0 < r
positive z zero p = absurd (omega arith)
positive z (suc r) p = omega arith

rest_half : (m : ℕ) (c d : ℤ) → d ≡ digit m c → half (c -ℤ d) ≡ rest m c
unfolding rest
rest_half m c d e = ap (λ (x : ℤ). half (c -ℤ x)) e

abbrev pub State : List ℕ → ℕ → List ℕ → List ℕ → Low → ℕ → ℕ → Type 0
State bytes m out₀ out low place weight =
    (length out ≡ length out₀) × Turn m (little bytes) (length out₀) (remaining bytes low) out place weight

module _ {bytes : List ℕ} {m : ℕ} {out₀ : List ℕ} (g : Given bytes m out₀) where
  pub begin : (s : Low) → (s.at ≡ 0) × ((s.bits ≡ 0) × (s.low ≡ 0)) → State bytes m out₀ out₀ s 0 0
  begin s e = (
    refl,
    subst (λ (r : ℕ). Turn m (little bytes) (length out₀) r out₀ 0 0) (sym (remaining_new bytes s e))
        (start m (little bytes) (length out₀) g.one g.fits out₀ g.cleared),
  )

  module _ {out : List ℕ} {place weight : ℕ} where
    -- the low bits are filled up
    pub refill : (s t : Low) → remaining bytes t ≡ remaining bytes s → State bytes m out₀ out s place weight → State bytes m out₀ out t place weight
    refill s t e st =
        (st.0, subst (λ (r : ℕ). Turn m (little bytes) (length out₀) r out place weight) (sym e) st.1)

    -- the places stay within the buffer
    pub reached : (s : Low) → State bytes m out₀ out s place weight → place ≤ length out
    reached s st =
        omega (arith, st.0, bound m (little bytes) (length out₀) g.one g.fits st.1)

    -- and no more digits count than there are places
    pub few : (s : Low) → State bytes m out₀ out s place weight → weight ≤ place
    few s st = light m (little bytes) (length out₀) g.one g.fits st.1

    pub finish : (s : Low) → (s.low ≡ 0) × (length bytes ≤ s.at) → State bytes m out₀ out s place weight
        → (of_size place weight ≡ row_size (row m (pos (little bytes)))) × (out ≡ filled (row m (pos (little bytes))) out₀)
    finish s e st =
        stop m (little bytes) (length out₀) g.one g.fits out₀ refl
        (subst (λ (r : ℕ). Turn m (little bytes) (length out₀) r out place weight) (remaining_zero bytes s (length bytes) g.in_use e) st.1)

    module _ (s : Low) (going : s.low ≡ 0 → s.at < length bytes) (st : State bytes m out₀ out s place weight) where
      some : 0 < remaining bytes s
      some = remaining_some bytes s (length bytes) g.are_bytes g.in_use going

      -- z zeros are skipped
      pub skipped : (t : Low) (z : ℕ) → Without s t z → State bytes m out₀ out t (place + z) weight
      skipped t z w =
          let less = remaining_shifted w bytes in
          let more : 0 < remaining bytes t = positive z (remaining bytes t) (subst (λ (n : ℕ). 0 < n) less some) in (
            st.0,
            skip m (little bytes) (length out₀) g.one g.fits z (remaining bytes t) more
                (subst (λ (r : ℕ). Turn m (little bytes) (length out₀) r out place weight) less st.1),
          )

      narrow : width m ≤ 6
      narrow = (width_least m g.one).1 6 (omega (arith, g.most))

      pub inside : place < length out
      inside = omega (arith, st.0, room m (little bytes) (length out₀) g.one g.fits some st.1)

      -- a digit d, of the lowest bits of an odd remainder, is stored
      module _ (bits : 6 ≤ s.bits) (d : ℤ) (of_lowest : d ≡ digit m (pos (s.low % 64))) where
        is : d ≡ digit m (pos s.low)
        is = of_lowest ∙ digit_mod m 6 (pos (s.low % 64)) (pos s.low) g.one narrow (omega arith)

        pub small : nat_abs d ≤ 31
        small = omega (arith, subst (λ (x : ℤ). nat_abs x ≤ m) (sym is) (digit_small g.one (digit_meets m (pos s.low) g.one)), g.most)

        pub halved : (k : ℕ) × (half (pos s.low -ℤ d) ≡ pos k)
        unfolding rest
        halved =
            let k = rest_pos m s.low g.one in
            (k.0, ap (λ (x : ℤ). half (pos s.low -ℤ x)) is ∙ k.1)

        pub stored : (t : Low) (b : ℕ) → s.low % 2 ≡ 1 → b ≡ byte_of d → (t.at ≡ s.at) × ((t.bits + 1 ≡ s.bits) × (pos t.low ≡ half (pos s.low -ℤ d)))
            → State bytes m out₀ (set out place b) t (place + 1) (weight + 1)
        stored t b odd e h =
            let same = is ∙ sym (digit_mod m 6 (pos (remaining bytes s)) (pos s.low) g.one narrow (low_bits bytes s 6 bits)) in (
              length-set out place b ∙ st.0,
              store m (little bytes) (length out₀) g.one g.fits b (remaining bytes t) d some (omega (arith, odd, low_bits bytes s 1 (omega arith))) same e (next t same h) st.1,
            )
          where
            whole : d ≡ digit m (pos (remaining bytes s)) → half (pos (remaining bytes s) -ℤ d) ≡ rest m (pos (remaining bytes s))
            whole same = rest_half m (pos (remaining bytes s)) d same

            next : (t : Low) → d ≡ digit m (pos (remaining bytes s)) → (t.at ≡ s.at) × ((t.bits + 1 ≡ s.bits) × (pos t.low ≡ half (pos s.low -ℤ d))) → pos (remaining bytes t) ≡ rest m (pos (remaining bytes s))
            next t same h =
                remaining_less bytes s t d h.0 h.1.0 h.1.1 ∙ whole same

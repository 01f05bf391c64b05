-- The row from the top down: its value, its digits, its top, its length and its weight, for numbers of either sign. From the digits of all its
-- places, and from 01's row being the lightest.
use Rattle.std.specs.Prelude.{◌≡◌, ◌≢◌, List, [], ◌∷◌, ◌++◌, map, ℤ, pos, negsuc, ◌+ℤ◌, nat_abs, length, get_or}
use Rattle.std.proofs.Math.Path.{refl, sym, ap}
use Rattle.std.proofs.Common.{ap₂, subst, ◌∙◌, arith, pow_pos, pow_mono, eq-eqb}
use Prim.Native.Nat.{ℕ, zero, suc, ◌+◌, ◌*◌, ◌-◌, ◌/◌, ◌%◌, ◌^◌, ◌≤◌, ◌<◌}
use Rattle.std.proofs.Math.Nat.{div-eq_of_lt, mul-zero, mul-lt-mul_of_pos_left}
use Rattle.std.proofs.Math.Pow.{pow-add}
use Rattle.std.proofs.Math.IntN.{neg_ℤ}
use Rattle.std.proofs.Math.ListN.{length-map}
use Rattle.digits.specs.Integer.{signed_by}
use Rattle.digits.specs.Integer.Parts.{integers, negation}
use Rattle.digits.specs.Integer.Sign.{negated_size, signed_sum, signed_zero}
use Rattle.digits.specs.Row.{value, weight, none, odd, Over, empty, more}
use Rattle.digits.specs.Row.Sign.{plus_row, weight_signed}
use Rattle.digits.specs.Scalar.{bit_length}
use Rattle.digits.specs.Scalar.Length.{below_length}
use Rattle.forms.specs.Row.{row}
use Rattle.forms.proofs.Laws.Row.Fewest.{row_fewest}
use Rattle.forms.proofs.Laws.Row.Negated.{row_size}
use Rattle.forms.proofs.Laws.Row.Only.{row_zero}
use Rattle.down.specs.Down.{under, taken, window, places, trimmed, natural}
use Rattle.down.specs.Down as Down
use Rattle.down.specs.Down.Bits.{shifted, under_is, near}
use Rattle.down.proofs.Laws.Down.Places.{window_equal, places_length, places_over, places_value, places_weight}
use Rattle.down.proofs.Laws.Down.Trimmed.{trimmed_value, trimmed_weight, trimmed_over, trimmed_length, trimmed_top, trimmed_zero}
use Rattle.down.specs.Down.Unfold.{places_step}

-- ── natural numbers ─────────────────────────────────────────────────────────────────────────

-- equal bits take one place
pub taken_equal : (m u i : ℕ) → under u i 0 ≡ under u i 1 → taken m u i ≡ 1
unfolding taken
taken_equal m u i e = rw (eq-eqb (under u i 0) (under u i 1) e) refl

-- so they put a 0 above what is below
pub places_equal : (m u i : ℕ) → 1 ≤ m → under u i 0 ≡ under u i 1 → places m u (suc i) ≡ places m u i ++ (pos 0 ∷ [])
places_equal m u i h e =
    subst (λ (w : ℕ). places m u (suc i) ≡ places m u (suc i - w) ++ window u i w) (taken_equal m u i e) (places_step m u i h)
    ∙ ap₂ (λ (n : ℕ) (es : List ℤ). places m u n ++ es) (omega arith) (window_equal u i e)

-- above the top bit there is none
above_top : (u i j : ℕ) → bit_length u + j ≤ i → under u i j ≡ 0
unfolding shifted
above_top u i j l = under_is u i j ∙ ap (λ (x : ℕ). x % 2) (div-eq_of_lt below)
  where
    below : 2 ^ j * u < 2 ^ i
    below = omega (arith, mul-lt-mul_of_pos_left (below_length u) (pow_pos j), pow-add 2 j (bit_length u), pow_mono (room (bit_length u) l))
      where
        room : (b : ℕ) → b + j ≤ i → j + b ≤ i
        room b l = omega arith

module _ (m u : ℕ) (h : 1 ≤ m) where
  -- the place above the bit length has the digit 0
  pub natural_start : natural m u ≡ trimmed (places m u (bit_length u + 1))
  unfolding natural
  natural_start =
      ap trimmed (places_equal m u (bit_length u + 1) h (above_top u (bit_length u + 1) 0 (omega arith) ∙ sym (above_top u (bit_length u + 1) 1 (omega arith))))
      ∙ trimmed_zero (places m u (bit_length u + 1))

  -- so have all above it
  pub natural_from : (k : ℕ) → natural m u ≡ trimmed (places m u (bit_length u + 1 + k))
  natural_from zero = natural_start ∙ ap (λ (n : ℕ). trimmed (places m u n)) (omega arith)
  natural_from (suc k) =
      let i : ℕ = bit_length u + 1 + k in
      natural_from k
      ∙ sym (
      ap (λ (n : ℕ). trimmed (places m u n)) {x = bit_length u + 1 + suc k} {y = suc i} (omega arith)
      ∙ ap trimmed (places_equal m u i h (above_top u i 0 (omega arith) ∙ sym (above_top u i 1 (omega arith))))
      ∙ trimmed_zero (places m u i))

  all_value : value (places m u (bit_length u + 1)) ≡ pos u
  unfolding near
  all_value =
      let n : ℕ = bit_length u + 1 in
      let none : 2 * u / 2 ^ n ≡ 0 = div-eq_of_lt (omega (arith, below_length u, pow-add 2 (bit_length u) 1)) in
      omega (integers, places_value m u n h, ap (λ (x : ℕ). 2 ^ n * ((x + 1) / 2)) none, mul-zero (2 ^ n))

  natural_value : value (natural m u) ≡ pos u
  natural_value = ap value natural_start ∙ trimmed_value (places m u (bit_length u + 1)) ∙ all_value

  natural_over : Over m (natural m u)
  natural_over = subst (Over m) (sym natural_start) (trimmed_over (places_over m u (bit_length u + 1) h))

  natural_top : (i : ℕ) → length (natural m u) ≡ suc i → get_or (natural m u) i (pos 0) ≢ pos 0
  natural_top i = subst (λ (ds : List ℤ). length ds ≡ suc i → get_or ds i (pos 0) ≢ pos 0) (sym natural_start) (trimmed_top (places m u (bit_length u + 1)) i)

  natural_length : length (natural m u) ≤ bit_length u + 1
  natural_length =
      omega (arith, ap length natural_start, trimmed_length (places m u (bit_length u + 1)), places_length m u (bit_length u + 1) h)

  natural_weight : weight (natural m u) ≡ weight (row m (pos u))
  natural_weight =
      omega (
        arith,
        ap weight natural_start,
        trimmed_weight (places m u (bit_length u + 1)),
        places_weight m u (bit_length u + 1) h,
        ap (λ (z : ℤ). weight (row m z)) all_value,
        row_fewest m (pos u) (natural m u) h natural_over natural_value,
      )

-- ── either sign ─────────────────────────────────────────────────────────────────────────────

value_negated : (ds : List ℤ) → value (map neg_ℤ ds) ≡ neg_ℤ (value ds)
unfolding value
value_negated [] = refl
value_negated (d ∷ ds) =
    ap (λ (v : ℤ). neg_ℤ d +ℤ (v +ℤ v)) (value_negated ds)
    ∙ sym (signed_sum 1 d (value ds +ℤ value ds) ∙ ap (λ (v : ℤ). neg_ℤ d +ℤ v) (signed_sum 1 (value ds) (value ds)))

negated_twice : (ds : List ℤ) → map neg_ℤ (map neg_ℤ ds) ≡ ds
negated_twice [] = refl
negated_twice (d ∷ ds) = ap₂ ◌∷◌ (omega (integers, negation (neg_ℤ d), negation d)) (negated_twice ds)

over_negated : {m : ℕ} {ds : List ℤ} → Over m ds → Over m (map neg_ℤ ds)
over_negated empty = empty
over_negated (more none o) = more none (over_negated o)
over_negated {m} (more {d = d} (odd p l) o) = more (odd {d = neg_ℤ d} (rw (negated_size d) p) (rw (negated_size d) l)) (over_negated o)

top_negated : (ds : List ℤ) (i : ℕ) → get_or ds i (pos 0) ≢ pos 0 → get_or (map neg_ℤ ds) i (pos 0) ≢ pos 0
top_negated [] i n = n
top_negated (d ∷ ds) zero n = λ e. n (signed_zero 1 d e)
top_negated (d ∷ ds) (suc i) n = top_negated ds i n

-- a row without a digit that is not 0 has no top
empty_row : (ds : List ℤ) → weight ds ≡ 0 → ((i : ℕ) → length ds ≡ suc i → get_or ds i (pos 0) ≢ pos 0) → ds ≡ []
unfolding weight
empty_row [] e t = refl
empty_row (d ∷ ds) e t = absurd (t (length ds) refl (last d ds e))
  where
    last : (d : ℤ) (ds : List ℤ) → weight (d ∷ ds) ≡ 0 → get_or (d ∷ ds) (length ds) (pos 0) ≡ pos 0
    last (pos zero) [] e = refl
    last (pos (suc n)) [] e = absurd (omega arith)
    last (negsuc n) [] e = absurd (omega arith)
    last d (c ∷ ds) e = last c ds (omega arith)

module _ (m : ℕ) where
  -- it reads back to c
  pub down_value : (c : ℤ) → 1 ≤ m → value (Down.down m c) ≡ c
  unfolding Down.down
  down_value (pos n) h = natural_value m n h
  down_value (negsuc n) h = value_negated (natural m (suc n)) ∙ ap neg_ℤ (natural_value m (suc n) h)

  -- its digits are the window's
  pub down_digits : (c : ℤ) → 1 ≤ m → Over m (Down.down m c)
  unfolding Down.down
  down_digits (pos n) h = natural_over m n h
  down_digits (negsuc n) h = over_negated (natural_over m (suc n) h)

  -- its top digit is not 0
  pub down_top : (c : ℤ) → 1 ≤ m → (i : ℕ) → length (Down.down m c) ≡ suc i → get_or (Down.down m c) i (pos 0) ≢ pos 0
  unfolding Down.down
  down_top (pos n) h i l = natural_top m n h i l
  down_top (negsuc n) h i l = top_negated (natural m (suc n)) i (natural_top m (suc n) h i (sym (length-map (natural m (suc n)) neg_ℤ) ∙ l))

  -- it has at most a place more than c has bits
  pub down_length : (c : ℤ) → 1 ≤ m → length (Down.down m c) ≤ bit_length (nat_abs c) + 1
  unfolding Down.down
  down_length (pos n) h = natural_length m n h
  down_length (negsuc n) h = omega (arith, length-map (natural m (suc n)) neg_ℤ, natural_length m (suc n) h)

  -- as many of its digits are not 0 as of 01's row
  pub down_weight : (c : ℤ) → 1 ≤ m → weight (Down.down m c) ≡ weight (row m c)
  unfolding Down.down
  down_weight (pos n) h = natural_weight m n h
  down_weight (negsuc n) h = weight_signed 1 (natural m (suc n)) ∙ natural_weight m (suc n) h ∙ sym (row_size m (negsuc n) h).1

  -- so no row over the same digits has fewer
  pub down_fewest : (c : ℤ) (ds : List ℤ) → 1 ≤ m → Over m ds → value ds ≡ c → weight (Down.down m c) ≤ weight ds
  down_fewest c ds h o e = omega (arith, down_weight c h, row_fewest m c ds h o e)

  -- zero has the empty row
  pub down_zero : 1 ≤ m → Down.down m (pos 0) ≡ []
  unfolding weight
  down_zero h = empty_row (Down.down m (pos 0)) (down_weight (pos 0) h ∙ ap weight (row_zero m)) (down_top (pos 0) h)

  -- a sign negates every digit
  pub down_signed : (sign n : ℕ) → 1 ≤ m → Down.down m (signed_by sign (pos n)) ≡ map (signed_by sign) (natural m n)
  unfolding Down.down
  down_signed zero n h = sym (plus_row (natural m n))
  down_signed (suc s) zero h = down_zero h ∙ sym (ap (map neg_ℤ) (down_zero h))
  down_signed (suc s) (suc n) h = refl

  pub down_negates : (c : ℤ) → 1 ≤ m → Down.down m (neg_ℤ c) ≡ map neg_ℤ (Down.down m c)
  unfolding Down.down
  down_negates (pos n) h = down_signed 1 n h
  down_negates (negsuc n) h = sym (negated_twice (natural m (suc n)))

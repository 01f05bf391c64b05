-- The turns of the loop: the digits of the places left, followed by what stands in the buffer above them, are those of all places; and
-- the weight of what stands there.
use mathlib.Core.Path.{◌≡◌, refl, sym, ap, ap₂, ◌∙◌}
use mathlib.Core.List.{List, [], ◌∷◌, ◌++◌, map, map-append, append_assoc, append-nil}
use Prim.Native.Nat.{ℕ, zero, suc, ◌+◌, ◌-◌, ◌≤◌}
use native.Mathlib.Omega.{arith}
use lib.IntN.{ℤ, pos}
use lib.ListN.{length, set, replicate, length-append, length-map, length-replicate, replicate-append-replicate}
use lib.Seq.{set_at}
use Rattle.digits.specs.Byte.{byte_of}
use Rattle.digits.specs.Integer.{signed_by}
use Rattle.digits.specs.Row as Rows
use Rattle.digits.specs.Row.Sign.{weight_signed}
use Rattle.digits.specs.Row.Weight.{weight_append, weight_zeros, weight_most}
use Rattle.digits.specs.Scalar.{bit_length}
use Rattle.recode.specs.Call.{filled}
use Rattle.down.specs.Down.{places, trimmed, natural}
use Rattle.down.proofs.Laws.Down.Row.{natural_from}
use Rattle.down.proofs.Laws.Down.Trimmed.{trimmed_weight, trimmed_rest}
use Rattle.down.specs.Down.Unfold.{places_zero}
use Rattle.down.proofs.DigitPlaces.{alone}

-- ── digits and their bytes ──────────────────────────────────────────────────────────────────

-- the bytes of digits that are given a sign
abbrev pub bytes : ℕ → List ℤ → List ℕ
bytes sign ds = map byte_of (map (signed_by sign) ds)

bytes_append : (sign : ℕ) (ds es : List ℤ) → bytes sign (ds ++ es) ≡ bytes sign ds ++ bytes sign es
bytes_append sign ds es = ap (map byte_of) (map-append (signed_by sign) ds es) ∙ map-append byte_of (map (signed_by sign) ds) (map (signed_by sign) es)

zero_byte : (sign : ℕ) → byte_of (signed_by sign (pos 0)) ≡ 0
unfolding byte_of
zero_byte zero = refl
zero_byte (suc s) = refl

bytes_zeros : (sign k : ℕ) → bytes sign (replicate k (pos 0)) ≡ replicate k 0
bytes_zeros sign zero = refl
bytes_zeros sign (suc k) = ap₂ ◌∷◌ (zero_byte sign) (bytes_zeros sign k)

-- zeros, a digit and zeros
alone_length : (a : ℕ) (d : ℤ) (b : ℕ) → length (alone a d b) ≡ a + suc b
alone_length a d b = length-append (replicate a (pos 0)) (d ∷ replicate b (pos 0)) ∙ omega (arith, length-replicate a (pos 0), length-replicate b (pos 0))

alone_weight : (a : ℕ) (d : ℤ) (b : ℕ) → Rows.weight (alone a d b) ≡ Rows.count d
unfolding Rows.weight
alone_weight a d b = weight_append (replicate a (pos 0)) (d ∷ replicate b (pos 0)) ∙ omega (arith, weight_zeros a, weight_zeros b)

alone_bytes : (sign a : ℕ) (d : ℤ) (b : ℕ) → bytes sign (alone a d b) ≡ replicate a 0 ++ (byte_of (signed_by sign d) ∷ replicate b 0)
alone_bytes sign a d b =
    bytes_append sign (replicate a (pos 0)) (d ∷ replicate b (pos 0))
    ∙ ap₂ (λ (x y : List ℕ). x ++ (byte_of (signed_by sign d) ∷ y)) (bytes_zeros sign a) (bytes_zeros sign b)

-- its byte is stored among zeros
laid_digit : (sign n n' a : ℕ) (d : ℤ) (b place byte : ℕ) (upper : List ℤ) (out : List ℕ) → n ≡ n' + (a + suc b) → place ≡ n' + a → byte ≡ byte_of (signed_by sign d)
    → out ≡ replicate n 0 ++ bytes sign upper → set out place byte ≡ replicate n' 0 ++ bytes sign (alone a d b ++ upper)
laid_digit sign n n' a d b place byte upper out s there is laid =
    ap₂ (λ (x : List ℕ) (k : ℕ). set x k byte) (laid ∙ before) there
    ∙ set_at low 0 rest byte (n' + a) (length-replicate (n' + a) 0)
    ∙ sym (ap (λ (x : List ℕ). replicate n' 0 ++ x) (bytes_append sign (alone a d b) upper ∙ ap (λ (x : List ℕ). x ++ bytes sign upper) (alone_bytes sign a d b)) ∙ after)
  where
    low : List ℕ
    low = replicate (n' + a) 0

    rest : List ℕ
    rest = replicate b 0 ++ bytes sign upper

    before : replicate n 0 ++ bytes sign upper ≡ low ++ (0 ∷ rest)
    before =
        ap (λ (k : ℕ). replicate k 0 ++ bytes sign upper) {x = n} {y = n' + a + suc b} (omega arith)
        ∙ ap (λ (x : List ℕ). x ++ bytes sign upper) (sym (replicate-append-replicate (n' + a) (suc b) 0))
        ∙ append_assoc low (replicate (suc b) 0) (bytes sign upper)

    after : replicate n' 0 ++ ((replicate a 0 ++ (byte_of (signed_by sign d) ∷ replicate b 0)) ++ bytes sign upper) ≡ low ++ (byte ∷ rest)
    after =
        ap (λ (x : List ℕ). replicate n' 0 ++ x) (append_assoc (replicate a 0) (byte_of (signed_by sign d) ∷ replicate b 0) (bytes sign upper))
        ∙ sym (append_assoc (replicate n' 0) (replicate a 0) (byte_of (signed_by sign d) ∷ rest))
        ∙ ap₂ (λ (x : List ℕ) (y : ℕ). x ++ (y ∷ rest)) (replicate-append-replicate n' a 0) (sym is)

-- ── the turns ───────────────────────────────────────────────────────────────────────────────

-- n of P places are left, and the digits above them stand in the buffer, with their sign
pub record Turn (m u sign P : ℕ) (out : List ℕ) (n heavy : ℕ) : Type 0 where
  pub upper : List ℤ
  pub whole : places m u P ≡ places m u n ++ upper
  pub laid : out ≡ replicate n 0 ++ bytes sign upper
  pub size : n + length upper ≡ P
  pub weighs : heavy ≡ Rows.weight upper

module _ (m u sign P : ℕ) (some_window : 1 ≤ m) where
  pub start : (out : List ℕ) → out ≡ replicate P 0 → Turn m u sign P out P 0
  unfolding Rows.weight
  start out e =
      record {
        upper = [];
        whole = sym (append-nil (places m u P));
        laid = e ∙ sym (append-nil (replicate P 0));
        size = omega arith;
        weighs = refl;
      }

  module _ {out : List ℕ} {n heavy : ℕ} (t : Turn m u sign P out n heavy) where
    pub light : heavy + n ≤ P
    light = omega (arith, t.weighs, t.size, weight_most t.upper)

    pub out_length : length out ≡ P
    out_length =
        ap length t.laid ∙ length-append (replicate n 0) (bytes sign t.upper)
        ∙ omega (arith, length-replicate {A = ℕ} n 0, length-map (map (signed_by sign) t.upper) byte_of, length-map t.upper (signed_by sign), t.size)

    -- zeros are skipped
    pub skip : (n' z : ℕ) → n ≡ n' + z → places m u n ≡ places m u n' ++ replicate z (pos 0) → Turn m u sign P out n' heavy
    skip n' z s e =
        let zeros : List ℤ = replicate z (pos 0) in
        record {
          upper = zeros ++ t.upper;
          whole = t.whole ∙ ap (λ (l : List ℤ). l ++ t.upper) e ∙ append_assoc (places m u n') zeros t.upper;
          laid =
              t.laid
              ∙ ap (λ (l : List ℕ). l ++ bytes sign t.upper) (ap (λ (k : ℕ). replicate k 0) s ∙ sym (replicate-append-replicate n' z 0))
              ∙ append_assoc (replicate n' 0) (replicate z 0) (bytes sign t.upper)
              ∙ ap (λ (l : List ℕ). replicate n' 0 ++ l) (sym (bytes_append sign zeros t.upper ∙ ap (λ (l : List ℕ). l ++ bytes sign t.upper) (bytes_zeros sign z)));
          size = omega (arith, t.size, length-append zeros t.upper, length-replicate z (pos 0));
          weighs = omega (arith, t.weighs, weight_append zeros t.upper, weight_zeros z);
        }

    -- a digit is stored
    pub store : (n' a : ℕ) (d : ℤ) (b place byte : ℕ) → n ≡ n' + (a + suc b) → places m u n ≡ places m u n' ++ alone a d b → Rows.count d ≡ 1
        → place ≡ n' + a → byte ≡ byte_of (signed_by sign d) → Turn m u sign P (set out place byte) n' (heavy + 1)
    store n' a d b place byte s e one there is =
        record {
          upper = alone a d b ++ t.upper;
          whole = t.whole ∙ ap (λ (x : List ℤ). x ++ t.upper) e ∙ append_assoc (places m u n') (alone a d b) t.upper;
          laid = laid_digit sign n n' a d b place byte t.upper out s there is t.laid;
          size = omega (arith, t.size, length-append (alone a d b) t.upper, alone_length a d b);
          weighs = omega (arith, t.weighs, weight_append (alone a d b) t.upper, alone_weight a d b);
        }

-- where no place is left, the row is done
pub finish : (m u sign : ℕ) → 1 ≤ m → {out : List ℕ} {P heavy : ℕ} (out₀ : List ℕ) → length out₀ ≡ P → bit_length u + 1 ≤ P → Turn m u sign P out 0 heavy
    → (heavy ≡ Rows.weight (map (signed_by sign) (natural m u))) × (out ≡ filled (map (signed_by sign) (natural m u)) out₀)
finish m u sign h {out} {P} {heavy} out₀ e p t = (weight_is, buffer_is)
  where
    row : List ℤ
    row = natural m u

    is : row ≡ trimmed t.upper
    is =
        natural_from m u h (P - (bit_length u + 1))
        ∙ ap trimmed (ap (places m u) (omega arith) ∙ t.whole ∙ ap (λ (l : List ℤ). l ++ t.upper) (places_zero m u))

    weight_is : heavy ≡ Rows.weight (map (signed_by sign) row)
    weight_is = t.weighs ∙ sym (trimmed_weight t.upper) ∙ ap Rows.weight (sym is) ∙ sym (weight_signed sign row)

    rest : ℕ
    rest = length out₀ - length (map (signed_by sign) row)

    count_is : length t.upper - length (trimmed t.upper) ≡ rest
    count_is = omega (arith, t.size, e, ap length is, length-map row (signed_by sign))

    buffer_is : out ≡ filled (map (signed_by sign) row) out₀
    buffer_is =
        t.laid
        ∙ ap (bytes sign) (trimmed_rest t.upper ∙ ap₂ (λ (ds : List ℤ) (k : ℕ). ds ++ replicate k (pos 0)) (sym is) count_is)
        ∙ bytes_append sign row (replicate rest (pos 0))
        ∙ ap (λ (l : List ℕ). bytes sign row ++ l) (bytes_zeros sign rest)

-- The figures of a scalar, byte by byte: each byte puts its figures behind those of the bytes before it. From Numerals.
use mathlib.Core.Path.{◌≡◌, refl, sym, ap, subst, ◌∙◌}
use mathlib.Core.Bool.{Bool}
use mathlib.Core.List.{List, [], ◌∷◌, ◌++◌, reverse-append, append_assoc, append-nil}
use Prim.Native.Nat.{ℕ, zero, suc, ◌+◌, ◌*◌, ◌/◌, ◌%◌, ◌≤◌, ◌<◌}
use native.Mathlib.Numerals.{add-one}
use native.Mathlib.Omega.{arith}
use lib.Dec.{eqb}
use lib.ListN.{length, take, drop, get_or, length-append, take-append-drop}
use lib.Seq.{take-suc, take_all, get_or-drop}
use borrow.Author.Tests.{eq-eqb, ne_eqb}
use Rattle.digits.specs.Scalar.{Bytes}
use Rattle.digits.specs.Scalar.{little, scalar}
use Rattle.sheet.specs.Numeral.{figure, numeral}
use Rattle.sheet.specs.Numeral.Read.{numeral_some}
use Rattle.writer.specs.Body.Parts.{Put, Room, figures_of, byte_figures}
use Rattle.sheet.specs.Numeral.Figures.{numeral_low, numeral_high}
use Rattle.writer.proofs.Puts.{put_none, put_append, put_same, room_second}

-- one more byte
scalar_more : (s : List ℕ) (b : ℕ) → scalar (s ++ (b ∷ [])) ≡ b + 256 * scalar s
unfolding scalar little
scalar_more s b = ap little (reverse-append s (b ∷ []))

two_figures : (q b : ℕ) → 1 ≤ q → b < 256 → numeral 16 (b + 256 * q) ≡ numeral 16 q ++ (figure (b / 16) ∷ figure (b % 16) ∷ [])
two_figures q b h l =
    let n : ℕ = b + 256 * q in
    let e : n / 16 / 16 ≡ q = omega arith in
    let f : n / 16 % 16 ≡ b / 16 = omega arith in
    let g : n % 16 ≡ b % 16 = omega arith in
    numeral_high 16 (omega arith) n (omega arith)
    ∙ ap (λ (s : List ℕ). s ++ (figure (n % 16) ∷ [])) (numeral_high 16 (omega arith) (n / 16) (omega arith))
    ∙ append_assoc (numeral 16 (n / 16 / 16)) (figure (n / 16 % 16) ∷ []) (figure (n % 16) ∷ [])
    ∙ rw (e, f, g)

figures_of_lem : (n : ℕ) → 1 ≤ n → figures_of n ≡ numeral 16 n
figures_of_lem zero h = absurd (omega arith)
figures_of_lem (suc n) h = refl

byte_behind : (q b : ℕ) → b < 256 → figures_of (b + 256 * q) ≡ figures_of q ++ byte_figures (eqb q 0) b
byte_behind zero b l = let e : b + 256 * 0 ≡ b = omega arith in ap figures_of e
byte_behind (suc q) b l =
    figures_of_lem (b + 256 * suc q) (omega arith) ∙ two_figures (suc q) b (omega arith) l
    ∙ sym (ap (λ (t : Bool). numeral 16 (suc q) ++ byte_figures t b) (ne_eqb (suc q) 0 (omega arith)))

-- the figures only grow
figures_grow : (t s : List ℕ) → Bytes t → length (figures_of (scalar s)) ≤ length (figures_of (scalar (s ++ t)))
figures_grow [] s h = rw (append-nil s) (omega arith)
figures_grow (b ∷ t) s h =
    let more : length (figures_of (scalar (s ++ (b ∷ [])))) ≤ length (figures_of (scalar (s ++ b ∷ t))) =
    subst (λ (x : List ℕ). length (figures_of (scalar (s ++ (b ∷ [])))) ≤ length (figures_of (scalar x))) (append_assoc s (b ∷ []) t)
    (figures_grow t (s ++ (b ∷ [])) (λ i. h (suc i)))
    in
    omega (
      arith,
      ap (λ (n : ℕ). length (figures_of n)) (scalar_more s b),
      ap length (byte_behind (scalar s) b (h 0)),
      length-append (figures_of (scalar s)) (byte_figures (eqb (scalar s) 0) b),
    )

-- ── the loop over the bytes ─────────────────────────────────────────────────────────────────

figures_below : (n : ℕ) → length (figures_of n) ≤ length (numeral 16 n)
figures_below zero = omega arith
figures_below (suc n) = omega arith

-- the figures of the first i bytes have been put
abbrev pub Scanned : List ℕ → List ℕ → ℕ → List ℕ → ℕ → ℕ → Type 0
Scanned bytes out₀ at out next i = (i ≤ length bytes) × Put out₀ out at next (figures_of (scalar (take i bytes)))

module _ (bytes out₀ : List ℕ) (at : ℕ) where
  pub scan_start : Scanned bytes out₀ at out₀ at 0
  unfolding scalar little
  scan_start = (omega arith, put_none out₀ at)

  module _ {out : List ℕ} {next i : ℕ} (s : Scanned bytes out₀ at out next i) where
    pub scan_first : eqb next at ≡ eqb (scalar (take i bytes)) 0
    scan_first = go (scalar (take i bytes)) refl
      where
        go : (q : ℕ) → scalar (take i bytes) ≡ q → eqb next at ≡ eqb q 0
        go zero e = eq-eqb next at (omega (arith, s.1.behind, ap (λ (n : ℕ). length (figures_of n)) e))
        go (suc q) e =
            ne_eqb next at (λ f. omega (arith, s.1.behind, ap (λ (n : ℕ). length (figures_of n)) e, numeral_some 16 (omega arith) (omega arith) (suc q)))
            ∙ sym (ne_eqb (suc q) 0 (omega arith))

    module _ (are : Bytes bytes) (inside : i < length bytes) where
      next_scalar : scalar (take (i + 1) bytes) ≡ get_or bytes i 0 + 256 * scalar (take i bytes)
      next_scalar =
          ap scalar (ap (λ (n : ℕ). take n bytes) (add-one i) ∙ take-suc bytes i 0 inside) ∙ scalar_more (take i bytes) (get_or bytes i 0)

      next_figures : figures_of (scalar (take i bytes)) ++ byte_figures (eqb next at) (get_or bytes i 0) ≡ figures_of (scalar (take (i + 1) bytes))
      next_figures =
          ap (λ (t : Bool). figures_of (scalar (take i bytes)) ++ byte_figures t (get_or bytes i 0)) scan_first
          ∙ sym (ap figures_of next_scalar ∙ byte_behind (scalar (take i bytes)) (get_or bytes i 0) (are i))

      pub scan_room : Room out₀ at (numeral 16 (scalar bytes)) → Room out next (byte_figures (eqb next at) (get_or bytes i 0))
      scan_room r =
          let grow : length (figures_of (scalar (take (i + 1) bytes))) ≤ length (figures_of (scalar bytes)) =
          subst (λ (x : List ℕ). length (figures_of (scalar (take (i + 1) bytes))) ≤ length (figures_of (scalar x))) (take-append-drop (i + 1) bytes)
          (figures_grow (drop (i + 1) bytes) (take (i + 1) bytes) (λ j. rw (get_or-drop (i + 1) bytes j 0) (are (i + 1 + j))))
          in
          room_second s.1 (byte_figures (eqb next at) (get_or bytes i 0))
          (record { fits = omega (arith, r.fits, figures_below (scalar bytes), ap length next_figures) })

      pub scan_turn : {out' : List ℕ} {next' : ℕ} → Put out out' next next' (byte_figures (eqb next at) (get_or bytes i 0)) → Scanned bytes out₀ at out' next' (i + 1)
      scan_turn p = (omega arith, put_same next_figures (put_append s.1 p))

    module _ (ended : length bytes ≤ i) where
      whole : Put out₀ out at next (figures_of (scalar bytes))
      whole = put_same (ap (λ (x : List ℕ). figures_of (scalar x)) (take_all i bytes ended)) s.1

      -- nothing was put: the scalar is zero
      pub scan_zero : next ≡ at → {out' : List ℕ} {next' : ℕ} → Put out out' at next' (48 ∷ []) → Put out₀ out' at next' (numeral 16 (scalar bytes))
      scan_zero e {out'} {next'} p = go (scalar bytes) refl
        where
          go : (n : ℕ) → scalar bytes ≡ n → Put out₀ out' at next' (numeral 16 (scalar bytes))
          go zero f =
              put_same (sym (ap (numeral 16) f ∙ numeral_low 16 (omega arith) 0 (omega arith)))
              (put_append (subst (λ (k : ℕ). Put out₀ out at k []) e (put_same (ap figures_of f) whole)) p)
          go (suc n) f =
              absurd (omega (arith, whole.behind, ap (λ (k : ℕ). length (figures_of k)) f, numeral_some 16 (omega arith) (omega arith) (suc n)))

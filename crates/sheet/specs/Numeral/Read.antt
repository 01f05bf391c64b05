-- A numeral is read as the number that it spells, and what is read as a number is its numeral. Assumes nothing.
use Rattle.std.specs.Prelude.{◌≡◌, ◌≢◌, Bool, true, false, ◌&&◌, cond, eqb, ltb, length}
use Rattle.std.proofs.Math.Path.{refl, subst}
use Rattle.std.proofs.Common.{sym, ap, ap₂, ◌∙◌, mod-lt, div-add-mod', div-lt_iff_lt-mul, le-div_iff_mul-le, pow-suc, mul-le-mul_right, length-append}
use Rattle.std.proofs.Math.Bool.{not, and-eq-true_iff}
use mathlib.Core.List.{List, [], ◌∷◌, ◌++◌, append-nil, append_assoc}
use Rattle.std.proofs.Math.Option.{none, some}
use Prim.Native.Nat.{ℕ, zero, suc, ◌+◌, ◌*◌, ◌-◌, ◌/◌, ◌%◌, ◌^◌, ◌≤◌, ◌<◌}
use Rattle.std.proofs.Math.Nat.{div-lt_self, pow-zero, one-le-mul}
use native.Mathlib.Omega.{arith}
use Rattle.std.proofs.Math.Arith.{digits_div, digits_mod}
use Rattle.std.proofs.Math.Dec.{leb}
use borrow.Author.Tests.{lt-ltb, le-ltb, le-leb, lt-leb, ne_eqb, ltb-true, ltb-false, leb-true, eqb-false, not-true}
use Rattle.sheet.specs.Numeral.{figure, worth, numeral_in, numeral, figures, padded, followed, number}
use Rattle.sheet.specs.Numeral.Figures.{in_low, in_high}

-- a figure is read as itself
worth_low : (d : ℕ) → d < 10 → worth (48 + d) ≡ d
worth_low d h =
    rw (le-leb 48 (48 + d) (omega arith), le-leb (48 + d) 57 (omega arith)) (omega arith)

worth_high : (d : ℕ) → 10 ≤ d → d < 16 → worth (87 + d) ≡ d
worth_high d h l =
    rw (le-leb 48 (87 + d) (omega arith), lt-leb (87 + d) 57 (omega arith), le-leb 97 (87 + d) (omega arith), le-leb (87 + d) 102 (omega arith))
    (omega arith)

worth_figure : (d : ℕ) → d < 16 → worth (figure d) ≡ d
worth_figure d h = go (ltb d 10) refl
  where
    go : (b : Bool) → ltb d 10 ≡ b → worth (cond b (48 + d) (87 + d)) ≡ d
    go true e = worth_low d (ltb-true d 10 e)
    go false e = worth_high d (ltb-false d 10 e) h

-- a byte that is a figure is that figure's byte
figure_worth : (c : ℕ) → worth c < 16 → figure (worth c) ≡ c
figure_worth c h = low (leb 48 c && leb c 57) refl h
  where
    high : (b : Bool) → (leb 97 c && leb c 102) ≡ b → cond b (c - 87) 16 < 16 → figure (cond b (c - 87) 16) ≡ c
    high true e l =
        let (x, y) = (and-eq-true_iff (leb 97 c) (leb c 102)).0 e in
        let x' : 97 ≤ c = leb-true 97 c x in
        rw (le-ltb (c - 87) 10 (omega arith)) (omega arith)
    high false e l = absurd (omega arith)

    low : (b : Bool) → (leb 48 c && leb c 57) ≡ b → cond b (c - 48) (cond (leb 97 c && leb c 102) (c - 87) 16) < 16
        → figure (cond b (c - 48) (cond (leb 97 c && leb c 102) (c - 87) 16)) ≡ c
    low true e l =
        let (x, y) = (and-eq-true_iff (leb 48 c) (leb c 57)).0 e in
        let x' : 48 ≤ c = leb-true 48 c x in
        let y' : c ≤ 57 = leb-true c 57 y in
        rw (lt-ltb (c - 48) 10 (omega arith)) (omega arith)
    low false e l = high (leb 97 c && leb c 102) refl l

figure_not_zero : (d : ℕ) → 1 ≤ d → figure d ≢ 48
figure_not_zero d h = go (ltb d 10)
  where
    go : (b : Bool) → cond b (48 + d) (87 + d) ≢ 48
    go true = omega arith
    go false = omega arith

chosen : (b : Bool) (x n : ℕ) → cond b (some x) none ≡ some n → (b ≡ true) × (x ≡ n)
chosen true x n e = (refl, cc)
chosen false x n e = let z : ◌≡◌ {A = ℕ} 0 1 = cc in absurd (omega arith)

-- the first byte is a zero
abbrev zero_first : List ℕ → Bool
zero_first [] = false
zero_first (c ∷ s) = eqb c 48

zero_first_append : (s t : List ℕ) → 1 ≤ length s → zero_first (s ++ t) ≡ zero_first s
zero_first_append [] t h = absurd (omega arith)
zero_first_append (c ∷ s) t h = refl

padded_not : (s : List ℕ) → zero_first s ≡ false → padded s ≡ false
padded_not [] e = refl
padded_not (c ∷ []) e = refl
padded_not (c ∷ d ∷ s) e = e

figures_snoc : (base : ℕ) (s : List ℕ) (c : ℕ) → figures base s ≡ true → worth c < base → figures base (s ++ (c ∷ [])) ≡ true
unfolding figures
figures_snoc base [] c e h = rw (lt-ltb (worth c) base h)
figures_snoc base (x ∷ s) c e h =
    let (first, others) = (and-eq-true_iff (ltb (worth x) base) (figures base s)).0 e in
    rw (first, figures_snoc base s c others h)

followed_snoc : (base n : ℕ) (s : List ℕ) (c : ℕ) → followed base n (s ++ (c ∷ [])) ≡ followed base n s * base + worth c
unfolding followed
followed_snoc base n [] c = refl
followed_snoc base n (x ∷ s) c = followed_snoc base (n * base + worth x) s c

module _ (base : ℕ) (low : 2 ≤ base) (high : base ≤ 16) where
  -- s spells n: one figure, or those of a number that is not 0 and one more
  data Spells : ℕ → List ℕ → Type 0 where
    one : {d : ℕ} → d < base → Spells d (figure d ∷ [])
    more : {q r n : ℕ} {s : List ℕ} → 1 ≤ q → r < base → n ≡ q * base + r → Spells q s → Spells n (s ++ (figure r ∷ []))

  spells_in : (f n : ℕ) → n < f → Spells n (numeral_in f base n)
  spells_in zero n h = absurd (omega arith)
  spells_in (suc f) n h = go (ltb n base) refl (λ l. spells_in f (n / base) l)
    where
      go : (b : Bool) → ltb n base ≡ b → (n / base < f → Spells (n / base) (numeral_in f base (n / base))) → Spells n (numeral_in (suc f) base n)
      go true e r = rw (in_low base low f n (ltb-true n base e)) (one (ltb-true n base e))
      go false e r =
          let m : base ≤ n = ltb-false n base e in
          let d : n / base < n = div-lt_self (omega arith) (omega arith) in
          rw (in_high base low f n m)
          (more ((le-div_iff_mul-le {k = base} {x = 1} {y = n} (omega arith)).1 (omega arith)) (mod-lt n (omega arith)) (sym (div-add-mod' n base)) (r (omega arith)))

  spells : (n : ℕ) → Spells n (numeral base n)
  unfolding numeral
  spells n = spells_in (suc n) n (omega arith)

  spells_figures : {n : ℕ} {s : List ℕ} → Spells n s → figures base s ≡ true
  spells_figures (one {d} h) =
      let w : worth (figure d) < base = omega (arith, worth_figure d (omega arith)) in
      unfold figures in rw (lt-ltb (worth (figure d)) base w)
  spells_figures (more {q} {r} {n} {s} p h e t) =
      figures_snoc base s (figure r) (spells_figures t) (omega (arith, worth_figure r (omega arith)))

  spells_value : {n : ℕ} {s : List ℕ} → Spells n s → followed base 0 s ≡ n
  spells_value (one {d} h) = unfold followed in omega (arith, worth_figure d (omega arith))
  spells_value (more {q} {r} {n} {s} p h e t) =
      rw (followed_snoc base 0 s (figure r), spells_value t, worth_figure r (omega arith)) (sym e)

  spells_some : {n : ℕ} {s : List ℕ} → Spells n s → 1 ≤ length s
  spells_some (one h) = omega arith
  spells_some (more {r = r} {s = s} p h e t) = omega (arith, length-append s (figure r ∷ []))

  spells_first : {n : ℕ} {s : List ℕ} → Spells n s → 1 ≤ n → zero_first s ≡ false
  spells_first (one {d} h) l = ne_eqb (figure d) 48 (figure_not_zero d l)
  spells_first (more {q} {r} {n} {s} p h e t) l =
      zero_first_append s (figure r ∷ []) (spells_some t) ∙ spells_first t p

  spells_unpadded : {n : ℕ} {s : List ℕ} → Spells n s → padded s ≡ false
  spells_unpadded (one h) = refl
  spells_unpadded (more {q} {r} {n} {s} p h e t) =
      padded_not (s ++ (figure r ∷ [])) (zero_first_append s (figure r ∷ []) (spells_some t) ∙ spells_first t p)

  spells_length : {n : ℕ} {s : List ℕ} → Spells n s → (m : ℕ) → n < base ^ suc m → length s ≤ suc m
  spells_length (one h) m l = omega arith
  spells_length (more {q} {r} {n} {s} p h e t) m l = go m (below m l) (λ k b. spells_length t k b)
    where
      below : (k : ℕ) → n < base ^ suc k → q < base ^ k
      below k b =
          let d : n / base < base ^ k = (div-lt_iff_lt-mul {k = base} (omega arith)).1 (rw (pow-suc base k) at b) in
          omega (arith, ap (λ (x : ℕ). x / base) e, digits_div q h)

      go : (k : ℕ) → q < base ^ k → ((i : ℕ) → q < base ^ suc i → length s ≤ suc i) → length (s ++ (figure r ∷ [])) ≤ suc k
      go zero b f = absurd (omega (arith, pow-zero base))
      go (suc k) b f = omega (arith, length-append s (figure r ∷ []), f k b)

  read : (m n : ℕ) → n < base ^ suc m → number base (suc m) (numeral base n) ≡ some n
  unfolding number
  read m n h =
      let s : Spells n (numeral base n) = spells n in
      rw (
        le-leb 1 (length (numeral base n)) (spells_some s),
        le-leb (length (numeral base n)) (suc m) (spells_length s m h),
        spells_unpadded s,
        spells_figures s,
        spells_value s,
      )

  -- a numeral is read as the number that it spells
  pub number_numeral : (most n : ℕ) → 1 ≤ most → n < base ^ most → number base most (numeral base n) ≡ some n
  number_numeral zero n l h = absurd (omega arith)
  number_numeral (suc m) n l h = read m n h

  -- it has a figure, and nothing but figures
  pub numeral_some : (n : ℕ) → 1 ≤ length (numeral base n)
  numeral_some n = spells_some (spells n)

  pub numeral_figures : (n : ℕ) → figures base (numeral base n) ≡ true
  numeral_figures n = spells_figures (spells n)

  -- figures behind those of a number that is not 0
  spells_behind : (q : ℕ) (u : List ℕ) → Spells q u → 1 ≤ q → (s : List ℕ) → figures base s ≡ true → Spells (followed base q s) (u ++ s)
  unfolding followed figures
  spells_behind q u x h [] e = rw (append-nil u) x
  spells_behind q u x h (c ∷ s) e =
      let (first, others) = (and-eq-true_iff (ltb (worth c) base) (figures base s)).0 e in
      let l : worth c < base = ltb-true (worth c) base first in
      let y : Spells (q * base + worth c) (u ++ (c ∷ [])) =
      subst (λ (d : ℕ). Spells (q * base + worth c) (u ++ (d ∷ []))) (figure_worth c (omega arith)) (more h l refl x) in
      subst (Spells (followed base (q * base + worth c) s)) (append_assoc u (c ∷ []) s)
      (spells_behind (q * base + worth c) (u ++ (c ∷ [])) y (omega (arith, one-le-mul {a = q} {b = base} h (omega arith))) s others)

  spells_of : (s : List ℕ) → 1 ≤ length s → padded s ≡ false → figures base s ≡ true → Spells (followed base 0 s) s
  unfolding followed figures
  spells_of [] h p e = absurd (omega arith)
  spells_of (c ∷ []) h p e =
      let (first, others) = (and-eq-true_iff (ltb (worth c) base) true).0 e in
      let l : worth c < base = ltb-true (worth c) base first in
      let z : 0 * base + worth c ≡ worth c = omega arith in
      subst (λ (n : ℕ). Spells n (c ∷ [])) (sym z)
      (subst (λ (d : ℕ). Spells (worth c) (d ∷ [])) (figure_worth c (omega arith)) (one l))
  spells_of (c ∷ d ∷ s) h p e =
      let (first, others) = (and-eq-true_iff (ltb (worth c) base) (figures base (d ∷ s))).0 e in
      let l : worth c < base = ltb-true (worth c) base first in
      let z : worth c ≡ 0 * base + worth c = omega arith in
      let f : figure (worth c) ≡ c = figure_worth c (omega arith) in
      subst (λ (n : ℕ). Spells (followed base n (d ∷ s)) (c ∷ d ∷ s)) z
      (spells_behind (worth c) (c ∷ []) (subst (λ (x : ℕ). Spells (worth c) (x ∷ [])) f (one l)) (not_zero f) (d ∷ s) others)
    where
      not_zero : figure (worth c) ≡ c → 1 ≤ worth c
      not_zero f = go (worth c) f
        where
          go : (w : ℕ) → figure w ≡ c → 1 ≤ w
          go zero g = absurd (eqb-false c 48 p (sym g))
          go (suc w) g = omega arith

  -- a number is spelled in one way
  spells_only : (n m : ℕ) (s t : List ℕ) → Spells n s → Spells m t → n ≡ m → s ≡ t
  spells_only n m s t (one {d} h) (one {d = d'} h') e = ap (λ (x : ℕ). figure x ∷ []) e
  spells_only n m s t (one {d} h) (more {q} {r} p h' e' x) e = absurd (omega (arith, mul-le-mul_right {m = 1} {n = q} base p))
  spells_only n m s t (more {q} {r} p h e' x) (one {d} h') e = absurd (omega (arith, mul-le-mul_right {m = 1} {n = q} base p))
  spells_only n m s t (more {q} {r} {s = a} p h e x) (more {q = q'} {r = r'} {s = a'} p' h' e' x') f =
      let g : q * base + r ≡ q' * base + r' = sym e ∙ f ∙ e' in
      let u : q ≡ q' = sym (digits_div q h) ∙ ap (λ (y : ℕ). y / base) g ∙ digits_div q' h' in
      let v : r ≡ r' = sym (digits_mod q h) ∙ ap (λ (y : ℕ). y % base) g ∙ digits_mod q' h' in
      ap₂ (λ (y : List ℕ) (z : ℕ). y ++ (figure z ∷ [])) (spells_only q q' a a' x x' u) v

  -- what is read as a number is its numeral
  pub numeral_number : (most n : ℕ) (s : List ℕ) → number base most s ≡ some n → numeral base n ≡ s
  unfolding number
  numeral_number most n s e =
      let (tests, v) = chosen (leb 1 (length s) && leb (length s) most && not (padded s) && figures base s) (followed base 0 s) n e in
      let (abc, d) = (and-eq-true_iff (leb 1 (length s) && leb (length s) most && not (padded s)) (figures base s)).0 tests in
      let (ab, c) = (and-eq-true_iff (leb 1 (length s) && leb (length s) most) (not (padded s))).0 abc in
      let (a, b) = (and-eq-true_iff (leb 1 (length s)) (leb (length s) most)).0 ab in
      spells_only n (followed base 0 s) (numeral base n) s (spells n)
      (spells_of s (leb-true 1 (length s) a) (not-true (padded s) c) d)
      (sym v)

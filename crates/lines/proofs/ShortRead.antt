-- What is read at a place by its figures is spelled there, and a letter with two digits begins a line.
use mathlib.Core.Path.{◌≡◌, refl, sym, ap, ◌∙◌}
use mathlib.Core.Logic.{◌≢◌, ◌⊎◌, inl, inr}
use mathlib.Core.Bool.{Bool, true, false, not, ◌&&◌, ◌||◌, cond, or-true}
use mathlib.Core.List.{List, [], ◌∷◌, ◌++◌, append_assoc}
use mathlib.Core.Option.{some}
use Prim.Native.Nat.{ℕ, zero, suc, ◌+◌, ◌*◌, ◌/◌, ◌%◌, ◌≤◌, ◌<◌, min}
use native.Mathlib.Numerals.{add-one}
use native.Mathlib.Omega.{arith}
use lib.Dec.{eqb, ltb}
use lib.IntN.{ℤ, pos, negsuc, nat_abs}
use lib.ListN.{length, get_or, drop, length-drop}
use Rattle.std.proofs.Common.{get_or-drop}
use lib.Seq.{drop-cons}
use borrow.Author.Tests.{eqb-true, ltb-true, ltb-false, lt-ltb, le-leb, eq-eqb, ne_eqb}
use Rattle.digits.specs.declared.limits.Limits.{Limits}
use Rattle.sheet.specs.Plan.{Point, point}
use Rattle.sheet.specs.Spelling.{line_feed, comma, digit, fields, join}
use Rattle.sheet.specs.Spelling.Spelled.{Short, ShortPoint}
use Rattle.sheet.specs.Line.{table, load, add, misspelled}
use Rattle.sheet.specs.Numeral.{figure, worth, numeral, number}
use Rattle.sheet.specs.Numeral.Figures.{numeral_low, numeral_high}
use Rattle.sheet.specs.Numeral.Below.{number_below}
use Rattle.sheet.specs.Numeral.Read.{numeral_number}
use Rattle.lines.specs.Coded.{pointed}
use Rattle.lines.specs.Short.{Spells, Begins, Fitting}
use Rattle.lines.specs.declared.point.Signed.{Signed}
use Rattle.lines.proofs.PointRead.{one_is, two_are}

-- the byte at a place
byte : (s : List ℕ) (i : ℕ) → i < length s → drop i s ≡ get_or s i 0 ∷ drop (i + 1) s
byte s i l = rw add-one (drop-cons s i 0 l)

byte_is : (s : List ℕ) (i b : ℕ) → i < length s → get_or s i 0 ≡ b → drop i s ≡ b ∷ drop (i + 1) s
byte_is s i b l e = byte s i l ∙ ap (λ (c : ℕ). c ∷ drop (i + 1) s) e

-- the byte that a rest of s begins with, and what stands behind it
at_byte : (s : List ℕ) (i b : ℕ) (t : List ℕ) → drop i s ≡ b ∷ t → (get_or s i 0 ≡ b) × (drop (i + 1) s ≡ t)
at_byte s i b t e =
    let l : i < length s = omega (arith, length-drop i s, ap length e) in
    let whole : get_or s i 0 ∷ drop (i + 1) s ≡ b ∷ t = sym (byte s i l) ∙ e in
    (cc, cc)

-- ── a digit at a place ──────────────────────────────────────────────────────────────────────

-- the bytes of s from one place to another are n in one or two figures
record Figures (s : List ℕ) (from end n : ℕ) : Type 0 where
  small : n < 100
  bytes : drop from s ≡ numeral 10 n ++ drop end s

-- from what the figures are read as
figures_of_lem : (s f : List ℕ) (from end n : ℕ) → number 10 2 f ≡ some n → drop from s ≡ f ++ drop end s → Figures s from end n
figures_of_lem s f from end n v e =
    record {
      small = number_below 10 2 n f (omega arith) v;
      bytes = e ∙ ap (λ (l : List ℕ). l ++ drop end s) (sym (numeral_number 10 (omega arith) (omega arith) 2 n f v));
    }

-- with a minus before them, or none
signs : (s : List ℕ) (at from end size : ℕ) (negative : Bool) → at < length s → eqb (get_or s at 0) 45 ≡ negative → (negative ≡ true → size ≢ 0)
    → from ≡ cond negative (at + 1) at → Figures s from end size → Spells s at end (record { negative = negative; size = size })
signs s at from end size false h t n i f =
    record { z = pos size; is = refl; short = f.small; bytes = ap (λ (k : ℕ). drop k s) (sym i) ∙ f.bytes }
signs s at from end zero true h t n i f = absurd (n refl refl)
signs s at from end (suc m) true h t n i f =
    record {
      z = negsuc m;
      is = refl;
      short = f.small;
      bytes = byte s at h ∙ rw (eqb-true (get_or s at 0) 45 t, ← i) (ap (λ (l : List ℕ). 45 ∷ l) f.bytes);
    }

-- a place, or the one behind it
pub moved : (b : Bool) (n m : ℕ) → m ≡ cond b (n + 1) n → (n ≤ m) × (m ≤ n + 1)
moved true n m e = (omega arith, omega arith)
moved false n m e = (omega arith, omega arith)

-- a 0 stands alone
alone : (n : ℕ) (negative two : Bool) → (not (eqb n 0) || not (negative || two)) ≡ true → (negative || two) ≡ true → n ≢ 0
alone zero negative two e f = let z : ◌≡◌ {A = ℕ} 0 1 = cc in absurd (omega arith)
alone (suc n) negative two e f = omega arith

-- what `digit_at` has read
module _ (s : List ℕ) (at from first second size end : ℕ) (h : at + 3 ≤ length s)
    (a : first ≡ min (worth (get_or s from 0)) 10) (b : second ≡ min (worth (get_or s (from + 1) 0)) 10) (low : first < 10) where
  figures : (two : Bool) → from + 1 < length s → ltb second 10 ≡ two → (two ≡ true → first ≢ 0)
      → size ≡ cond two (10 * first + second) first → end ≡ cond two (from + 1 + 1) (from + 1) → Figures s from end size
  figures true l t n i j =
      let w : worth (get_or s from 0) ≡ first = omega arith in
      figures_of_lem s (get_or s from 0 ∷ get_or s (from + 1) 0 ∷ []) from end size
      (two_are _ _ (λ e. n refl (sym w ∙ ap worth e)) (omega arith) (omega (arith, ltb-true second 10 t)) ∙ ap some (omega (arith, ltb-true second 10 t)))
      (byte s from (omega arith) ∙ rw (byte s (from + 1) l, ← j))
  figures false l t n i j =
      let w : worth (get_or s from 0) ≡ size = omega arith in
      figures_of_lem s (get_or s from 0 ∷ []) from end size (one_is (get_or s from 0) (omega arith) ∙ ap some w)
      (byte s from (omega arith) ∙ rw (← j))

  size_some : (two : Bool) → size ≡ cond two (10 * first + second) first → first ≢ 0 → size ≢ 0
  size_some true i n e = n (omega arith)
  size_some false i n e = n (omega arith)

  pub spelled : (negative two : Bool) → eqb (get_or s at 0) 45 ≡ negative → ltb second 10 ≡ two → (not (eqb first 0) || not (negative || two)) ≡ true
      → from ≡ cond negative (at + 1) at → size ≡ cond two (10 * first + second) first → end ≡ cond two (from + 1 + 1) (from + 1)
      → Spells s at end (record { negative = negative; size = size })
  spelled negative two t u z i j k =
      let (least, most) = moved negative at from i in
      signs s at from end size negative (omega arith) t (λ e. size_some two j (alone first negative two z (rw e))) i
      (figures two (omega arith) u (λ e. alone first negative two z (rw (e, or-true))) j k)

-- ── the digit that is there fits ────────────────────────────────────────────────────────────

worth_figure : (d : ℕ) → d < 10 → worth (figure d) ≡ d
worth_figure d h = rw (lt-ltb d 10 h, le-leb 48 (48 + d) (omega arith), le-leb (48 + d) 57 (omega arith)) (omega arith)

-- a number below 100 has one figure or two
numerals : (n : ℕ) → n < 100
    → ((n < 10) × (numeral 10 n ≡ figure n ∷ [])) ⊎ ((10 ≤ n) × (numeral 10 n ≡ figure (n / 10) ∷ figure (n % 10) ∷ []))
numerals n h = go (ltb n 10) refl
  where
    go : (b : Bool) → ltb n 10 ≡ b → ((n < 10) × (numeral 10 n ≡ figure n ∷ [])) ⊎ ((10 ≤ n) × (numeral 10 n ≡ figure (n / 10) ∷ figure (n % 10) ∷ []))
    go true e = let l : n < 10 = ltb-true n 10 e in inl (l, numeral_low 10 (omega arith) n l)
    go false e =
        let m : 10 ≤ n = ltb-false n 10 e in
        inr (m, numeral_high 10 (omega arith) n m ∙ ap (λ (f : List ℕ). f ++ (figure (n % 10) ∷ [])) (numeral_low 10 (omega arith) (n / 10) (omega arith)))

figure_first : (n : ℕ) → n < 100 → (t : List ℕ) → (get_or (numeral 10 n ++ t) 0 0 ≢ 45)
figure_first n h t = go (numerals n h)
  where
    no_minus : (d : ℕ) → d < 10 → figure d ≢ 45
    no_minus d l = rw (lt-ltb d 10 l) (λ e. absurd (omega (arith, e)))

    go : ((n < 10) × (numeral 10 n ≡ figure n ∷ [])) ⊎ ((10 ≤ n) × (numeral 10 n ≡ figure (n / 10) ∷ figure (n % 10) ∷ [])) → get_or (numeral 10 n ++ t) 0 0 ≢ 45
    go (inl (l, e)) = rw e (no_minus n l)
    go (inr (m, e)) = rw e (no_minus (n / 10) (omega arith))

-- a 0 may stand alone
may_stand : (n : ℕ) (negative : Bool) → (negative ≡ true → n ≢ 0) → (not (eqb n 0) || not (negative || false)) ≡ true
may_stand zero true h = absurd (h refl refl)
may_stand zero false h = refl
may_stand (suc n) negative h = rw (ne_eqb (suc n) 0 (omega arith))

module _ (s : List ℕ) (from first second end c : ℕ) (rest : List ℕ)
    (a : first ≡ min (worth (get_or s from 0)) 10) (b : second ≡ min (worth (get_or s (from + 1) 0)) 10)
    (k : end ≡ cond (ltb second 10) (from + 1 + 1) (from + 1)) (w : 10 ≤ worth c) where
  taken : (n : ℕ) (negative : Bool) → n < 100 → (negative ≡ true → n ≢ 0) → drop from s ≡ numeral 10 n ++ c ∷ rest
      → ((ltb first 10 && (not (eqb first 0) || not (negative || ltb second 10))) ≡ true) × (drop end s ≡ c ∷ rest)
  taken n negative h allowed d = go (numerals n h)
    where
      go : ((n < 10) × (numeral 10 n ≡ figure n ∷ [])) ⊎ ((10 ≤ n) × (numeral 10 n ≡ figure (n / 10) ∷ figure (n % 10) ∷ []))
          → ((ltb first 10 && (not (eqb first 0) || not (negative || ltb second 10))) ≡ true) × (drop end s ≡ c ∷ rest)
      go (inl (l, e)) =
          let (x, after) = at_byte s from (figure n) (c ∷ rest) (d ∙ ap (λ (f : List ℕ). f ++ c ∷ rest) e) in
          let (y, behind) = at_byte s (from + 1) c rest after in
          let one : first ≡ n = omega (arith, a, ap worth x, worth_figure n l) in
          let none : second ≡ 10 = omega (arith, b, ap worth y, w) in
          let is : end ≡ from + 1 = rw none at k in
          (rw (one, none, lt-ltb n 10 l) (may_stand n negative allowed), rw is after)
      go (inr (m, e)) =
          let (x, after) = at_byte s from (figure (n / 10)) (figure (n % 10) ∷ c ∷ rest) (d ∙ ap (λ (f : List ℕ). f ++ c ∷ rest) e) in
          let (y, behind) = at_byte s (from + 1) (figure (n % 10)) (c ∷ rest) after in
          let tens : first ≡ n / 10 = omega (arith, a, ap worth x, worth_figure (n / 10) (omega arith)) in
          let ones : second < 10 = omega (arith, b, ap worth y, worth_figure (n % 10) (omega arith)) in
          let is : end ≡ from + 1 + 1 = rw (lt-ltb second 10 ones) at k in
          (rw (tens, lt-ltb (n / 10) 10 (omega arith), ne_eqb (n / 10) 0 (omega arith)), rw is behind)

-- what `digit_at` reads of a digit before a byte that is no figure
pub takes : (s : List ℕ) (at from first second end : ℕ) → first ≡ min (worth (get_or s from 0)) 10 → second ≡ min (worth (get_or s (from + 1) 0)) 10
    → from ≡ cond (eqb (get_or s at 0) 45) (at + 1) at → end ≡ cond (ltb second 10) (from + 1 + 1) (from + 1)
    → (z : ℤ) (c : ℕ) (rest : List ℕ) → nat_abs z < 100 → 10 ≤ worth c → drop at s ≡ digit z ++ c ∷ rest
    → ((ltb first 10 && (not (eqb first 0) || not (eqb (get_or s at 0) 45 || ltb second 10))) ≡ true) × (drop end s ≡ c ∷ rest)
takes s at from first second end a b i k (pos n) c rest h w d =
    let here : at + 0 ≡ at = omega arith in
    let byte : get_or (drop at s) 0 0 ≡ get_or s at 0 = rw here at (get_or-drop at s 0 0) in
    let other : get_or s at 0 ≢ 45 = λ e. figure_first n h (c ∷ rest) (sym (ap (λ (l : List ℕ). get_or l 0 0) d) ∙ byte ∙ e) in
    let plain : eqb (get_or s at 0) 45 ≡ false = ne_eqb (get_or s at 0) 45 other in
    let is : from ≡ at = rw plain at i in
    rw plain (taken s from first second end c rest a b k w n false h (λ e. let z : ◌≡◌ {A = ℕ} 0 1 = cc in absurd (omega arith)) (rw is d))
takes s at from first second end a b i k (negsuc m) c rest h w d =
    let (x, behind) = at_byte s at 45 (numeral 10 (suc m) ++ c ∷ rest) d in
    let minus : eqb (get_or s at 0) 45 ≡ true = eq-eqb (get_or s at 0) 45 x in
    let is : from ≡ at + 1 = rw minus at i in
    rw minus (taken s from first second end c rest a b k w (suc m) true h (λ e. omega arith) (rw is behind))

-- ── a line ──────────────────────────────────────────────────────────────────────────────────

-- the lines that have a point, by their letters
letters : (c : ℕ) (t : Point) → ((eqb c 84 || eqb c 76) || eqb c 65) ≡ true → ShortPoint t
    → (fields (pointed c (some t)) ≡ (c ∷ []) ∷ digit t.p ∷ digit t.q ∷ []) × ((limits : Limits) → Short limits (pointed c (some t)))
letters c t k s = go (eqb c 84) (eqb c 76) (eqb c 65) refl refl refl k
  where
    go : (x y z : Bool) → eqb c 84 ≡ x → eqb c 76 ≡ y → eqb c 65 ≡ z → ((x || y) || z) ≡ true
        → (fields (pointed c (some t)) ≡ (c ∷ []) ∷ digit t.p ∷ digit t.q ∷ []) × ((limits : Limits) → Short limits (pointed c (some t)))
    go true y z e f g k = rw (eqb-true c 84 e) (refl, λ limits. s)
    go false true z e f g k = rw (eqb-true c 76 f) (refl, λ limits. s)
    go false false true e f g k = rw (eqb-true c 65 g) (refl, λ limits. s)
    go false false false e f g k = let z : ◌≡◌ {A = ℕ} 0 1 = cc in absurd (omega arith)

-- three fields and what stands behind their line
joined : (c : ℕ) (p q t : List ℕ) → c ∷ comma ∷ p ++ (comma ∷ q ++ line_feed ∷ t) ≡ join comma ((c ∷ []) ∷ p ∷ q ∷ []) ++ line_feed ∷ t
unfolding join
joined c p q t = ap (λ (l : List ℕ). c ∷ comma ∷ l) (sym (append_assoc p (comma ∷ q) (line_feed ∷ t)))

-- what `short_line` has read
pub begins : (s : List ℕ) (middle last : ℕ) (p q : Signed) → 10 ≤ length s → middle ≤ 5 → last ≤ 9
    → ((eqb (get_or s 0 0) 84 || eqb (get_or s 0 0) 76) || eqb (get_or s 0 0) 65) ≡ true → get_or s 1 0 ≡ comma → get_or s middle 0 ≡ comma → get_or s last 0 ≡ line_feed
    → Spells s 2 middle p → Spells s (middle + 1) last q → Begins s (get_or s 0 0) (record { p = p; q = q }) (last + 1)
begins s middle last p q h m l k e f g a b =
    let t = point a.z b.z in
    let letter : s ≡ get_or s 0 0 ∷ drop 1 s = byte s 0 (omega arith) in
    let first : drop 1 s ≡ comma ∷ drop 2 s = byte_is s 1 comma (omega arith) e in
    let second : drop middle s ≡ comma ∷ drop (middle + 1) s = byte_is s middle comma (omega arith) f in
    let end : drop last s ≡ line_feed ∷ drop (last + 1) s = byte_is s last line_feed (omega arith) g in
    let whole : s ≡ get_or s 0 0 ∷ comma ∷ digit a.z ++ (comma ∷ digit b.z ++ line_feed ∷ drop (last + 1) s) = cc in
    let (same, short) = letters (get_or s 0 0) t k (record { short_p = a.short; short_q = b.short }) in
    record {
      point = t;
      is = rw (a.is, b.is);
      short = short;
      bytes = whole ∙ joined (get_or s 0 0) (digit a.z) (digit b.z) (drop (last + 1) s) ∙ ap (λ (fs : List (List ℕ)). join comma fs ++ line_feed ∷ drop (last + 1) s) (sym same);
      later = omega arith;
      within = omega arith;
    }

-- a letter that names a line with a point
known : (c : ℕ) (t : Point) → pointed c (some t) ≢ misspelled → ((eqb c 84 || eqb c 76) || eqb c 65) ≡ true
known c t = go (eqb c 84) (eqb c 76) (eqb c 65)
  where
    go : (x y z : Bool) → cond x (table t) (cond y (load t) (cond z (add t) misspelled)) ≢ misspelled → ((x || y) || z) ≡ true
    go true y z n = refl
    go false true z n = refl
    go false false true n = refl
    go false false false n = absurd (n refl)

-- what `short_line` tests of a line that fits
pub fits : (s : List ℕ) (middle last : ℕ) (p q : Bool) → Fitting s
    → ((z : ℤ) (c : ℕ) (rest : List ℕ) → nat_abs z < 100 → 10 ≤ worth c → drop 2 s ≡ digit z ++ c ∷ rest → (p ≡ true) × (drop middle s ≡ c ∷ rest))
    → ((z : ℤ) (c : ℕ) (rest : List ℕ) → nat_abs z < 100 → 10 ≤ worth c → drop (middle + 1) s ≡ digit z ++ c ∷ rest → (q ≡ true) × (drop last s ≡ c ∷ rest))
    → (((((eqb (get_or s 0 0) 84 || eqb (get_or s 0 0) 76) || eqb (get_or s 0 0) 65) && (eqb (get_or s 1 0) 44 && eqb (get_or s middle 0) 44)) && eqb (get_or s last 0) 10) && p) && q ≡ true
fits s middle last p q f first second =
    let is = known f.letter f.point f.named in
    let (same, short) = letters f.letter f.point is f.short in
    let line : s ≡ f.letter ∷ comma ∷ digit f.point.p ++ (comma ∷ digit f.point.q ++ line_feed ∷ f.rest) = f.bytes ∙ ap (λ (fs : List (List ℕ)). join comma fs ++ line_feed ∷ f.rest) same ∙ sym (joined f.letter (digit f.point.p) (digit f.point.q) f.rest) in
    let (x, one) = at_byte s 0 f.letter _ line in
    let (y, two) = at_byte s 1 comma _ one in
    let (p-fits, three) = first f.point.p comma _ f.short.short_p (omega arith) two in
    let (z, four) = at_byte s middle comma _ three in
    let (q-fits, five) = second f.point.q line_feed _ f.short.short_q (omega arith) four in
    let (u, six) = at_byte s last line_feed _ five in
    rw (x, is, y, z, u, p-fits, q-fits)

-- A text grows in front; a decimal is spelled from its last figure. From the definition of a numeral.
use mathlib.Core.Path.{◌≡◌, refl, sym, ap, subst, ◌∙◌}
use mathlib.Core.List.{List, [], ◌∷◌, ◌++◌, append_assoc, append-nil}
use Prim.Native.Nat.{ℕ, zero, suc, ◌+◌, ◌/◌, ◌%◌, ◌^◌, ◌≤◌, ◌<◌}
use native.Mathlib.Nat.{pow-suc}
use native.Mathlib.Omega.{arith}
use lib.ListN.{length, take, drop, set}
use lib.Seq.{set_split, drop_at, length-take-le, take-take}
use borrow.Author.Tests.{lt-ltb}
use Rattle.sheet.specs.Numeral.{figure, numeral}
use Rattle.sheet.specs.Numeral.Figures.{numeral_low, numeral_high}
use Rattle.reader.specs.Text.{Before}
use Rattle.reader.specs.declared.text.Text.{Text}

-- ── numerals ────────────────────────────────────────────────────────────────────────────────

figure_low : (n : ℕ) → n < 10 → figure n ∷ [] ≡ (48 + n) ∷ []
figure_low n h = rw (lt-ltb n 10 h)

pub numeral_one : (n : ℕ) → n < 10 → numeral 10 n ≡ (48 + n) ∷ []
numeral_one n h = numeral_low 10 (omega arith) n h ∙ figure_low n h

pub numeral_more : (n : ℕ) → 10 ≤ n → numeral 10 n ≡ numeral 10 (n / 10) ++ ((48 + n % 10) ∷ [])
numeral_more n h = numeral_high 10 (omega arith) n h ∙ ap (λ (l : List ℕ). numeral 10 (n / 10) ++ l) (figure_low (n % 10) (omega arith))

-- ── texts ───────────────────────────────────────────────────────────────────────────────────

-- a byte in front
pub byte_before : (bytes : List ℕ) (at b : ℕ) → at < length bytes → drop at (set bytes at b) ≡ b ∷ drop (at + 1) bytes
byte_before bytes at b h =
    ap (drop at) (set_split bytes at b h)
    ∙ drop_at (take at bytes) (b ∷ drop (suc at) bytes) at (length-take-le at bytes (omega arith))
    ∙ ap (λ (n : ℕ). b ∷ drop n bytes) (sym (native.Mathlib.Numerals.add-one at))

pub before_self : (t : Text) → Before t [] t
before_self t = record { at = omega arith; is = refl; front = refl }

pub before_more : {t u r : Text} {s : List ℕ} {b : ℕ} → Before t s u → Before u (b ∷ []) r → Before t (b ∷ s) r
before_more {t} {u} {r} {b = b} p q =
    let low : r.at ≤ u.at = omega (arith, q.at) in
    record {
      at = omega (arith, p.at, q.at);
      is = q.is ∙ ap (λ (l : List ℕ). b ∷ l) p.is;
      front =
          q.front ∙ sym (take-take r.at u.at u.bytes low) ∙ ap (take r.at) p.front
          ∙ take-take r.at u.at t.bytes low;
    }

-- ── a decimal, from its last figure ─────────────────────────────────────────────────────────

-- done stands in the text, the figures of rest are to come
pub record Turn (n : ℕ) (t text : Text) (rest : ℕ) : Type 0 where
  pub done : List ℕ
  pub before : Before t done text
  pub all : numeral 10 rest ++ done ≡ numeral 10 n
  pub left : ℕ
  pub few : left + length done ≡ 20
  pub some : 1 ≤ left
  pub small : rest < 10 ^ left

pub turn_start : (n : ℕ) (t : Text) → n < 18446744073709551616 → Turn n t t n
turn_start n t l =
    record { done = []; before = before_self t; all = append-nil (numeral 10 n); left = 20; few = omega arith; some = omega arith; small = omega arith }

module _ {n : ℕ} {t text : Text} {rest : ℕ} (c : Turn n t text rest) where
  two_left : (k : ℕ) → 10 ≤ rest → rest < 10 ^ k → (j : ℕ) × (k ≡ suc (suc j))
  two_left zero l h = absurd (omega arith)
  two_left (suc zero) l h = absurd (omega arith)
  two_left (suc (suc j)) l h = (j, refl)

  -- one figure more
  pub turn_more : (r : Text) → 10 ≤ rest → Before text ((48 + rest % 10) ∷ []) r → Turn n t r (rest / 10)
  turn_more r l b =
      let (j, e) = two_left c.left l c.small in
      let h : rest < 10 ^ suc (suc j) = subst (λ (k : ℕ). rest < 10 ^ k) e c.small in
      record {
        done = (48 + rest % 10) ∷ c.done;
        before = before_more c.before b;
        all =
            sym (append_assoc (numeral 10 (rest / 10)) ((48 + rest % 10) ∷ []) c.done)
            ∙ ap (λ (s : List ℕ). s ++ c.done) (sym (numeral_more rest l))
            ∙ c.all;
        left = suc j;
        few = omega (arith, c.few, e);
        some = omega arith;
        small = omega (arith, pow-suc 10 (suc j));
      }

  -- the first figure
  pub turn_last : (r : Text) → rest < 10 → Before text ((48 + rest) ∷ []) r → Before t (numeral 10 n) r × (length (numeral 10 n) ≤ 20)
  turn_last r l b =
      let e : (48 + rest) ∷ c.done ≡ numeral 10 n = ap (λ (s : List ℕ). s ++ c.done) (sym (numeral_one rest l)) ∙ c.all in
      (subst (λ (s : List ℕ). Before t s r) e (before_more c.before b), omega (arith, sym (ap length e), c.few, c.some))

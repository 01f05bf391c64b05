-- The bytes of the T lines of a plan, as the writer puts them: of a window, 2 and the odd multiples one after another.
use mathlib.Core.Path.{◌≡◌, refl, sym, ap, ◌∙◌}
use mathlib.Core.List.{List, [], ◌∷◌, ◌++◌, map, append-nil}
use Prim.Native.Nat.{ℕ, zero, suc, ◌+◌, ◌*◌, ◌≤◌, ◌<◌}
use native.Mathlib.Omega.{arith}
use lib.IntN.{pos, negsuc}
use Rattle.sheet.specs.declared.Plan.{Plan}
use Rattle.sheet.specs.declared.Plan.TheVariants.{J, I}
use Rattle.sheet.specs.Line.{table}
use Rattle.sheet.specs.Plan.{point, stored, odds, multiples, tables}
use Rattle.sheet.specs.Sound.{Window}
use Rattle.sheet.specs.Spelling.{spell}
use Rattle.written.specs.Written.Lengths.{spell_append}
use Rattle.digits.specs.Byte.{signed}
use Rattle.writer.specs.declared.tables.Base.{Base}
use Rattle.writer.specs.declared.tables.Base.TheVariants.{P, Q}
use Rattle.writer.specs.Body.Parts.{Put, Room, point_line, alone, odd_lines, window_bytes}
use Rattle.writer.proofs.Puts.{Progress, begun, advance, finished, progress_same, progress_room, room_first}
use Rattle.writer.proofs.StepBytes.{spell_table}

odds_none : (base : Base) (d : ℕ) → odd_lines base d 0 ≡ []
unfolding odds spell
odds_none base d = refl

odds_more : (base : Base) (d n : ℕ) → odd_lines base d (suc n) ≡ point_line 84 (alone base d) ++ odd_lines base (2 + d) n
unfolding odds
odds_more base d n = spell_table (alone base d) (map table (map (alone base) (odds (2 + d) n)))

pub window_none : (base : Base) (m : ℕ) → m < 3 → window_bytes base m ≡ []
unfolding window_bytes spell
window_none base m h = let e : stored m ≡ 0 = omega arith in ap (λ (n : ℕ). spell (map table (map (alone base) (multiples n)))) e

pub window_some : (base : Base) (m : ℕ) → 3 ≤ m → window_bytes base m ≡ point_line 84 (alone base 2) ++ odd_lines base 3 (stored m)
unfolding window_bytes
window_some base m h = go (stored m) refl
  where
    go : (n : ℕ) → stored m ≡ n → spell (map table (map (alone base) (multiples (stored m)))) ≡ point_line 84 (alone base 2) ++ odd_lines base 3 (stored m)
    go zero e = absurd (omega arith)
    go (suc n) e =
        ap (λ (k : ℕ). spell (map table (map (alone base) (multiples k)))) e
        ∙ spell_table (alone base 2) (map table (map (alone base) (odds 3 (suc n))))
        ∙ sym (ap (λ (k : ℕ). point_line 84 (alone base 2) ++ odd_lines base 3 k) e)

-- ── the loop over the odd multiples ─────────────────────────────────────────────────────────

-- the lines of the odd multiples from n on are left
pub record Filling (base : Base) (m : ℕ) (out₀ out : List ℕ) (at next n : ℕ) : Type 0 where
  pub left : ℕ
  pub counts : n + 2 * left ≡ 2 * stored m + 3
  pub progress : Progress out₀ out at next (odd_lines base 3 (stored m)) (odd_lines base n left)

module _ (base : Base) (m : ℕ) (window : Window m) (out₀ : List ℕ) (at : ℕ) where
  pub fill_start : Filling base m out₀ out₀ at at 3
  fill_start = record { left = stored m; counts = omega arith; progress = begun out₀ at (odd_lines base 3 (stored m)) }

  module _ {out : List ℕ} {next n : ℕ} (s : Filling base m out₀ out at next n) where
    one_more : n ≤ m → (k : ℕ) × (s.left ≡ suc k) × Progress out₀ out at next (odd_lines base 3 (stored m)) (point_line 84 (alone base n) ++ odd_lines base (2 + n) k)
    one_more h = go s.left refl
      where
        go : (k : ℕ) → s.left ≡ k → (k : ℕ) × (s.left ≡ suc k) × Progress out₀ out at next (odd_lines base 3 (stored m)) (point_line 84 (alone base n) ++ odd_lines base (2 + n) k)
        go zero e = absurd (omega (arith, s.counts, window.odd))
        go (suc k) e = (k, e, progress_same (ap (odd_lines base n) e ∙ odds_more base n k) s.progress)

    pub fill_room : Room out₀ at (odd_lines base 3 (stored m)) → n ≤ m → Room out next (point_line 84 (alone base n))
    fill_room r h = let (k, e, p) = one_more h in room_first (odd_lines base (2 + n) k) (progress_room r p)

    pub fill_turn : n ≤ m → {out' : List ℕ} {next' : ℕ} → Put out out' next next' (point_line 84 (alone base n)) → Filling base m out₀ out' at next' (n + 2)
    fill_turn h p =
        let (k, e, r) = one_more h in
        let two : 2 + n ≡ n + 2 = omega arith in
        record {
          left = k;
          counts = omega (arith, s.counts);
          progress = progress_same (ap (λ (d : ℕ). odd_lines base d k) two) (advance (odd_lines base (2 + n) k) p r);
        }

    pub fill_stop : m < n → Put out₀ out at next (odd_lines base 3 (stored m))
    fill_stop h =
        let e : s.left ≡ 0 = omega (arith, s.counts, window.odd) in
        finished (progress_same (ap (odd_lines base n) e ∙ odds_none base n) s.progress)

-- ── the plan's T lines ──────────────────────────────────────────────────────────────────────

map_append : {A B : Type 0} (f : A → B) (xs ys : List A) → map f (xs ++ ys) ≡ map f xs ++ map f ys
map_append f [] ys = refl
map_append f (x ∷ xs) ys = ap (λ (l : List _). f x ∷ l) (map_append f xs ys)

joint_lines : spell (map table (tables J)) ≡ point_line 84 (point (signed 1) (signed 1)) ++ point_line 84 (point (signed 1) (signed 255))
joint_lines =
    spell_table (point (pos 1) (pos 1)) (table (point (pos 1) (negsuc 0)) ∷ [])
    ∙ ap (λ (l : List ℕ). point_line 84 (point (pos 1) (pos 1)) ++ l) (spell_table (point (pos 1) (negsuc 0)) [] ∙ none)
  where
    none : point_line 84 (point (pos 1) (negsuc 0)) ++ spell [] ≡ point_line 84 (point (pos 1) (negsuc 0))
    none = unfold spell in append-nil (point_line 84 (point (pos 1) (negsuc 0)))

pub tables_joint : (plan : Plan) → plan ≡ J
    → spell (map table (tables plan)) ≡ point_line 84 (point (signed 1) (signed 1)) ++ point_line 84 (point (signed 1) (signed 255))
tables_joint plan e = ap (λ (x : Plan). spell (map table (tables x))) e ∙ joint_lines

pub tables_rows : (plan : Plan) (m1 m2 : ℕ) → plan ≡ I m1 m2 → spell (map table (tables plan)) ≡ window_bytes P m1 ++ window_bytes Q m2
unfolding window_bytes
tables_rows plan m1 m2 e =
    ap (λ (x : Plan). spell (map table (tables x))) e
    ∙ ap spell (map_append table (map (alone P) (multiples (stored m1))) (map (alone Q) (multiples (stored m2))))
    ∙ spell_append (map table (map (alone P) (multiples (stored m1)))) (map table (map (alone Q) (multiples (stored m2))))

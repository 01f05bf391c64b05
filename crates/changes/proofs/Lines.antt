-- The line of an order: each of its fields has one figure, so that it has eighteen bytes.
use mathlib.Core.Path.{◌≡◌, refl, sym, ap, ◌∙◌}
use mathlib.Core.List.{List, [], ◌∷◌, ◌++◌}
use Prim.Native.Nat.{ℕ, ◌%◌, ◌≤◌, ◌<◌}
use native.Mathlib.Omega.{arith}
use lib.IntN.{pos}
use Rattle.sheet.specs.declared.Plan.{Plan}
use Rattle.sheet.specs.declared.Plan.TheVariants.{J, I}
use Rattle.sheet.specs.Numeral.{figure, numeral}
use Rattle.sheet.specs.Numeral.Figures.{numeral_low}
use Rattle.sheet.specs.Plan.{slots, largest}
use Rattle.sheet.specs.Spelling.{comma, line_feed, kind, join}
use Rattle.written.specs.Written.{kind_of, first, second}
use Rattle.changes.specs.Changed.{line_with}
use Rattle.changes.specs.Body.{OneFigure}

-- a number of one figure
one : (base n : ℕ) → 2 ≤ base → base ≤ 16 → n < base → {x : ℕ} → x ≡ figure (n % 16) → x ∷ [] ≡ numeral base n
one base n l m h f =
    let e : n % 16 ≡ n = omega arith in
    ap (λ (y : ℕ). y ∷ []) (f ∙ ap figure e) ∙ sym (numeral_low base l n h)

-- a window of one figure
window : {m n x : ℕ} → m ≡ n → n < 10 → x ≡ figure (m % 16) → x ∷ [] ≡ numeral 10 n
window {n = n} e h f = one 10 n (omega arith) (omega arith) h (f ∙ ap (λ (i : ℕ). figure (i % 16)) e)

-- nine fields
spelled : List ℕ → List ℕ → List ℕ → List ℕ → List ℕ → List ℕ → List ℕ → List ℕ → List ℕ → List ℕ
spelled a b c d e f g h i = join comma (a ∷ b ∷ c ∷ d ∷ e ∷ f ∷ g ∷ h ∷ i ∷ []) ++ line_feed ∷ []

-- the windows are the largest digits
first_largest : (p : Plan) → (largest p).p ≡ first p
first_largest J = refl
first_largest (I m1 m2) = refl

second_largest : (p : Plan) → (largest p).q ≡ second p
second_largest J = refl
second_largest (I m1 m2) = refl

module _ (k l s : ℕ) (p q : Plan) (hk : k < 16) (hl : l < 16) (hs : s < 10) (hp : OneFigure p) (hq : OneFigure q) where
  -- eighteen bytes are its line
  pub line_bytes : {a b c d e f g h i : ℕ}
      → a ≡ figure (k % 16) → b ≡ figure (l % 16) → c ≡ figure (s % 16)
      → d ∷ [] ≡ kind (kind_of p) → e ≡ figure ((largest p).p % 16) → f ≡ figure ((largest p).q % 16)
      → g ∷ [] ≡ kind (kind_of q) → h ≡ figure ((largest q).p % 16) → i ≡ figure ((largest q).q % 16)
      → a ∷ comma ∷ b ∷ comma ∷ c ∷ comma ∷ d ∷ comma ∷ e ∷ comma ∷ f ∷ comma ∷ g ∷ comma ∷ h ∷ comma ∷ i ∷ line_feed ∷ [] ≡ line_with (record { k = pos k; l = pos l; slots = s }) p q
  unfolding line_with spelled join
  line_bytes ka la sa da ea fa ga ha ia =
      let s1 = one 16 k (omega arith) (omega arith) hk ka in
      let s2 = one 16 l (omega arith) (omega arith) hl la in
      let s3 = one 10 s (omega arith) (omega arith) hs sa in
      let s5 = window (first_largest p) hp.first_one ea in
      let s6 = window (second_largest p) hp.second_one fa in
      let s8 = window (first_largest q) hq.first_one ha in
      let s9 = window (second_largest q) hq.second_one ia in
      λ j. spelled (s1 j) (s2 j) (s3 j) (da j) (s5 j) (s6 j) (ga j) (s8 j) (s9 j)

-- a plan within three slots has windows of one figure
pub one_figure : (p : Plan) → slots p ≤ 3 → OneFigure p
one_figure J h = record { first_one = omega arith; second_one = omega arith }
one_figure (I m1 m2) h = record { first_one = omega arith; second_one = omega arith }

-- The slots of an order's line by the tests that the code makes, and the order's scalars where there are slots.
use mathlib.Core.Path.{◌≡◌, refl, sym, ap, ap₂, ◌∙◌}
use mathlib.Core.Bool.{Bool, true, false, cond}
use mathlib.Core.List.{List, []}
use mathlib.Core.Option.{Option, none, some}
use Prim.Native.Nat.{ℕ, ◌≤◌}
use native.Mathlib.Omega.{arith}
use lib.Dec.{eqb}
use lib.IntN.{ℤ, pos}
use lib.ListN.{length, get_or}
use mathlib.Core.Logic.{◌≢◌}
use borrow.Author.Tests.{eq-eqb, ne_eqb}
use Rattle.digits.specs.Integer.{signed_by}
use Rattle.digits.specs.declared.limits.Limits.{Limits}
use Rattle.digits.specs.Limits.{card}
use Rattle.digits.specs.Scalar.{scalar, signed_scalar}
use Rattle.std.specs.declared.option.Option.TheVariants.{Some, None}
use Rattle.sheet.specs.Spelling.Field.{sign_of, unsigned, is_whole, whole_of, decimal_of}
use Rattle.sheet.specs.Numeral.{figures, followed}
use Rattle.sheet.specs.Spelling.{read_scalar, read_decimal, ◌>>=◌}
use Rattle.sheet.proofs.SignTurns.{whole_parts, whole_value}
use Rattle.order.specs.Order.{Order, read_fields, slots_of}

-- the figures of a scalar, behind its sign
pub scalar_figures : (s f : List ℕ) → f ≡ unsigned s → is_whole 16 card.figures s ≡ true → ((1 ≤ length f) × (length f ≤ 132)) × (figures 16 f ≡ true)
scalar_figures s f e w = let p = whole_parts 16 132 s f e w in ((p.some_figures, p.few), p.all)

-- the scalar of a sign and of figures is the whole number that they spell
pub scalar_whole : (s t f : List ℕ) (sign : ℕ) → f ≡ unsigned s → sign ≡ sign_of s → scalar t ≡ followed 16 0 f → signed_scalar t sign ≡ whole_of 16 s
unfolding signed_scalar
scalar_whole s t f sign e g h =
    ap₂ (λ (n : ℕ) (m : ℕ). signed_by n (pos m)) g (h ∙ ap (followed 16 0) e)

-- the order of three fields, by what is read of each
abbrev ordered : Option ℤ → Option ℤ → Option ℕ → Bool → Option Order
ordered a b c three = a >>= λ k. b >>= λ l. c >>= λ slots. cond three (some (record { k = k; l = l; slots = slots })) none

-- the scalar of field i
abbrev pub value : List (List ℕ) → ℕ → ℤ
value fs i = whole_of 16 (get_or fs i [])

module _ (limits : Limits) (fs : List (List ℕ)) where
  -- field i spells a scalar
  abbrev pub spelled : ℕ → Bool
  spelled i = is_whole 16 limits.figures (get_or fs i [])

  read_as : {a b three : Bool} → spelled 0 ≡ a → spelled 1 ≡ b → eqb (length fs) 3 ≡ three
      → read_fields limits fs ≡ ordered (cond a (some (value fs 0)) none) (cond b (some (value fs 1)) none) (read_decimal (get_or fs 2 [])) three
  unfolding read_fields
  read_as {a} {b} d e f = rw (scalar_value 0, scalar_value 1, d, e, f)
    where
      scalar_value : (i : ℕ) → read_scalar limits (get_or fs i []) ≡ cond (spelled i) (some (value fs i)) none
      scalar_value i = whole_value 16 limits.figures (omega arith) (omega arith) (get_or fs i [])

  -- the slots, by the tests
  pub first_bad : spelled 0 ≡ false → None ≡ decimal_of (slots_of (read_fields limits fs))
  first_bad d = ap (λ (o : Option Order). decimal_of (slots_of o)) (sym (read_as d refl refl))

  pub second_bad : spelled 0 ≡ true → spelled 1 ≡ false → None ≡ decimal_of (slots_of (read_fields limits fs))
  second_bad d e = ap (λ (o : Option Order). decimal_of (slots_of o)) (sym (read_as d e refl))

  module _ (d : spelled 0 ≡ true) (e : spelled 1 ≡ true) where
    pub not_three : length fs ≢ 3 → None ≡ decimal_of (slots_of (read_fields limits fs))
    not_three n = go (read_decimal (get_or fs 2 [])) ∙ ap (λ (o : Option Order). decimal_of (slots_of o)) (sym (read_as d e (ne_eqb (length fs) 3 n)))
      where
        go : (c : Option ℕ) → None ≡ decimal_of (slots_of (ordered (some (value fs 0)) (some (value fs 1)) c false))
        go none = refl
        go (some n) = refl

    pub three : length fs ≡ 3 → decimal_of (read_decimal (get_or fs 2 [])) ≡ decimal_of (slots_of (read_fields limits fs))
    three n = go (read_decimal (get_or fs 2 [])) ∙ ap (λ (o : Option Order). decimal_of (slots_of o)) (sym (read_as d e (eq-eqb (length fs) 3 n)))
      where
        go : (c : Option ℕ) → decimal_of c ≡ decimal_of (slots_of (ordered (some (value fs 0)) (some (value fs 1)) c true))
        go none = refl
        go (some n) = refl

-- an order with slots has two scalars
pub record Ordered (fs : List (List ℕ)) (slots : ℕ) : Type 0 where
  pub first : spelled card fs 0 ≡ true
  pub second : spelled card fs 1 ≡ true
  pub read : read_fields card fs ≡ some (record { k = value fs 0; l = value fs 1; slots = slots })

pub some_order : (fs : List (List ℕ)) (n : ℕ) → decimal_of (slots_of (read_fields card fs)) ≡ Some n → Ordered fs n
some_order fs n e = go (spelled card fs 0) (spelled card fs 1) (eqb (length fs) 3) (read_decimal (get_or fs 2 [])) refl refl (read_as card fs refl refl refl)
  where
    go : (a b three : Bool) (c : Option ℕ) → spelled card fs 0 ≡ a → spelled card fs 1 ≡ b
        → read_fields card fs ≡ ordered (cond a (some (value fs 0)) none) (cond b (some (value fs 1)) none) c three → Ordered fs n
    go true true true (some m) p q r =
        let same : m ≡ n = cc in
        record { first = p; second = q; read = r ∙ ap (λ (x : ℕ). some (record { k = value fs 0; l = value fs 1; slots = x })) same }
    go true true true none p q r = let z : ◌≡◌ {A = ℕ} 0 1 = cc in absurd (omega arith)
    go true true false (some m) p q r = let z : ◌≡◌ {A = ℕ} 0 1 = cc in absurd (omega arith)
    go true true false none p q r = let z : ◌≡◌ {A = ℕ} 0 1 = cc in absurd (omega arith)
    go true false three c p q r = let z : ◌≡◌ {A = ℕ} 0 1 = cc in absurd (omega arith)
    go false b three c p q r = let z : ◌≡◌ {A = ℕ} 0 1 = cc in absurd (omega arith)

pub no_order : (o : Option Order) → decimal_of (slots_of o) ≡ None → o ≡ none
no_order none e = refl
no_order (some o) e = let z : ◌≡◌ {A = ℕ} 0 1 = cc in absurd (omega arith)

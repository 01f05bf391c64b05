-- What the parsers of a header answer, from the fields that they read.
use mathlib.Core.Path.{◌≡◌, refl, sym, ap, ◌∙◌}
use mathlib.Core.Bool.{Bool, true, false, cond, ◌&&◌}
use mathlib.Core.List.{List, [], ◌∷◌}
use mathlib.Core.Option.{Option, none, some}
use Prim.Native.Nat.{ℕ}
use native.Mathlib.Omega.{arith}
use lib.Dec.{eqb}
use lib.IntN.{ℤ}
use lib.ListN.{length, get_or}
use Rattle.digits.specs.declared.limits.Limits.{Limits}
use Rattle.sheet.specs.Plan.{Point}
use Rattle.sheet.specs.Line as spec
use Rattle.sheet.specs.Line.{joint, interleaved, header, table, load, double, add, end, misspelled}
use Rattle.sheet.specs.Spelling.{◌>>=◌, comma, cut, letter, read_kind, read_decimal, read_scalar, read_point, read_header, made, sized, read_behind, read_line}
use Rattle.sheet.specs.Spelling.Field.{is_whole, whole_of, decimal_of}
use Rattle.sheet.proofs.SignTurns.{whole_value}
use Rattle.std.specs.Option.{SomeIff, option_and_then, option_eq}
use Rattle.std.specs.declared.option.Option as declared
use Rattle.std.specs.declared.option.Option.TheVariants.{Some, None}
use Rattle.lines.specs.Coded.{coded_kind, coded_heading, heading_of}
use Rattle.lines.specs.declared.header.Kind as kind_type
use Rattle.lines.specs.declared.header.Header as header_of

-- a field that is no byte has no letter
pub letter_none : (f : List ℕ) → ¬ (length f ≡ 1) → letter f ≡ 0
letter_none [] n = refl
letter_none (c ∷ []) n = absurd (n refl)
letter_none (c ∷ d ∷ f) n = refl

-- a scalar, by the test of its field
pub scalar_read : (limits : Limits) (f : List ℕ) (b : Bool) → is_whole 16 limits.figures f ≡ b → read_scalar limits f ≡ cond b (some (whole_of 16 f)) none
scalar_read limits f b e = whole_value 16 limits.figures (omega arith) (omega arith) f ∙ ap (λ (t : Bool). cond t (some (whole_of 16 f)) none) e

-- a header of what was read
abbrev read_as_header : Option spec.Kind → Option ℕ → Option ℕ → Option ℕ → Option ℕ → Option ℕ → Option ℤ → Option ℤ → Option spec.Header
read_as_header kind m1 m2 slots additions doublings k l = do
  kind ← kind
  m1 ← m1
  m2 ← m2
  slots ← slots
  additions ← additions
  doublings ← doublings
  k ← k
  l ← l
  some (record { kind = kind; m1 = m1; m2 = m2; slots = slots; additions = additions; doublings = doublings; k = k; l = l })

-- the same in the code's form, where the two scalars are tested
abbrev header_as : declared.Option kind_type.Kind → declared.Option ℕ → declared.Option ℕ → declared.Option ℕ → declared.Option ℕ → declared.Option ℕ → Bool → declared.Option header_of.Header
header_as kind m1 m2 slots additions doublings scalars =
    option_and_then
    (λ kind.
    option_and_then
    (λ m1.
    option_and_then
    (λ m2.
    option_and_then
    (λ slots.
    option_and_then
    (λ additions.
    option_and_then
    (λ doublings.
    cond scalars (Some (record { kind = kind; m1 = m1; m2 = m2; slots = slots; additions = additions; doublings = doublings })) None)
    doublings)
    additions)
    slots)
    m2)
    m1)
    kind

-- a scalar that passed its test, or none
abbrev tested : Bool → ℤ → Option ℤ
tested b z = cond b (some z) none

header_form : (kind : Option spec.Kind) (m1 m2 slots additions doublings : Option ℕ) (a b : Bool) (k l : ℤ)
    → header_as (coded_kind kind) (decimal_of m1) (decimal_of m2) (decimal_of slots) (decimal_of additions) (decimal_of doublings) (a && b)
    ≡ coded_heading (read_as_header kind m1 m2 slots additions doublings (tested a k) (tested b l))
header_form none m1 m2 slots additions doublings a b k l = refl
header_form (some x) none m2 slots additions doublings a b k l = refl
header_form (some x) (some m1) none slots additions doublings a b k l = refl
header_form (some x) (some m1) (some m2) none additions doublings a b k l = refl
header_form (some x) (some m1) (some m2) (some slots) none doublings a b k l = refl
header_form (some x) (some m1) (some m2) (some slots) (some additions) none a b k l = refl
header_form (some x) (some m1) (some m2) (some slots) (some additions) (some doublings) false b k l = refl
header_form (some x) (some m1) (some m2) (some slots) (some additions) (some doublings) true false k l = refl
header_form (some x) (some m1) (some m2) (some slots) (some additions) (some doublings) true true k l = refl

module _ (limits : Limits) (fs : List (List ℕ)) where
  abbrev field : ℕ → List ℕ
  field k = get_or fs k []

  abbrev scalar : ℕ → Bool
  scalar k = is_whole 16 limits.figures (field k)

  -- the header of the fields, by what each of them was read as
  pub header_is : {kind : declared.Option kind_type.Kind} {m1 m2 slots additions doublings : declared.Option ℕ} {scalars : Bool}
      → kind ≡ coded_kind (read_kind (field 1))
      → m1 ≡ decimal_of (read_decimal (field 2))
      → m2 ≡ decimal_of (read_decimal (field 3))
      → slots ≡ decimal_of (read_decimal (field 4))
      → additions ≡ decimal_of (read_decimal (field 5))
      → doublings ≡ decimal_of (read_decimal (field 6))
      → scalars ≡ (scalar 7 && scalar 8)
      → header_as kind m1 m2 slots additions doublings scalars ≡ coded_heading (read_header limits fs)
  unfolding read_header
  header_is e1 e2 e3 e4 e5 e6 e7 =
      rw (e1, e2, e3, e4, e5, e6, e7, scalar_read limits (field 7) (scalar 7) refl, scalar_read limits (field 8) (scalar 8) refl)
      (header_form (read_kind (field 1)) (read_decimal (field 2)) (read_decimal (field 3)) (read_decimal (field 4)) (read_decimal (field 5)) (read_decimal (field 6)) (scalar 7) (scalar 8) (whole_of 16 (field 7)) (whole_of 16 (field 8)))

pub never : {A : Type 0} {h : spec.Header} → ◌≡◌ {A = Option spec.Header} none (some h) → A
never e = let z : ◌≡◌ {A = ℕ} 0 1 = cc in absurd (omega arith)

-- no other line has a heading
sized_none : (n : ℕ) (fs : List (List ℕ)) (l : spec.Line) → heading_of l ≡ none → heading_of (sized n fs l) ≡ none
sized_none n fs l e = go (eqb (length fs) n)
  where
    go : (b : Bool) → heading_of (cond b l misspelled) ≡ none
    go true = e
    go false = refl

made_none : (f : Point → spec.Line) → ((t : Point) → heading_of (f t) ≡ none) → (o : Option Point) → heading_of (made f o) ≡ none
made_none f h none = refl
made_none f h (some t) = h t

either_none : (b : Bool) (x y : spec.Line) → heading_of x ≡ none → heading_of y ≡ none → heading_of (cond b x y) ≡ none
either_none true x y p q = p
either_none false x y p q = q

sized_some : (n : ℕ) (fs : List (List ℕ)) (o : Option spec.Header) (h : spec.Header) → heading_of (sized n fs (made header o)) ≡ some h → o ≡ some h
sized_some n fs o h = go (eqb (length fs) n) o
  where
    go : (b : Bool) (p : Option spec.Header) → heading_of (cond b (made header p) misspelled) ≡ some h → p ≡ some h
    go true none e = never e
    go true (some x) e = e
    go false p e = never e

others : (c : ℕ) (fs : List (List ℕ))
    → heading_of (cond (eqb c 84) (sized 3 fs (made table (read_point fs))) (cond (eqb c 76) (sized 3 fs (made load (read_point fs))) (cond (eqb c 68) (sized 1 fs double) (cond (eqb c 65) (sized 3 fs (made add (read_point fs))) (cond (eqb c 69) (sized 1 fs end) misspelled))))) ≡ none
others c fs =
    either_none (eqb c 84) _ _ (sized_none 3 fs _ (made_none table (λ t. refl) (read_point fs)))
    (either_none (eqb c 76) _ _ (sized_none 3 fs _ (made_none load (λ t. refl) (read_point fs)))
    (either_none (eqb c 68) _ _ (sized_none 1 fs double refl)
    (either_none (eqb c 65) _ _ (sized_none 3 fs _ (made_none add (λ t. refl) (read_point fs)))
    (either_none (eqb c 69) _ _ (sized_none 1 fs end refl) refl))))

pub headed : (limits : Limits) (c : ℕ) (fs : List (List ℕ)) (h : spec.Header) → heading_of (read_behind limits c fs) ≡ some h → read_header limits fs ≡ some h
unfolding read_behind
headed limits c fs h = go (eqb c 83)
  where
    go : (b : Bool)
        → heading_of (cond b (sized 9 fs (made header (read_header limits fs))) (cond (eqb c 84) (sized 3 fs (made table (read_point fs))) (cond (eqb c 76) (sized 3 fs (made load (read_point fs))) (cond (eqb c 68) (sized 1 fs double) (cond (eqb c 65) (sized 3 fs (made add (read_point fs))) (cond (eqb c 69) (sized 1 fs end) misspelled)))))) ≡ some h
        → read_header limits fs ≡ some h
    go true e = sized_some 9 fs (read_header limits fs) h e
    go false e = never (sym (others c fs) ∙ e)

-- the header of a line, by its letter and the number of its fields
module _ (limits : Limits) (s : List ℕ) where
  by_letter : (c : ℕ) (b : Bool) → eqb c 83 ≡ b → heading_of (read_behind limits c (cut comma s)) ≡ cond (b && eqb (length (cut comma s)) 9) (read_header limits (cut comma s)) none
  unfolding read_behind
  by_letter c true i = rw i (go (eqb (length (cut comma s)) 9) (read_header limits (cut comma s)))
    where
      go : (b : Bool) (o : Option spec.Header) → heading_of (cond b (made header o) misspelled) ≡ cond b o none
      go true none = refl
      go true (some h) = refl
      go false o = refl
  by_letter c false i = rw i (others c (cut comma s))

  by_field : (r : declared.Option ℕ) → SomeIff r (length (get_or (cut comma s) 0 []) ≡ 1) (letter (get_or (cut comma s) 0 []))
      → heading_of (read_line limits s) ≡ cond (option_eq eqb r (Some 83) && eqb (length (cut comma s)) 9) (read_header limits (cut comma s)) none
  unfolding read_line
  by_field None n = rw (letter_none (get_or (cut comma s) 0 []) n) (by_letter 0 false refl)
  by_field (Some c) (one, e) = rw (← e) (by_letter c (eqb c 83) refl)

  -- f is the first field, r its letter
  pub heads : (f : List ℕ) (r : declared.Option ℕ) (b : Bool) → f ≡ get_or (cut comma s) 0 [] → SomeIff r (length f ≡ 1) (letter f)
      → b ≡ (option_eq eqb r (Some 83) && eqb (length (cut comma s)) 9) → cond b (read_header limits (cut comma s)) none ≡ heading_of (read_line limits s)
  heads f r b first known e = rw e (sym (by_field r (rw first at known)))

-- Back from the form that the code has for what was read.
use mathlib.Core.Path.{◌≡◌, refl}
use mathlib.Core.Option.{Option, none, some}
use Prim.Native.Nat.{ℕ}
use native.Mathlib.Omega.{arith}
use Rattle.std.specs.declared.option.Option.TheVariants.{Some, None}
use Rattle.lines.specs.Coded.{as_read}

pub read_some : {A B : Type 0} {form : A → B} (o : Option A) {b : B} → Some b ≡ as_read form o → (a : A) × (o ≡ some a) × (b ≡ form a)
read_some none e = let z : ◌≡◌ {A = ℕ} 0 1 = cc in absurd (omega arith)
read_some (some a) e = (a, refl, cc)

pub read_none : {A B : Type 0} (form : A → B) (o : Option A) → None ≡ as_read form o → o ≡ none
read_none form none e = refl
read_none form (some a) e = let z : ◌≡◌ {A = ℕ} 0 1 = cc in absurd (omega arith)

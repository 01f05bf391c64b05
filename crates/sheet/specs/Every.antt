-- Every element of a list has a property.
use Rattle.std.specs.Prelude.{List, [], ◌∷◌, ◌++◌}

pub data Every {A : Type 0} (P : A → Type 0) : List A → Type 0 where
  empty : Every P []
  more : {a : A} {s : List A} → P a → Every P s → Every P (a ∷ s)

pub every_append : {A : Type 0} {P : A → Type 0} {s t : List A} → Every P s → Every P t → Every P (s ++ t)
every_append empty r = r
every_append (more p q) r = more p (every_append q r)

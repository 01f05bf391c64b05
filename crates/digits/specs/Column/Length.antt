-- A row has as many places as there are columns. Assumes nothing.
use Rattle.std.specs.Prelude.{◌≡◌, List, length}
use Rattle.std.proofs.lemmas.List.{length-map}
use Rattle.digits.specs.Column.{Kind, row}

pub row_length : (K : Kind) (r : K.Row) (cs : List K.Column) → length (row K r cs) ≡ length cs
unfolding row
row_length K r cs = length-map cs (λ c. K.digit c r)

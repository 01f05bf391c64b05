-- Rows that stand in the documents, computed.
use Rattle.std.specs.Prelude.{◌≡◌, refl, [], ◌∷◌, pos, negsuc}
use Rattle.digits.specs.Integer.{half}
use Rattle.digits.specs.Scalar.{bit_length, bit_length_in}
use Rattle.forms.specs.Residue.{width, residue}
use Rattle.forms.specs.Row.{row, row_in, digit, rest}
use Rattle.down.specs.Down.{under, bits, worth, taken, settled, window, places_in, places, trimmed, natural, down}

-- 11 with m = 1: −1, 0, 1, 1 from the top and −1, 0, −1, 0, 1 from the bottom
pub eleven : down 1 (pos 11) ≡ negsuc 0 ∷ pos 0 ∷ pos 1 ∷ pos 1 ∷ []
unfolding under bits worth taken settled window places_in places trimmed natural down half width bit_length bit_length_in
eleven = refl

pub eleven_up : row 1 (pos 11) ≡ negsuc 0 ∷ pos 0 ∷ negsuc 0 ∷ pos 0 ∷ pos 1 ∷ []
unfolding row row_in digit rest residue half width bit_length bit_length_in
eleven_up = refl

-- the document's example, 22369 with m = 5
pub example : down 5 (pos 22369) ≡ pos 1 ∷ pos 0 ∷ pos 0 ∷ pos 0 ∷ pos 0 ∷ negsuc 4 ∷ pos 0 ∷ pos 0 ∷ pos 0 ∷ pos 0 ∷ pos 0 ∷ pos 1 ∷ pos 5 ∷ []
unfolding under bits worth taken settled window places_in places trimmed natural down half width bit_length bit_length_in
example = refl

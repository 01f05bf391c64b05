-- The bytes of a digit, by its sign and its size: a minus, a hundred and tens where it has them, and ones. Assumes nothing.
use mathlib.Core.Path.{◌≡◌, ◌∙◌}
use mathlib.Core.Bool.{Bool}
use mathlib.Core.List.{List, [], ◌∷◌}
use Prim.Native.Nat.{ℕ, ◌+◌, ◌/◌, ◌%◌, ◌<◌}
use lib.Dec.{leb}
use lib.IntN.{nat_abs}
use Rattle.digits.specs.Byte.{signed}
use Rattle.forms.specs.Test.{equal, same_list, every_below}
use Rattle.sheet.specs.Numeral.{numeral_in, numeral}
use Rattle.sheet.specs.Spelling.{digit}
use Rattle.writer.specs.Body.Parts.{Room}
use Rattle.writer.proofs.Drafts.{kept_of, Drafting, drafted}

-- what is put of a byte, by the size of its digit and what that has below its hundreds
abbrev parts : ℕ → ℕ → ℕ → List (Bool × ℕ)
parts b size rest = (leb 128 b, 45) ∷ (leb 100 size, 49) ∷ (leb 10 size, 48 + rest / 10) ∷ []

abbrev bytes : ℕ → ℕ → List ℕ
bytes b size = kept_of (parts b size (size % 100)) (48 + size % 100 % 10)

-- they are the digit, and the size is at most 128: of each of the 256 bytes, by computation
spelled : (b : ℕ) → b < 256 → digit (signed b) ≡ bytes b (nat_abs (signed b))
unfolding numeral_in numeral
spelled = (every_below 256 (λ b. same_list equal (digit (signed b)) (bytes b (nat_abs (signed b))))).tells tt

pub digit_drafted : {out : List ℕ} {at size rest : ℕ} (b : ℕ) → b < 256 → size ≡ nat_abs (signed b) → rest ≡ size % 100 → Room out at (digit (signed b)) → Drafting out out at at (digit (signed b)) (parts b size rest) (48 + rest % 10)
digit_drafted {size = size} {rest = rest} b h e f r = drafted (parts b size rest) (48 + rest % 10) (spelled b h ∙ rw (f, e)) r

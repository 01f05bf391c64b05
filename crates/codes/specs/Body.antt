-- What the private contracts of the code speak of: the codes of a row, from the bytes of its digits.
use Rattle.std.specs.Prelude.{cond, List, ℕ, suc, eqb, get_or}
use Rattle.forms.specs.Codes.{below}

-- the code of a digit, by the row's next one: 0 for the digit 0, else 1, and 2 where the next is not 0 either
abbrev pub byte_code : ℕ → ℕ → ℕ
byte_code digit next = cond (eqb digit 0) 0 (cond (eqb next 0) 1 2)

-- the codes of the digits at the places below n
unfoldable pub byte_codes : List ℕ → ℕ → List ℕ
byte_codes digits n = below (λ i. byte_code (get_or digits i 0) (get_or digits (suc i) 0)) n

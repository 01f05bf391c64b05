-- Numbers in figures of a base up to sixteen, the most significant first: how they are spelled, and how they are read.
pub mod Figures
pub mod Below
pub mod Read
use Rattle.std.specs.Prelude.{Bool, true, false, not, ◌&&◌, cond, List, [], ◌∷◌, ◌++◌, ℕ, zero, suc, ◌+◌, ◌*◌, ◌-◌, ◌/◌, ◌%◌, eqb, leb, ltb, length}
use Rattle.std.proofs.Math.Option.{Option, none, some}

-- the byte of a figure: 0 to 9, then a to f
abbrev pub figure : ℕ → ℕ
figure d = cond (ltb d 10) (48 + d) (87 + d)

-- the figure of a byte; 16, which is one of no base, where there is none
abbrev pub worth : ℕ → ℕ
worth c = cond (leb 48 c && leb c 57) (c - 48) (cond (leb 97 c && leb c 102) (c - 87) 16)

-- the figures of n with no leading zero, `0` for zero; the first number bounds how many there are
unfoldable pub numeral_in : ℕ → ℕ → ℕ → List ℕ
numeral_in zero base n = []
numeral_in (suc f) base n =
    elim (ltb n base) [ true ↦ figure n ∷ [] | false ↦ numeral_in f base (n / base) ++ (figure (n % base) ∷ []) ]

-- the figures of n
unfoldable pub numeral : ℕ → ℕ → List ℕ
numeral base n = numeral_in (suc n) base n

-- every byte is a figure of the base
unfoldable pub figures : ℕ → List ℕ → Bool
figures base [] = true
figures base (c ∷ s) = ltb (worth c) base && figures base s

-- a zero stands before other figures
abbrev pub padded : List ℕ → Bool
padded [] = false
padded (c ∷ []) = false
padded (c ∷ d ∷ s) = eqb c 48

-- what n comes to with the figures s behind it
unfoldable pub followed : ℕ → ℕ → List ℕ → ℕ
followed base n [] = n
followed base n (c ∷ s) = followed base (n * base + worth c) s

-- the number that s spells in 1 to `most` figures of the base, with no leading zero
unfoldable pub number : ℕ → ℕ → List ℕ → Option ℕ
number base most s =
    cond (leb 1 (length s) && leb (length s) most && not (padded s) && figures base s) (some (followed base 0 s)) none

-- Fields: what a scan for a byte finds, and what the field parsers answer.
use Rattle.std.specs.Prelude.{◌≡◌, Bool, not, ◌&&◌, cond, List, [], ◌∷◌, ℕ, suc, ◌≤◌, ◌<◌, eqb, leb, ℤ, pos, length, get_or, take, drop}
use Rattle.std.proofs.Math.Option.{Option, none, some}
use Rattle.digits.specs.Integer.{signed_by}
use Rattle.sheet.specs.Numeral.{padded, figures, followed}
use Rattle.sheet.specs.Spelling.{minus, cut}
use Rattle.sheet.specs.Spelling.Cut.{Lacks}
use Rattle.std.specs.declared.option.Option as declared
use Rattle.std.specs.declared.option.Option.TheVariants.{Some, None}

-- s spells a number in 1 to `most` figures of the base, with no leading zero
abbrev pub is_numeral : ℕ → ℕ → List ℕ → Bool
is_numeral base most s = leb 1 (length s) && leb (length s) most && not (padded s) && figures base s

-- the sign of a field: 1 where a minus stands first; and the field without it
abbrev pub sign_of : List ℕ → ℕ
sign_of [] = 0
sign_of (c ∷ s) = cond (eqb c minus) 1 0

abbrev pub unsigned : List ℕ → List ℕ
unsigned s = drop (sign_of s) s

-- s spells a whole number so: behind a minus the first figure is not 0
abbrev pub is_whole : ℕ → ℕ → List ℕ → Bool
is_whole base most s = is_numeral base most (unsigned s) && not (eqb (sign_of s) 1 && eqb (get_or (unsigned s) 0 0) 48)

-- the whole number of a sign and figures behind it
abbrev pub whole_of : ℕ → List ℕ → ℤ
whole_of base s = signed_by (sign_of s) (pos (followed base 0 (unsigned s)))

-- what was read, as the code has it
abbrev pub decimal_of : Option ℕ → declared.Option ℕ
decimal_of none = None
decimal_of (some n) = Some n

-- i is the index of the first b in s, or the length where there is none
pub record First (b : ℕ) (s : List ℕ) (i : ℕ) : Type 0 where
  pub most : i ≤ length s
  pub lacks : Lacks b (take i s)
  pub found : i < length s → get_or s i 0 ≡ b

-- the parts of s from r on are those from `at` on without the first
pub record Behind (b : ℕ) (s : List ℕ) (at r : ℕ) : Type 0 where
  pub most : r ≤ length s
  pub parts : (k : ℕ) → get_or (cut b (drop r s)) k [] ≡ get_or (cut b (drop at s)) (suc k) []

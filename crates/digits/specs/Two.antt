-- Columns of two rows: the digits of k, which go with P, over those of l, which go with Q.
pub mod Sign
pub mod Paired
use Rattle.std.specs.Prelude.{◌≡◌, refl, ◌≢◌, Bool, true, false, not, ◌&&◌, List, [], ◌∷◌, zero, suc, T, ℤ, pos, negsuc}
use Rattle.std.proofs.Common.{sym, ap, ⊎_elim, arith}
use Rattle.std.proofs.Math.IntN.{pos-ne-negsuc}
use Rattle.std.proofs.Math.Facts.{and_yes, and_no}
use Rattle.digits.specs.Integer.{up}
use Rattle.digits.specs.Column.{Kind}

pub record Column : Type 0 where
  pub p : ℤ
  pub q : ℤ

-- the two rows
pub data Two : Type 0 where
  P : Two
  Q : Two

abbrev pub other : Two → Two
other P = Q
other Q = P

-- of two things, the one that goes with a row
abbrev pub of : {A : Type 0} → A → A → Two → A
of k l P = k
of k l Q = l

abbrev pub digit : Column → Two → ℤ
digit c P = c.p
digit c Q = c.q

abbrev pub column : (Two → ℤ) → Column
column f = record { p = f P; q = f Q }

pub digit_column : (f : Two → ℤ) (r : Two) → digit (column f) r ≡ f r
digit_column f P = refl
digit_column f Q = refl

abbrev pub is_zero : ℤ → Bool
is_zero (pos zero) = true
is_zero (pos (suc n)) = false
is_zero (negsuc n) = false

-- a column is zero when both digits are
abbrev pub blank : Column → Bool
blank c = is_zero c.p && is_zero c.q

abbrev pub blank_column : Column
blank_column = record { p = pos 0; q = pos 0 }

zero_is : (z : ℤ) → T (is_zero z) → z ≡ pos 0
zero_is (pos zero) t = refl
zero_is (pos (suc n)) t = absurd t
zero_is (negsuc n) t = absurd t

zero_not : (z : ℤ) → T (not (is_zero z)) → z ≢ pos 0
zero_not (pos zero) t e = t
zero_not (pos (suc n)) t e = let h : suc n ≡ 0 = ap up e in omega arith
zero_not (negsuc n) t e = pos-ne-negsuc 0 n (sym e)

pub blank_digit : (c : Column) → T (blank c) → (r : Two) → digit c r ≡ pos 0
blank_digit c t P = zero_is c.p (and_yes (is_zero c.p) (is_zero c.q) t).0
blank_digit c t Q = zero_is c.q (and_yes (is_zero c.p) (is_zero c.q) t).1

pub full_digit : (c : Column) → T (not (blank c)) → (r : Two) × (digit c r ≢ pos 0)
full_digit c t =
    ⊎_elim (λ u. (P, zero_not c.p u)) (λ u. (Q, zero_not c.q u)) (and_no (is_zero c.p) (is_zero c.q) t)

-- two rows, as a kind of column
abbrev pub two : Kind
two =
    record {
      Row = Two;
      Column = Column;
      digit = digit;
      column = column;
      digit_column = digit_column;
      blank = blank;
      blank_digit = blank_digit;
      full_digit = full_digit;
    }

-- two rows over the same places make columns; above its top a row has zeros
unfoldable pub paired : List ℤ → List ℤ → List Column
paired [] [] = []
paired (a ∷ xs) [] = record { p = a; q = pos 0 } ∷ paired xs []
paired [] (b ∷ ys) = record { p = pos 0; q = b } ∷ paired [] ys
paired (a ∷ xs) (b ∷ ys) = record { p = a; q = b } ∷ paired xs ys

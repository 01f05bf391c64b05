-- A column's byte is read back as the column, and a byte's column has that byte; and a digit's byte is that of the digit it stores.
use Rattle.std.specs.Prelude.{◌≡◌, refl, true, ◌&&◌, List, [], ◌∷◌, ◌++◌, map, ℕ, zero, suc, ◌+◌, ◌*◌, ◌/◌, ◌%◌, ◌≤◌, ℤ, pos, ◌+ℤ◌, ◌-ℤ◌, nat_abs, length, take, replicate}
use Rattle.std.specs.List.{list_all}
use Rattle.std.proofs.Common.{sym, ap, ap₂, subst, ◌∙◌, le_of_suc-le-suc, arith, leb-true, le-leb}
use Rattle.std.proofs.Math.Bool.{and-eq-true_iff}
use Rattle.digits.specs.Buffer.{row_below, columns_below}
use Rattle.digits.specs.Byte.{byte_of, signed}
use Rattle.digits.proofs.Laws.Byte.Signed.{signed_byte, byte_signed}
use Rattle.digits.specs.Column.{row, Small, empty, more}
use Rattle.digits.specs.Integer.{up}
use Rattle.digits.specs.Integer.Parts.{integers, sum, difference, one_side, size}
use Rattle.digits.specs.Scalar.{Bytes}
use Rattle.digits.specs.Two.{Column, Two, P, Q, two, digit, paired}
use Rattle.packing.specs.Body.{column_of}
use Rattle.packing.specs.Packing.{byte_of_column, column_of_byte, stores_digit, stores_column}

-- a digit and one more, less one
lowered : (z : ℤ) → nat_abs z ≤ 1 → pos (up (z +ℤ pos 1)) -ℤ pos 1 ≡ z
lowered z h = omega (integers, size z, sum z (pos 1), one_side (z +ℤ pos 1), one_side z, difference (pos (up (z +ℤ pos 1))) (pos 1))

-- at most 2
raised_most : (z : ℤ) → nat_abs z ≤ 1 → up (z +ℤ pos 1) ≤ 2
raised_most z h = omega (arith, size z, sum z (pos 1), one_side (z +ℤ pos 1))

-- the parts of 3 a + b
quotient : (a b : ℕ) → b ≤ 2 → (3 * a + b) / 3 ≡ a
quotient a b h = omega arith

remainder : (a b : ℕ) → b ≤ 2 → (3 * a + b) % 3 ≡ b
remainder a b h = omega arith

column_back : (c : Column) → nat_abs c.p ≤ 1 → nat_abs c.q ≤ 1 → column_of_byte (byte_of_column c) ≡ c
unfolding byte_of_column column_of_byte
column_back c h g =
    ap₂ (λ (a b : ℤ). record { p = a; q = b })
    (ap (λ (n : ℕ). pos n -ℤ pos 1) (quotient (up (c.p +ℤ pos 1)) (up (c.q +ℤ pos 1)) (raised_most c.q g)) ∙ lowered c.p h)
    (ap (λ (n : ℕ). pos n -ℤ pos 1) (remainder (up (c.p +ℤ pos 1)) (up (c.q +ℤ pos 1)) (raised_most c.q g)) ∙ lowered c.q g)

-- a number less one, and one more
raised : (n : ℕ) → up (pos n -ℤ pos 1 +ℤ pos 1) ≡ n
raised n = omega (arith, difference (pos n) (pos 1), sum (pos n -ℤ pos 1) (pos 1), one_side (pos n -ℤ pos 1 +ℤ pos 1))

byte_back : (b : ℕ) → byte_of_column (column_of_byte b) ≡ b
unfolding byte_of_column column_of_byte
byte_back b =
    let split : 3 * (b / 3) + b % 3 ≡ b = omega arith in
    ap₂ (λ (m n : ℕ). 3 * m + n) (raised (b / 3)) (raised (b % 3)) ∙ split

-- one more than a digit that a byte stores is at most 2
pub raised_digit : (b : ℕ) → stores_digit b ≡ true → up (signed b +ℤ pos 1) ≤ 2
raised_digit b e = raised_most (signed b) (leb-true (nat_abs (signed b)) 1 e)

-- ── lists ───────────────────────────────────────────────────────────────────────────────────

-- columns of −1, 0, 1 are read back from their bytes, and none of these is above 8
pub columns_back : {cs : List Column} → Small two cs → map column_of_byte (map byte_of_column cs) ≡ cs
columns_back empty = refl
columns_back (more {c = c} h hs) = ap₂ ◌∷◌ (column_back c (h P) (h Q)) (columns_back hs)

low_byte : (c : Column) → nat_abs c.p ≤ 1 → nat_abs c.q ≤ 1 → stores_column (byte_of_column c) ≡ true
unfolding byte_of_column
low_byte c h g = le-leb (byte_of_column c) 8 (omega (arith, raised_most c.p h, raised_most c.q g))

pub columns_low : {cs : List Column} → Small two cs → list_all stores_column (map byte_of_column cs) ≡ true
columns_low empty = refl
columns_low (more {c = c} h hs) = ap₂ ◌&&◌ (low_byte c (h P) (h Q)) (columns_low hs)

-- bytes are those of their columns, and these are of −1, 0, 1 where no byte is above 8
pub bytes_back : (bs : List ℕ) → map byte_of_column (map column_of_byte bs) ≡ bs
bytes_back [] = refl
bytes_back (b ∷ bs) = ap₂ ◌∷◌ (byte_back b) (bytes_back bs)

small_part : (n : ℕ) → n ≤ 2 → nat_abs (pos n -ℤ pos 1) ≤ 1
small_part n h = omega (arith, size (pos n -ℤ pos 1), difference (pos n) (pos 1), one_side (pos n -ℤ pos 1))

small_column : (b : ℕ) → b ≤ 8 → (r : Two) → nat_abs (digit (column_of_byte b) r) ≤ 1
unfolding column_of_byte
small_column b h P = small_part (b / 3) (omega arith)
small_column b h Q = small_part (b % 3) (omega arith)

pub bytes_small : (bs : List ℕ) → list_all stores_column bs ≡ true → Small two (map column_of_byte bs)
bytes_small [] e = empty
bytes_small (b ∷ bs) e =
    let (low, rest) = (and-eq-true_iff (stores_column b) (list_all stores_column bs)).0 e in
    more (small_column b (leb-true b 8 low)) (bytes_small bs rest)

-- rows of bytes that store digits make columns of −1, 0, 1, and only such rows do
small_of : (a b : ℕ) → nat_abs (signed a) ≤ 1 → nat_abs (signed b) ≤ 1 → (r : Two) → nat_abs (digit (column_of a b) r) ≤ 1
small_of a b h g P = h
small_of a b h g Q = g

pub digits_small : (n : ℕ) (k l : List ℕ) → n ≤ length k → n ≤ length l → list_all stores_digit (take n k) ≡ true → list_all stores_digit (take n l) ≡ true
    → Small two (columns_below n k l)
unfolding columns_below row_below paired
digits_small zero k l h g e f = empty
digits_small (suc n) [] l h g e f = absurd (omega arith)
digits_small (suc n) (a ∷ k) [] h g e f = absurd (omega arith)
digits_small (suc n) (a ∷ k) (b ∷ l) h g e f =
    let (x, xs) = (and-eq-true_iff (stores_digit a) (list_all stores_digit (take n k))).0 e in
    let (y, ys) = (and-eq-true_iff (stores_digit b) (list_all stores_digit (take n l))).0 f in
    more (small_of a b (leb-true (nat_abs (signed a)) 1 x) (leb-true (nat_abs (signed b)) 1 y))
    (digits_small n k l (le_of_suc-le-suc h) (le_of_suc-le-suc g) xs ys)

pub small_digits : (n : ℕ) (k l : List ℕ) → n ≤ length k → n ≤ length l → Small two (columns_below n k l)
    → (list_all stores_digit (take n k) ≡ true) × (list_all stores_digit (take n l) ≡ true)
unfolding columns_below row_below paired
small_digits zero k l h g s = (refl, refl)
small_digits (suc n) [] l h g s = absurd (omega arith)
small_digits (suc n) (a ∷ k) [] h g s = absurd (omega arith)
small_digits (suc n) (a ∷ k) (b ∷ l) h g (more x xs) =
    let (u, v) = small_digits n k l (le_of_suc-le-suc h) (le_of_suc-le-suc g) xs in
    (ap₂ ◌&&◌ (le-leb (nat_abs (signed a)) 1 (x P)) u, ap₂ ◌&&◌ (le-leb (nat_abs (signed b)) 1 (x Q)) v)

-- the bytes of a row of such columns store digits, also with zeros above them
digit_stored : (d : ℤ) → nat_abs d ≤ 1 → stores_digit (byte_of d) ≡ true
digit_stored d h = le-leb (nat_abs (signed (byte_of d))) 1 (subst (λ (z : ℤ). nat_abs z ≤ 1) (sym (signed_byte d (omega arith))) h)

zeros_stored : (z : ℕ) → list_all stores_digit (replicate z 0) ≡ true
zeros_stored zero = refl
zeros_stored (suc z) = zeros_stored z

pub row_stored : {cs : List Column} (r : Two) (z : ℕ) → Small two cs → list_all stores_digit (map byte_of (row two r cs) ++ replicate z 0) ≡ true
unfolding row
row_stored r z empty = zeros_stored z
row_stored r z (more {c = c} h hs) = ap₂ ◌&&◌ (digit_stored (digit c r) (h r)) (row_stored r z hs)

-- a row's bytes are those of its digits
pub digits_back : (n : ℕ) (s : List ℕ) → Bytes s → map byte_of (row_below n s) ≡ take n s
unfolding row_below
digits_back zero s h = refl
digits_back (suc n) [] h = refl
digits_back (suc n) (b ∷ s) h = ap₂ ◌∷◌ (byte_signed b (h 0)) (digits_back n s (λ i. h (suc i)))

-- The digit of the joint sparse form: it depends on the remainders by 8 only (`digit_mod`), is −1, 0 or 1, and leaves an
-- even number (`rest_is`), nearer to 0 (`rest_falls`). One table of all remainders by 8 is computed.
use Rattle.std.specs.Prelude.{◌≡◌, refl, Bool, true, false, ℕ, zero, suc, ◌+◌, ◌*◌, ◌-◌, ◌%◌, ◌≤◌, ◌<◌, eqb, ℤ, pos, negsuc, ◌+ℤ◌, ◌-ℤ◌, nat_abs}
use Rattle.std.proofs.Common.{mul-add, arith, eqb-true}
use Rattle.std.proofs.lemmas.Bool.{eqb-false}
use Rattle.digits.specs.Integer.{up, down, rem, quo}
use Rattle.digits.specs.Integer.Parts.{integers, sum, difference, size, one_side, rem_lt, rem_only, division, half_even}
use Rattle.forms.specs.Residue.{residue}
use Rattle.forms.specs.Joint.{digit, rest}
use Rattle.forms.specs.Test.{Test, both, within, equal, every_below}
use Rattle.forms.specs.Joint.Digit.{Alike, Split}

-- the remainders by 2 and by 4, from that by 8
pub rem_two : (c : ℤ) → nat_abs c % 2 ≡ rem c 8 % 2
rem_two (pos n) = omega arith
rem_two (negsuc n) = omega arith

pub rem_four : (c : ℤ) → rem c 4 ≡ rem c 8 % 4
rem_four (pos n) = omega arith
rem_four (negsuc n) = omega arith

pub rem_eight : (c : ℤ) → rem c 8 % 8 ≡ rem c 8
rem_eight c = omega (arith, rem_lt c 8 (omega arith))

-- the digit is that of the remainders by 8
pub digit_rem : (c o : ℤ) → digit c o ≡ digit (pos (rem c 8)) (pos (rem o 8))
unfolding digit residue
digit_rem c o = rw (rem_two c, rem_four c, rem_four o, rem_eight c)

-- the digit depends on the two numbers modulo 8 only
pub digit_mod : (c c' o o' : ℤ) → rem c 8 ≡ rem c' 8 → rem o 8 ≡ rem o' 8 → digit c o ≡ digit c' o'
digit_mod c c' o o' p q = cc (digit_rem c o, digit_rem c' o')

-- numbers that differ by a multiple of M have the same remainder by M
pub alike_rem : (M : ℕ) (k x : ℤ) (a b : ℕ) → 0 < M → Alike k x (M * a) (M * b) → rem k M ≡ rem x M
alike_rem M k x a b h e =
    let p : ℕ = up (quo x M) in
    let n : ℕ = down (quo x M) in
    rem_only k M (rem x M) (p + a) (n + b) h (rem_lt x M h) (omega (arith, division x M h, mul-add M p a, mul-add M n b))

-- d is −1, 0 or 1, and even where x is
abbrev Fits : ℕ → ℤ → Type 0
Fits x d = (nat_abs d ≤ 1) × ((x + nat_abs d) % 2 ≡ 0)

-- the table of the digits of all remainders by 8
table : (x : ℕ) → x < 8 → (y : ℕ) → y < 8 → Fits x (digit (pos x) (pos y))
unfolding digit residue
table = (every_below 8 (λ x. every_below 8 (λ y. fits x (digit (pos x) (pos y))))).tells tt
  where
    fits : (x : ℕ) (d : ℤ) → Test (Fits x d)
    fits x d = both (within (nat_abs d) 1) (equal ((x + nat_abs d) % 2) 0)

-- the digit is −1, 0 or 1, and even where c is
pub digit_fits : (c o : ℤ) → (nat_abs (digit c o) ≤ 1) × ((nat_abs c + nat_abs (digit c o)) % 2 ≡ 0)
digit_fits c o =
    let h = table (rem c 8) (rem_lt c 8 (omega arith)) (rem o 8) (rem_lt o 8 (omega arith)) in
    rw (digit_rem c o) (omega (arith, rem_two c))

-- c is its digit and twice what is left
pub rest_parts : (c o : ℤ) → Split c (digit c o) (rest c o)
unfolding rest
rest_parts c o =
    let d : ℤ = digit c o in
    let z : ℤ = c -ℤ d in
    let even : nat_abs z % 2 ≡ 0 = omega (arith, difference c d, size c, size d, size z, (digit_fits c o).1) in
    omega (arith, difference c d, half_even z even)

-- the same as an equation of integers
pub rest_is : (c o : ℤ) → c ≡ digit c o +ℤ (rest c o +ℤ rest c o)
rest_is c o =
    let d : ℤ = digit c o in
    let e : ℤ = rest c o in
    omega (integers, rest_parts c o, sum d (e +ℤ e), sum e e)

-- and nothing else is left
pub rest_only : (c o a : ℤ) → c ≡ digit c o +ℤ (a +ℤ a) → a ≡ rest c o
rest_only c o a e = omega (integers, rest_parts c o, sum (digit c o) (a +ℤ a), sum a a)

-- numbers with one digit that differ by a multiple of 8 leave numbers that differ by a multiple of 4
pub alike_rest : (k x l y : ℤ) (a b : ℕ) → digit k l ≡ digit x y → Alike k x (8 * a) (8 * b) → Alike (rest k l) (rest x y) (4 * a) (4 * b)
alike_rest k x l y a b e p = omega (integers, e, rest_parts k l, rest_parts x y)

-- what is left has the remainder by 4 that what is left of the remainders has
pub rest_rem : (k l : ℤ) → rem (rest k l) 4 ≡ rem (rest (pos (rem k 8)) (pos (rem l 8))) 4
rest_rem k l =
    let x : ℤ = pos (rem k 8) in
    let y : ℤ = pos (rem l 8) in
    let a : ℕ = up (quo k 8) in
    let b : ℕ = down (quo k 8) in
    let p : Alike k x (8 * a) (8 * b) = omega (arith, division k 8 (omega arith)) in
    alike_rem 4 (rest k l) (rest x y) a b (omega arith) (alike_rest k x l y a b (digit_rem k l) p)

-- a number of size 1 is its own digit
pub digit_unit : (c o : ℤ) → nat_abs c ≡ 1 → digit c o ≡ c
unfolding digit residue
digit_unit (pos zero) o e = absurd (omega arith)
digit_unit (pos (suc zero)) o e = refl
digit_unit (pos (suc (suc n))) o e = absurd (omega arith)
digit_unit (negsuc zero) o e = refl
digit_unit (negsuc (suc n)) o e = absurd (omega arith)

-- the size of what is left
pub rest_size : (c o : ℤ) → 2 * nat_abs (rest c o) ≤ nat_abs c + nat_abs (digit c o)
rest_size c o =
    omega (arith, rest_parts c o, size c, size (digit c o), size (rest c o), one_side (rest c o))

rest_unit : (c o : ℤ) → digit c o ≡ c → nat_abs (rest c o) ≡ 0
rest_unit c o e = omega (integers, rest_parts c o, e, size (rest c o), one_side (rest c o))

-- what is left of a number is nearer to 0, unless the number is 0
pub rest_falls : (c o : ℤ) → nat_abs (rest c o) ≤ nat_abs c - 1
rest_falls c o = go (eqb (nat_abs c) 1) refl
  where
    go : (b : Bool) → eqb (nat_abs c) 1 ≡ b → nat_abs (rest c o) ≤ nat_abs c - 1
    go true h = omega (arith, rest_unit c o (digit_unit c o (eqb-true (nat_abs c) 1 h)))
    go false h = omega (arith, rest_size c o, digit_fits c o, eqb-false (nat_abs c) 1 h)

-- what is left of a natural number is one
pub joint_rest_pos : (k l : ℕ) → (n : ℕ) × (rest (pos k) (pos l) ≡ pos n)
joint_rest_pos k l =
    let d : ℤ = digit (pos k) (pos l) in
    let e : ℤ = rest (pos k) (pos l) in
    (up e, omega (integers, rest_parts (pos k) (pos l), digit_fits (pos k) (pos l), size d, one_side e))

-- Whole numbers for `omega`, which reads naturals only: z is `up z` less `down z`, with one law for each operation.
-- `integers` lets `omega` read and prove equations of ℤ; the law of each compound term goes into its list. Assumes nothing.
use Rattle.std.specs.Prelude.{◌≡◌, Bool, true, false, not, cond, ℕ, zero, suc, ◌+◌, ◌*◌, ◌-◌, ◌%◌, ◌≤◌, ◌<◌, min, T, ltb, ℤ, pos, negsuc, ◌+ℤ◌, ◌-ℤ◌, ◌*ℤ◌, neg_ℤ, nat_abs}
use Rattle.std.proofs.Common.{sym, ap, ◌∙◌, mod-lt, div-add-mod', arith, ltb→lt, nltb→le}
use Rattle.std.proofs.Math.Arith.{digits_mod}
use Rattle.std.proofs.Math.IntN.{sub_ℕ}
use Rattle.std.specs.Int.Signed.{mag}
use Rattle.digits.specs.Integer.{up, down, quo, rem, half}

pub read_eq : (a b : ℤ) → a ≡ b → up a + down b ≡ up b + down a
read_eq a b e = go (ap up e) (ap down e)
  where
    go : up a ≡ up b → down a ≡ down b → up a + down b ≡ up b + down a
    go p q = omega arith

pub show_eq : (a b : ℤ) → up a + down b ≡ up b + down a → a ≡ b
show_eq (pos m) (pos n) e = ap pos (omega arith)
show_eq (pos m) (negsuc n) e = absurd (omega arith)
show_eq (negsuc m) (pos n) e = absurd (omega arith)
show_eq (negsuc m) (negsuc n) e = ap negsuc (omega arith)

pub ruleset integers = (arith, read_eq, show_eq)

-- one of the two is 0
pub one_side : (z : ℤ) → min (up z) (down z) ≡ 0
one_side (pos n) = omega arith
one_side (negsuc n) = omega arith

pub size : (z : ℤ) → nat_abs z ≡ up z + down z
size (pos n) = omega arith
size (negsuc n) = omega arith

-- a less b, for naturals
up_sub : (t : Bool) (a b : ℕ) → (T t → a < b) → (T (not t) → b ≤ a) → (up (cond t (negsuc (b - suc a)) (pos (a - b))) ≡ a - b) × (down (cond t (negsuc (b - suc a)) (pos (a - b))) ≡ b - a)
up_sub true a b p q = let h : a < b = p tt in omega arith
up_sub false a b p q = let h : b ≤ a = q tt in omega arith

pub up_subℕ : (a b : ℕ) → (up (sub_ℕ a b) ≡ a - b) × (down (sub_ℕ a b) ≡ b - a)
up_subℕ a b = up_sub (ltb a b) a b (ltb→lt a b) (nltb→le a b)

pub sum : (a b : ℤ) → up (a +ℤ b) + (down a + down b) ≡ (up a + up b) + down (a +ℤ b)
sum (pos a) (pos b) = omega arith
sum (pos a) (negsuc b) = omega (arith, up_subℕ a (suc b))
sum (negsuc a) (pos b) = omega (arith, up_subℕ b (suc a))
sum (negsuc a) (negsuc b) = omega arith

pub negation : (a : ℤ) → (up (neg_ℤ a) ≡ down a) × (down (neg_ℤ a) ≡ up a)
negation (pos zero) = omega arith
negation (pos (suc n)) = omega arith
negation (negsuc n) = omega arith

pub difference : (a b : ℤ) → up (a -ℤ b) + (down a + up b) ≡ (up a + down b) + down (a -ℤ b)
difference a b = omega (arith, sum a (neg_ℤ b), negation b)

-- x + M u ≡ y + M v with x and y below M: the same x
same : (M x y u v : ℕ) → x < M → y < M → x + M * u ≡ y + M * v → x ≡ y
same M x y u v p q e =
    sym (digits_mod u p) ∙ ap (λ (n : ℕ). n % M) (omega arith) ∙ digits_mod v q

pub rem_lt : (z : ℤ) (M : ℕ) → 0 < M → rem z M < M
rem_lt (pos n) M h = mod-lt n h
rem_lt (negsuc n) M h = omega (arith, mod-lt n h)

pub division : (z : ℤ) (M : ℕ) → 0 < M → up z + M * down (quo z M) ≡ rem z M + M * up (quo z M) + down z
division (pos n) M h = omega (arith, div-add-mod' n M)
division (negsuc n) M h = omega (arith, div-add-mod' n M, mod-lt n h)

-- the remainder is the only one: z = x + M (a − b) with x below M
pub rem_only : (z : ℤ) (M x a b : ℕ) → 0 < M → x < M → up z + M * b ≡ x + M * a + down z → rem z M ≡ x
rem_only z M x a b h l e =
    same M (rem z M) x (up (quo z M) + b) (a + down (quo z M)) (rem_lt z M h) l (omega (arith, division z M h))

pub half_even : (z : ℤ) → nat_abs z % 2 ≡ 0 → up z + 2 * down (half z) ≡ 2 * up (half z) + down z
unfolding half
half_even (pos n) h = omega arith
half_even (negsuc n) h = omega arith

pub times : (M : ℕ) (z : ℤ) → (up (pos M *ℤ z) ≡ M * up z) × (down (pos M *ℤ z) ≡ M * down z)
times M (pos n) = omega arith
times M (negsuc n) = omega (arith, negation (pos (M * suc n)))

-- the bound that a signed machine number has
pub mag_size : (z : ℤ) → mag z ≤ up z + down z
mag_size (pos n) = omega arith
mag_size (negsuc n) = omega arith

-- The low and the high bits of a number, and bits that are each turned: part by part.
use mathlib.Core.Path.{◌≡◌, refl, sym, ap, ap₂, subst, ◌∙◌}
use mathlib.Core.Logic.{◌≢◌}
use Prim.Native.Nat.{ℕ, zero, suc, ◌+◌, ◌*◌, ◌-◌, ◌/◌, ◌%◌, ◌^◌, ◌<◌}
use native.Mathlib.Nat.{mul_comm, add-mul, add-zero, mod-lt, div-add-mod'}
use native.Mathlib.Omega.{arith}
use lib.Arith.{digits_div, digits_mod, mod-mul}
use lib.Pow.{pow-add, pow_pos, shr_lt}
use Rattle.down.specs.Body.Ahead.{turned}

-- ── low bits ────────────────────────────────────────────────────────────────────────────────

pub split : (x a b : ℕ) → x % 2 ^ (a + b) ≡ (x / 2 ^ a % 2 ^ b) * 2 ^ a + x % 2 ^ a
split x a b = ap (λ (n : ℕ). x % n) (pow-add 2 a b ∙ mul_comm (2 ^ a) (2 ^ b)) ∙ mod-mul x (pow_pos b) (pow_pos a)

-- the low bits of the low bits
pub fewer : (x a b : ℕ) → x % 2 ^ (a + b) % 2 ^ a ≡ x % 2 ^ a
fewer x a b =
    ap (λ (n : ℕ). n % 2 ^ a) (split x a b) ∙ digits_mod (x / 2 ^ a % 2 ^ b) (mod-lt x (pow_pos a))

-- their high bits
pub higher : (x a b : ℕ) → x % 2 ^ (a + b) / 2 ^ a ≡ x / 2 ^ a % 2 ^ b
higher x a b = ap (λ (n : ℕ). n / 2 ^ a) (split x a b) ∙ digits_div (x / 2 ^ a % 2 ^ b) (mod-lt x (pow_pos a))

-- with bits below them
pub joined : (x w a b : ℕ) → w < 2 ^ a → (x * 2 ^ a + w) % 2 ^ (a + b) ≡ x % 2 ^ b * 2 ^ a + w
joined x w a b h = split (x * 2 ^ a + w) a b ∙ ap₂ (λ (p q : ℕ). p % 2 ^ b * 2 ^ a + q) (digits_div x h) (digits_mod x h)

pub above_zeros : (x a b : ℕ) → x * 2 ^ a % 2 ^ (a + b) ≡ x % 2 ^ b * 2 ^ a
above_zeros x a b = ap (λ (n : ℕ). n % 2 ^ (a + b)) (sym (add-zero (x * 2 ^ a))) ∙ joined x 0 a b (pow_pos a) ∙ add-zero (x % 2 ^ b * 2 ^ a)

-- ── bits that are turned ────────────────────────────────────────────────────────────────────

pub turned_minus : (sign h y : ℕ) → sign ≢ 0 → turned sign h y ≡ 2 ^ h - 1 - y
turned_minus zero h y n = absurd (n refl)
turned_minus (suc s) h y n = refl

pub turned_less : (sign h y : ℕ) → y < 2 ^ h → turned sign h y < 2 ^ h
turned_less zero h y l = l
turned_less (suc s) h y l = omega arith

-- all of a + b bits, of which q are the upper ones
pub all_bits : (a b q : ℕ) → q < 2 ^ b → 2 ^ (a + b) ≡ (2 ^ b - 1 - q) * 2 ^ a + (q * 2 ^ a + 2 ^ a)
all_bits a b q l =
    let r : ℕ = 2 ^ b - 1 - q in
    pow-add 2 a b ∙ mul_comm (2 ^ a) (2 ^ b) ∙ ap (λ (n : ℕ). n * 2 ^ a) {x = 2 ^ b} {y = r + (q + 1)} (omega arith)
    ∙ omega (arith, add-mul r (q + 1) (2 ^ a), add-mul q 1 (2 ^ a))

-- two parts are turned apart
pub turned_joined : (sign a b q w : ℕ) → q < 2 ^ b → w < 2 ^ a → turned sign (a + b) (q * 2 ^ a + w) ≡ turned sign b q * 2 ^ a + turned sign a w
turned_joined zero a b q w l h = refl
turned_joined (suc s) a b q w l h = omega (arith, all_bits a b q l)

-- the low ones of turned bits, and the high ones
module _ (sign a b y : ℕ) (h : y < 2 ^ (a + b)) where
  small : y % 2 ^ a < 2 ^ a
  small = mod-lt y (pow_pos a)

  turned_parts : turned sign (a + b) y ≡ turned sign b (y / 2 ^ a) * 2 ^ a + turned sign a (y % 2 ^ a)
  turned_parts =
      ap (turned sign (a + b)) (sym (div-add-mod' y (2 ^ a)))
      ∙ turned_joined sign a b (y / 2 ^ a) (y % 2 ^ a) (shr_lt b a (subst (λ (n : ℕ). y < 2 ^ n) {x = a + b} {y = b + a} (omega arith) h)) small

  pub turned_low : turned sign (a + b) y % 2 ^ a ≡ turned sign a (y % 2 ^ a)
  turned_low = ap (λ (n : ℕ). n % 2 ^ a) turned_parts ∙ digits_mod (turned sign b (y / 2 ^ a)) (turned_less sign a (y % 2 ^ a) small)

  pub turned_high : turned sign (a + b) y / 2 ^ a ≡ turned sign b (y / 2 ^ a)
  turned_high = ap (λ (n : ℕ). n / 2 ^ a) turned_parts ∙ digits_div (turned sign b (y / 2 ^ a)) (turned_less sign a (y % 2 ^ a) small)

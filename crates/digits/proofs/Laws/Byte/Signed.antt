-- The digit of a byte; that the byte of a digit is read back as the digit, and the digit of a byte has that byte; and the byte of a negated
-- digit. Assumes nothing.
use Rattle.std.specs.Prelude.{◌≡◌, refl, Bool, true, false, ℕ, suc, ◌-◌, ◌%◌, ◌≤◌, ◌<◌, ltb, ℤ, pos, negsuc, neg_ℤ, nat_abs}
use Rattle.std.proofs.Common.{ap, ◌∙◌, arith, ltb-true, ltb-false, lt-ltb, le-ltb}
use Rattle.digits.specs.Byte.{byte_of, turned, signed}
use Rattle.digits.specs.Integer.Sign.{rem_negated}

pub signed_plain : (b : ℕ) → b < 128 → signed b ≡ pos b
signed_plain b h = rw (lt-ltb b 128 h)

pub signed_minus : (b : ℕ) → 128 ≤ b → signed b ≡ negsuc (255 - b)
signed_minus b h = rw (le-ltb b 128 h)

-- the byte of a small digit is read back as the digit
pub signed_byte : (z : ℤ) → nat_abs z < 128 → signed (byte_of z) ≡ z
unfolding byte_of
signed_byte (pos n) h =
    let e : n % 256 ≡ n = omega arith in
    ap signed e ∙ signed_plain n h
signed_byte (negsuc n) h =
    let e : n % 256 ≡ n = omega arith in
    let f : 255 - (256 - suc n) ≡ n = omega arith in
    ap (λ (m : ℕ). signed (256 - suc m)) e ∙ signed_minus (256 - suc n) (omega arith) ∙ ap negsuc f

-- the digit of a byte has that byte
own_byte : (b : ℕ) → b < 256 → (t : Bool) → ltb b 128 ≡ t → byte_of (signed b) ≡ b
unfolding byte_of
own_byte b h true e =
    let plain : b % 256 ≡ b = omega arith in ap byte_of (signed_plain b (ltb-true b 128 e)) ∙ plain
own_byte b h false e =
    let from : 128 ≤ b = ltb-false b 128 e in
    let minus : 256 - suc ((255 - b) % 256) ≡ b = omega arith in
    ap byte_of (signed_minus b from) ∙ minus

pub byte_signed : (b : ℕ) → b < 256 → byte_of (signed b) ≡ b
byte_signed b h = own_byte b h (ltb b 128) refl

-- a negated digit has the turned byte
pub byte_negated : (d : ℤ) → byte_of (neg_ℤ d) ≡ turned (byte_of d)
unfolding byte_of
byte_negated d = rem_negated d 256 (omega arith)

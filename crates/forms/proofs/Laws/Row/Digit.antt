-- The digit of a remainder meets its rule, is the only number that does, and depends on the remainder modulo 2^W only.
-- From the same of the residue.
use Rattle.std.specs.Prelude.{◌≡◌, refl, ◌≢◌, Bool, true, false, not, cond, ℕ, zero, suc, ◌-◌, ◌%◌, ◌^◌, ◌≤◌, ◌<◌, T, eqb, leb, ℤ, pos, nat_abs}
use Rattle.std.proofs.Common.{ap, arith, leb→le, eqb→eq, pow_pos}
use Rattle.std.proofs.Math.Dec.{nleb→lt}
use Rattle.std.proofs.Math.Facts.{eqb_no}
use Rattle.digits.specs.Integer.{rem}
use Rattle.digits.specs.Integer.Parts.{size}
use Rattle.digits.specs.Integer.Congruent.{Congruent, turned, joined, coarser_power, rem_congruent}
use Rattle.forms.specs.Residue.{Residue, residue, width}
use Rattle.forms.specs.Residue.Only.{congruent, divides, residue_meets, residue_only}
use Rattle.forms.specs.Residue.Width.{width_is}
use Rattle.forms.specs.Row.{DigitRule, even, wide, narrow, digit, within}

-- where the residue for W is not within the window, W − 1 is at least 2
narrower : (m : ℕ) (n : ℕ) → 1 ≤ m → m < n → n < 2 ^ (width m - 1) → 2 ≤ width m - 1
narrower m n h p q = go (width_is m h).k (width_is m h).is
  where
    go : (k : ℕ) → width m ≡ suc (suc k) → 2 ≤ width m - 1
    go zero e = let l : n < 2 ^ (2 - 1) = rw e at q in absurd (omega arith)
    go (suc k) e = omega arith

-- the digit meets the rule
pub digit_meets : (m : ℕ) (c : ℤ) → 1 ≤ m → DigitRule m c (digit m c)
unfolding digit
digit_meets m c h = parity (eqb (nat_abs c % 2) 0) (eqb→eq (nat_abs c % 2) 0) eqb_no
  where
    s : ℤ
    s = residue (width m) c

    fit : nat_abs c % 2 ≡ 1 → (t : Bool) → (T t → nat_abs s ≤ m) → (T (not t) → m < nat_abs s) → DigitRule m c (cond t s (residue (width m - 1) c))
    fit o true p q = wide o (residue_meets (width m) c (omega (arith, (width_is m h).is)) o) (p tt)
    fit o false p q =
        let r : Residue (width m) c s = residue_meets (width m) c (omega (arith, (width_is m h).is)) o in
        narrow o r (q tt) (residue_meets (width m - 1) c (narrower m (nat_abs s) h (q tt) r.between) o)

    parity : (t : Bool) → (T t → nat_abs c % 2 ≡ 0) → (T (not t) → nat_abs c % 2 ≢ 0) → DigitRule m c (cond t (pos 0) (within m c s))
    parity true p q = even (p tt)
    parity false p q =
        let n : nat_abs c % 2 ≢ 0 = q tt in fit (omega arith) (leb (nat_abs s) m) (leb→le (nat_abs s) m) (nleb→lt (nat_abs s) m)

-- the residue for W is within the window or it is not
not_both : {m : ℕ} {c r s : ℤ} → 1 ≤ m → Residue (width m) c r → nat_abs r ≤ m → Residue (width m) c s → m < nat_abs s → ⊥
not_both {m} {c} {r} {s} h p l q g = omega (arith, ap nat_abs (residue_only (width m) c r s (omega (arith, (width_is m h).is)) p q))

-- no two numbers meet the rule
pub digit_only : (m : ℕ) (c d e : ℤ) → 1 ≤ m → DigitRule m c d → DigitRule m c e → d ≡ e
digit_only m c d e h (even p) (even q) = refl
digit_only m c d e h (even p) (wide q r l) = absurd (omega arith)
digit_only m c d e h (even p) (narrow q r l s) = absurd (omega arith)
digit_only m c d e h (wide p r l) (even q) = absurd (omega arith)
digit_only m c d e h (wide p r l) (wide q r' l') = residue_only (width m) c d e (omega (arith, (width_is m h).is)) r r'
digit_only m c d e h (wide p r l) (narrow q r' l' t) = absurd (not_both h r l r' l')
digit_only m c d e h (narrow p r l t) (even q) = absurd (omega arith)
digit_only m c d e h (narrow p r l t) (wide q r' l') = absurd (not_both h r' l' r l)
digit_only m c d e h (narrow p r l t) (narrow q r' l' t') = residue_only (width m - 1) c d e (omega (arith, (width_is m h).is)) t t'

residue_mod : {w : ℕ} {c c' r : ℤ} → Congruent (2 ^ w) c c' → Residue w c r → Residue w c' r
residue_mod {w} {c} {c'} {r} e h =
    record { odd = h.odd; between = h.between; divisible = divides (2 ^ w) c' r (joined (turned e) (congruent h)) }

-- the rule looks at c modulo 2^W only
pub rule_mod : {m : ℕ} {c c' d : ℤ} → 1 ≤ m → Congruent (2 ^ width m) c c' → DigitRule m c d → DigitRule m c' d
rule_mod {m} {c} {c'} h e = step
  where
    parity : nat_abs c % 2 ≡ nat_abs c' % 2
    parity = omega (arith, (coarser_power 1 (width m) (omega (arith, (width_is m h).is)) e).parts, size c, size c')

    step : {d : ℤ} → DigitRule m c d → DigitRule m c' d
    step (even p) = even (omega (arith, parity))
    step (wide p r l) = wide (omega (arith, parity)) (residue_mod e r) l
    step (narrow p r l t) =
        narrow (omega (arith, parity)) (residue_mod e r) l (residue_mod (coarser_power (width m - 1) (width m) (omega arith) e) t)

-- so the low v bits of c give its digit, where v ≥ W
pub digit_mod : (m v : ℕ) (c c' : ℤ) → 1 ≤ m → width m ≤ v → rem c (2 ^ v) ≡ rem c' (2 ^ v) → digit m c ≡ digit m c'
digit_mod m v c c' h l e =
    digit_only m c' (digit m c) (digit m c') h
    (rule_mod h (coarser_power (width m) v l (rem_congruent (2 ^ v) c c' (pow_pos v) e)) (digit_meets m c h))
    (digit_meets m c' h)

-- The residue of an odd number meets its rule, and is the only number that does. From the division with remainder.
use Rattle.std.specs.Prelude.{◌≡◌, ◌↔◌, Bool, true, false, not, cond, ℕ, zero, suc, ◌+◌, ◌*◌, ◌-◌, ◌%◌, ◌^◌, ◌≤◌, ◌<◌, T, ltb, ℤ, pos, ◌-ℤ◌, neg_ℤ, nat_abs}
use Rattle.std.proofs.Common.{ap, sym, ◌∙◌, mul-add, mul-suc, sub-one, arith, ltb→lt, nltb→le, pow_pos}
use Rattle.std.proofs.Math.Nat.{pow-succ'}
use Rattle.std.proofs.Math.IntN.{sub_ℕ}
use Rattle.digits.specs.Integer.{up, down, quo, rem}
use Rattle.digits.specs.Integer.Parts.{rem_lt, division, integers, size, difference, negation, times, up_subℕ}
use Rattle.digits.specs.Integer.Congruent.{Congruent, power_step, turned, joined, near_only}
use Rattle.forms.specs.Residue.{Divides, Residue, residue}

-- c is congruent to its residue
pub congruent : {w : ℕ} {c r : ℤ} → Residue w c r → Congruent (2 ^ w) c r
congruent {w} {c} {r} h =
    let d : Divides (2 ^ w) (c -ℤ r) = h.divisible in
    record { a = up d.0; b = down d.0; parts = omega (integers, d.1, difference c r, times (2 ^ w) d.0) }

-- c − r is divisible by M where c and r are congruent
pub divides : (M : ℕ) (c r : ℤ) → Congruent M c r → Divides M (c -ℤ r)
divides M c r h = (q, omega (integers, h.parts, times M q, difference c r, product))
  where
    q : ℤ
    q = sub_ℕ h.a h.b

    product : M * up q + M * h.b ≡ M * down q + M * h.a
    product =
        sym (mul-add M (up q) h.b) ∙ ap (λ (x : ℕ). M * x) (omega (arith, up_subℕ h.a h.b)) ∙ mul-add M (down q) h.a

-- the bound of a residue for the width w + 1
pub bounded : (n w : ℕ) → (n < 2 ^ w) ↔ (n < 2 ^ (suc w - 1))
bounded n w = (λ l. rw sub-one l, λ l. rw sub-one at l)

-- an odd x past the middle of M, less M
across : (M H x : ℕ) → M ≡ 2 * (2 * H) → x < M → x % 2 ≡ 1 → M ≤ x + x → ((M - x) % 2 ≡ 1) × (M - x < 2 * H)
across M H x e l o g = omega arith

-- the residue of an odd number for a width of 2 and more meets the rule
pub residue_meets : (w : ℕ) (c : ℤ) → 2 ≤ w → nat_abs c % 2 ≡ 1 → Residue w c (residue w c)
unfolding residue
residue_meets zero c h o = absurd (omega arith)
residue_meets (suc zero) c h o = absurd (omega arith)
residue_meets (suc (suc k)) c h o = centre (ltb (x + x) M) (ltb→lt (x + x) M) (nltb→le (x + x) M)
  where
    M : ℕ
    M = 2 ^ suc (suc k)

    x : ℕ
    x = rem c M

    q : ℤ
    q = quo c M

    parted : up c + M * down q ≡ x + M * up q + down c
    parted = division c M (pow_pos (suc (suc k)))

    below : x < M
    below = rem_lt c M (pow_pos (suc (suc k)))

    odd : x % 2 ≡ 1
    odd = omega (arith, parted, size c, power_step (suc k) (up q), power_step (suc k) (down q))

    centre : (t : Bool) → (T t → x + x < M) → (T (not t) → M ≤ x + x) → Residue (suc (suc k)) c (cond t (pos x) (neg_ℤ (pos (M - x))))
    centre true l g =
        record {
          odd = odd;
          between = (bounded x (suc k)).0 (omega (arith, l tt, pow-succ' 2 (suc k)));
          divisible = divides M c (pos x) (record { a = up q; b = down q; parts = omega (arith, parted) });
        }
    centre false l g =
        let r : ℤ = neg_ℤ (pos (M - x)) in
        let a : ((M - x) % 2 ≡ 1) × (M - x < 2 * 2 ^ k) = across M (2 ^ k) x (omega (arith, pow-succ' 2 (suc k))) below odd (g tt) in
        record {
          odd = omega (arith, size r, negation (pos (M - x)));
          between = (bounded (nat_abs r) (suc k)).0 (omega (arith, size r, negation (pos (M - x))));
          divisible =
              divides M c r (record { a = suc (up q); b = down q; parts = omega (arith, parted, below, mul-suc M (up q), negation (pos (M - x))) });
        }

-- no two numbers meet it
pub residue_only : (w : ℕ) (c r s : ℤ) → 1 ≤ w → Residue w c r → Residue w c s → r ≡ s
residue_only zero c r s h p q = absurd (omega arith)
residue_only (suc w) c r s h p q =
    near_only (joined (turned (congruent p)) (congruent q))
    (omega (arith, (bounded (nat_abs r) w).1 p.between, (bounded (nat_abs s) w).1 q.between))

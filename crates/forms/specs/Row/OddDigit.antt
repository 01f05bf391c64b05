-- What the proofs on rows need of the digit of an odd remainder, wide or narrow. From the digit's rule.
use Rattle.std.specs.Prelude.{◌≡◌, refl, ◌≢◌, ◌↔◌, ◌⊎◌, ℕ, zero, suc, ◌+◌, ◌*◌, ◌%◌, ◌^◌, ◌≤◌, ◌<◌, ℤ, pos, negsuc, ◌+ℤ◌, ◌-ℤ◌, nat_abs}
use Rattle.std.proofs.Common.{sym, ap, subst, inl, inr, ⊎_elim, sub-one, arith}
use Rattle.std.proofs.Math.Logic.{⊎_map}
use Rattle.digits.specs.Integer.{up, down}
use Rattle.digits.specs.Integer.Parts.{integers, one_side, size, sum, difference}
use Rattle.digits.specs.Integer.Congruent.{Congruent, power_step, turned, joined, coarser_power, near_only, Apart, congruent_apart, two_of_three}
use Rattle.forms.specs.Residue.{Residue}
use Rattle.forms.specs.Residue.Only.{congruent, bounded}
use Rattle.forms.specs.Residue.Width.{WidthIs, width_is}
use Rattle.forms.specs.Row.{DigitRule, even, wide, narrow}

-- the digit d of an odd c is odd, within the window, below 2^j, and the window's only digit that leaves c − d divisible by 2^(j+1)
pub record OddDigit (m : ℕ) (c d : ℤ) : Type 0 where
  pub j : ℕ
  pub odd : nat_abs d % 2 ≡ 1
  pub small : nat_abs d ≤ m
  pub below : nat_abs d < 2 ^ j
  pub same : Congruent (2 ^ suc j) c d
  pub only : (e : ℤ) → nat_abs e ≤ m → Congruent (2 ^ suc j) e d → e ≡ d

module _ {m k : ℕ} (within : 2 ^ k ≤ m) (past : m < 2 ^ suc k) {c d : ℤ} where
  wide_digit : Residue (suc (suc k)) c d → nat_abs d ≤ m → OddDigit m c d
  wide_digit r l =
      record {
        j = suc k;
        odd = r.odd;
        small = l;
        below = omega arith;
        same = congruent r;
        only = λ e n h. near_only h (omega arith);
      }

  narrow_digit : {s : ℤ} → Residue (suc (suc k)) c s → m < nat_abs s → Residue (suc k) c d → OddDigit m c d
  narrow_digit {s} w g r =
      let below : nat_abs d < 2 ^ k = (bounded (nat_abs d) k).1 r.between in
      let beyond : nat_abs s < 2 ^ suc k = (bounded (nat_abs s) (suc k)).1 w.between in
      let both : Congruent (2 ^ suc k) s d = joined (turned (coarser_power (suc k) (suc (suc k)) (omega arith) (congruent w))) (congruent r) in
      record {
        j = k;
        odd = r.odd;
        small = omega arith;
        below = below;
        same = congruent r;
        only =
            λ e n h.
            two_of_three (joined both (turned h)) both (omega arith) beyond (omega arith) (λ q. omega (arith, ap nat_abs q))
            (λ q. omega (arith, ap nat_abs q));
      }

-- d is 0, the digit of an even c, or the digit of an odd one
abbrev pub Cases : ℕ → ℤ → ℤ → Type 0
Cases m c d = ((nat_abs c % 2 ≡ 0) × (d ≡ pos 0)) ⊎ OddDigit m c d

-- every digit is one of the two
pub digit_cases : {m : ℕ} {c d : ℤ} → 1 ≤ m → DigitRule m c d → Cases m c d
digit_cases h (even p) = inl (p, refl)
digit_cases {m} h (wide p r l) =
    let w : WidthIs m = width_is m h in inr (wide_digit w.within w.past (rw w.is at r) l)
digit_cases {m} h (narrow p r l t) =
    let w : WidthIs m = width_is m h in
    inr (narrow_digit w.within w.past (rw w.is at r) l (rw (w.is, sub-one) at t))

nonzero : (c : ℤ) → c ≢ pos 0 → 0 < nat_abs c
nonzero (pos zero) n = absurd (n refl)
nonzero (pos (suc c)) n = omega arith
nonzero (negsuc c) n = omega arith

-- what is left, c': c − d = 2 c'
module _ (c d c' : ℤ) (e : c -ℤ d ≡ c' +ℤ c') where
  -- the equation in the parts that `omega` reads
  pub halves : up c + down d + 2 * down c' ≡ up d + down c + 2 * up c'
  halves = omega (integers, difference c d, sum c' c')

  -- what is left is a multiple of 2^n just where c and d differ by one of 2^(n+1)
  pub half_multiple : (n : ℕ) → Congruent (2 ^ suc n) c d ↔ Congruent (2 ^ n) c' (pos 0)
  half_multiple n = (
    λ g. record { a = g.a; b = g.b; parts = omega (arith, halves, g.parts, power_step n g.a, power_step n g.b) },
    λ g. record { a = g.a; b = g.b; parts = omega (arith, halves, g.parts, power_step n g.a, power_step n g.b) },
  )

  -- above the digit of an odd c a multiple of 2^j is left
  pub rest_multiple : {m : ℕ} (o : OddDigit m c d) → Congruent (2 ^ o.j) c' (pos 0)
  rest_multiple o = (half_multiple o.j).0 o.same

  -- which is 0 or at least 2^j in size
  pub rest_apart : {m : ℕ} (o : OddDigit m c d) → Apart (2 ^ o.j) (up c') (down c')
  rest_apart o = ⊎_map (λ p. omega arith) (⊎_map (λ p. omega arith) (λ p. omega arith)) (congruent_apart (rest_multiple o))

  -- it is nearer to 0 than c
  pub falls : {m : ℕ} → 1 ≤ m → c ≢ pos 0 → DigitRule m c d → nat_abs c' < nat_abs c
  falls {m} h n r = pick (digit_cases h r)
    where
      far : (o : OddDigit m c d) → Apart (2 ^ o.j) (up c') (down c') → nat_abs c' < nat_abs c
      far o (inl p) = omega (arith, size c', one_side c', nonzero c n)
      far o (inr (inl p)) = omega (arith, halves, o.below, size c, size c', size d, one_side c')
      far o (inr (inr p)) = omega (arith, halves, o.below, size c, size c', size d, one_side c')

      pick : Cases m c d → nat_abs c' < nat_abs c
      pick (inl p) = omega (integers, p.1, halves, size c, size c', one_side c', nonzero c n)
      pick (inr o) = far o (rest_apart o)

-- a digit lies within the window
pub digit_small : {m : ℕ} {c d : ℤ} → 1 ≤ m → DigitRule m c d → nat_abs d ≤ m
digit_small {m} h rule =
    ⊎_elim (λ e. subst (λ (x : ℤ). nat_abs x ≤ m) (sym e.1) (omega arith)) (λ o. o.small) (digit_cases h rule)

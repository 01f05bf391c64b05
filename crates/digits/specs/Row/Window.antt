-- A window passes its test exactly when it is odd, 1 to 31. Assumes nothing.
use Rattle.std.specs.Prelude.{◌≡◌, true, ℕ, ◌%◌, ◌≤◌, eqb, leb}
use Rattle.std.proofs.Math.Bool.{and-eq-true_iff}
use Rattle.std.proofs.Common.{eqb-true, leb-true, eq-eqb, le-leb}
use Rattle.digits.specs.Row.{widest, is_window}

pub window_parts : (m : ℕ) → is_window m ≡ true → (m % 2 ≡ 1) × (m ≤ widest)
window_parts m e =
    let (a, b) = (and-eq-true_iff (eqb (m % 2) 1) (leb m widest)).0 e in (eqb-true (m % 2) 1 a, leb-true m widest b)

pub parts_window : (m : ℕ) → m % 2 ≡ 1 → m ≤ widest → is_window m ≡ true
parts_window m odd within = rw (eq-eqb (m % 2) 1 odd, le-leb m widest within)

-- The row from the top down keeps what is promised of it; so the call's answer is short, and the row that it writes is this one. From the
-- promises of the row, and from the laws of every row that is written.
use Rattle.std.specs.Prelude.{◌≡◌, refl, true, List, ℕ, ◌+◌, ◌*◌, ◌≤◌, ℤ, length}
use Rattle.std.proofs.Common.{arith}
use Rattle.digits.specs.Buffer.{row_below}
use Rattle.digits.specs.declared.limits.Limits.{Limits}
use Rattle.digits.specs.Row.{is_window, weight}
use Rattle.digits.specs.Row.Window.{window_parts}
use Rattle.digits.specs.Scalar.{Bytes, signed_scalar}
use Rattle.recode.specs.Call.Short.{Short}
use Rattle.recode.proofs.Laws.Call.Short.{answer_short}
use Rattle.recode.proofs.Laws.Promise.{answer_written}
use Rattle.recode.specs.Call.{wrote}
use Rattle.down.specs.Call.{down_answer, down_buffer, DownOf}
use Rattle.down.specs.Down.{down}
use Rattle.down.proofs.Laws.Down.Row.{down_digits, down_value, down_top, down_length, down_fewest}

pub down_kept : (m : ℕ) (c : ℤ) → is_window m ≡ true → DownOf m c (weight (down m c)) (down m c)
down_kept m c e =
    let (odd, within) = window_parts m e in
    let h : 1 ≤ m = omega arith in
    record {
      rule = refl;
      digits = down_digits m c h;
      reads = down_value m c h;
      top = down_top m c h;
      short = down_length m c h;
      counted = refl;
      fewest = λ es. down_fewest m c es h;
    }

-- it has 8 places for each byte of the longest scalar and one more at most, and no more digits count than there are
pub down_short : (limits : Limits) (s : List ℕ) (sign m places : ℕ) → Bytes s → Short (8 * limits.bytes + 1) (down_answer limits s sign m places)
down_short limits s sign m places = answer_short limits s sign places (down_kept m (signed_scalar s sign))

-- the row that a call writes is the one from the top down of the scalar with its sign
pub down_written : (limits : Limits) (s : List ℕ) (sign m : ℕ) (buffer : List ℕ) (n w : ℕ) → down_answer limits s sign m (length buffer) ≡ wrote n w
    → DownOf m (signed_scalar s sign) w (row_below n (down_buffer limits s sign m buffer))
down_written limits s sign m buffer = answer_written (down_kept m (signed_scalar s sign)) limits s buffer

-- How long and how heavy what the call writes can be, whatever was asked: as a joint form.
use Rattle.std.specs.Prelude.{Bool, true, false, ◌&&◌, List, ℕ, ◌+◌, ◌*◌, max, length, Ok, Err}
use Rattle.std.proofs.Common.{arith}
use Rattle.digits.specs.declared.limits.Limits.{Limits}
use Rattle.digits.specs.Scalar.{Bytes}
use Rattle.recode.specs.Call.{Recoded, roomy, joint_answer}
use Rattle.recode.specs.Call.Short.{Short}
use Rattle.recode.proofs.Laws.Call.Short.{joint_short}
use Rattle.codes.specs.Call.{if_roomy, codes_answer}

if_short : (met : Bool) (a : Recoded) (n : ℕ) → Short n a → Short n (if_roomy met a)
if_short met (Err e) n h = h
if_short true (Ok w) n h = h
if_short false (Ok w) n h = omega arith

pub codes_short : (limits : Limits) (s : List ℕ) (s_sign : ℕ) (t : List ℕ) (t_sign : ℕ) (places places' room room' : ℕ) → Bytes s → Bytes t
    → Short (8 * limits.bytes + 1) (codes_answer limits s s_sign t t_sign places places' room room')
unfolding codes_answer
codes_short limits s s_sign t t_sign places places' room room' s_bytes t_bytes =
    let longer : ℕ = max (length s) (length t) in
    if_short (roomy longer room && roomy longer room') (joint_answer limits s s_sign t t_sign places places') (8 * limits.bytes + 1)
    (joint_short limits s s_sign t t_sign places places' s_bytes t_bytes)

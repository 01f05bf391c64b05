-- `filled` meets its contract, by the laws of LowBits: the next four bytes stand above the low bits, or there is none.
use mathlib.Core.Path.{ap, ◌∙◌}
use Prim.Native.Nat.{ℕ, ◌+◌, ◌*◌, ◌^◌, ◌≤◌}
use native.Mathlib.Omega.{arith}
use lib.ListN.{drop}
use Rattle.digits.specs.Scalar.{little}
use Rattle.recode.specs.Body.Remainder.{remaining}
use Rattle.recode.proofs.LowBits.{shifted_word, more_bits, word_bound, next_word, no_byte}
use Rattle.recode.proofs.low.Low.filled.Goals as goal

pub invariant_of-result-then-bytes-at : goal.invariant_of-result-then-bytes-at
invariant_of-result-then-bytes-at c =
    let s = c.args.self in record { few = omega arith; carried = omega (arith, s.carried, more_bits s.bits) }

pub returns-then-bytes-at : goal.returns-then-bytes-at
unfolding remaining
returns-then-bytes-at c =
    let s = c.args.self in
    (no_byte c.args.bytes.now s.at (s.bits + 32) s.bits s.low c.if-bytes-at.true, omega arith)

pub invariant_of-result-2 : goal.invariant_of-result-2
invariant_of-result-2 c =
    let s = c.args.self in
    let w = c.word_at-word in
    let f = shifted_word w.result s.bits w.ensures.0 (omega arith) in
    record { few = omega arith; carried = omega (arith, f, word_bound w.result s.bits s.low w.ensures.0 s.carried, more_bits s.bits) }

pub returns : goal.returns
unfolding remaining
returns c =
    let s = c.args.self in
    let w = c.word_at-word in
    let k : s.bits ≤ 15 = omega arith in
    let bytes = c.args.bytes.now in (
      ap (λ (n : ℕ). s.low + n + 2 ^ (s.bits + 32) * little (drop (s.at + 4) bytes)) (shifted_word w.result s.bits w.ensures.0 k)
          ∙ next_word w.result s.bits s.low (little (drop (s.at + 4) bytes)) (little (drop s.at bytes)) w.ensures.1,
      omega arith,
    )

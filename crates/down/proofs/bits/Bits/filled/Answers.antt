-- `filled` meets its contract: the bytes fit below the bits held.
use mathlib.Core.Path.{◌≡◌, refl, ap, subst, ◌∙◌}
use Prim.Native.Nat.{ℕ, ◌+◌, ◌-◌, ◌*◌, ◌/◌, ◌%◌, ◌^◌, ◌<◌}
use native.Mathlib.Omega.{arith}
use lib.Pow.{shl_lt, shl_exact, shr_lt}
use Rattle.down.specs.Body.Ahead.{turned, room}
use Rattle.down.proofs.bits.Bits.filled.Goals.{After-eight_with-word}
use Rattle.down.proofs.bits.Bits.filled.Goals as goal

module _ (c : After-eight_with-word) where
  abbrev held : ℕ
  held = c.args.self.held

  abbrev low : ℕ
  low = (64 - held) % 8

  abbrev word : ℕ
  word = c.eight_with-word.result / 2 ^ (64 - room held)

  word-less : word < 2 ^ room held
  word-less = shr_lt (room held) (64 - room held) (subst (λ (n : ℕ). c.eight_with-word.result < 2 ^ n) {x = 64} {y = room held + (64 - room held)} (omega arith) c.eight_with-word.ensures.1)

  exact : word * 2 ^ low % 2 ^ 64 ≡ word * 2 ^ low
  exact = shl_exact (room held) low 64 word-less (omega arith)

  below : word * 2 ^ low < 2 ^ (64 - held)
  below = subst (λ (n : ℕ). word * 2 ^ low < 2 ^ n) {x = room held + low} {y = 64 - held} (omega (arith, c.requires)) (shl_lt (room held) low word-less)

pub overflow_add-result-3 : goal.overflow_add-result-3
overflow_add-result-3 c = record { fits = omega (arith, c.requires, exact (goal.at.overflow_add-result-3 c).After-eight_with-word, below (goal.at.overflow_add-result-3 c).After-eight_with-word) }

pub returns : goal.returns
returns c =
    let b = c.args.self in
    (refl, (refl, ap (λ (n : ℕ). b.bits + n) (exact (goal.at.returns c).After-eight_with-word ∙ ap (λ (n : ℕ). n / 2 ^ (64 - room (c.args.self.held)) * 2 ^ low (goal.at.returns c).After-eight_with-word) (c.eight_with-word.ensures.0 ∙ ap (turned c.args.sign 64) c.eight_at.ensures))))

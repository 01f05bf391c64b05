-- `value_of` meets its contract. The loop's invariant: the number so far, with the figures from here on behind it, is the whole number.
use native.Mathlib.Omega.{arith}
use mathlib.Core.Path.{ap, ◌∙◌}
use Prim.Native.Nat.{ℕ, ◌+◌, ◌*◌, ◌<◌}
use lib.ListN.{length, drop}
use Rattle.sheet.specs.Numeral.{followed}
use Rattle.sheet.proofs.FieldTurns.{figure_at, followed_turn, followed_end, power_turn}
use Rattle.sheet.proofs.figures.value_of.Goals as goal

pub loop-byte-preserved : goal.loop-byte-preserved
loop-byte-preserved c =
    let s = c.args.field.now in
    let i = c.loop-byte.byte-index in
    let h : i < length s = omega arith in
    let (figure, rest) = figure_at 10 s i h c.loop-byte.invariant.1 in (
      power_turn 10 c.loop-byte.value c.worth_of.result i c.loop-byte.invariant.0 (omega (arith, c.worth_of.ensures, figure)),
      rest,
      ap (λ (n : ℕ). followed 10 (c.loop-byte.value * 10 + n) (drop (i + 1) s)) c.worth_of.ensures ∙ followed_turn 10 s i h c.loop-byte.value ∙ c.loop-byte.invariant.2,
    )

pub returns : goal.returns
returns c = followed_end 10 _ _ c.loop-byte.byte-index (omega arith) ∙ c.loop-byte.invariant.2

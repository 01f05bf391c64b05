-- `field` meets its contract. The loop's invariant: the fields from `at` on, without those still to be passed, are those from k on.
use native.Mathlib.Omega.{arith}
use mathlib.Core.Path.{◌≡◌, sym, ap, subst, ◌∙◌}
use mathlib.Core.List.{List, []}
use Prim.Native.Nat.{ℕ, ◌+◌, ◌-◌}
use lib.ListN.{get_or, drop, take}
use Rattle.sheet.specs.Spelling.{comma, cut}
use Rattle.sheet.specs.Spelling.Field.{First}
use Rattle.sheet.proofs.CutTurns.{first_zero, to_end}
use Rattle.sheet.proofs.fields.field.Goals as goal

pub returns : goal.returns
returns c =
    let s = c.args.s.now in
    let z : c.args.k - c.loop.counter ≡ 0 = omega arith in
    let m : c.loop.at + c.find-n.result - c.loop.at ≡ c.find-n.result = omega arith in
    let first : First comma (drop c.loop.at s) c.find-n.result = subst (λ (l : List ℕ). First comma l c.find-n.result) (to_end s c.loop.at) c.find-n.ensures in
    ap (λ (n : ℕ). take n (drop c.loop.at s)) m ∙ first_zero first ∙ ap (λ (n : ℕ). get_or (cut comma (drop c.loop.at s)) n []) (sym z) ∙ c.loop.invariant.1

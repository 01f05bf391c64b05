-- `count` meets its contract. The loop's invariant: the commas so far and those from here on are all commas.
use Rattle.std.proofs.Common.{◌≡◌, ◌≤◌, get_or, eqb, cond, arith, drop, count_by, ℕ, Bool}
use Rattle.std.proofs.Math.Bool.{true, false}
use Rattle.std.proofs.Math.Path.{refl}
use Rattle.std.proofs.lemmas.List.Sums.{sum_by-drop_more}
use mir.Val.{bool_byte}
use Rattle.std.proofs.Math.ListN.{drop_of_length-le}
use Rattle.sheet.specs.Spelling.{comma}
use Rattle.sheet.proofs.CutTurns.{cut_length}
use Rattle.sheet.proofs.fields.count.Goals as goal

-- a comma adds one, and any other byte nothing
added : (t : Bool) → (bool_byte t ≡ cond t 1 0) × (bool_byte t ≤ 1)
added true = (refl, omega arith)
added false = (refl, omega arith)

pub overflow_add-commas : goal.overflow_add-commas
overflow_add-commas c = omega (arith, c.loop-byte.invariant.0, (added (eqb (get_or c.args.s.now c.loop-byte.byte-index 0) 44)).1)

pub loop-byte-preserved : goal.loop-byte-preserved
loop-byte-preserved c =
    let s = c.args.s.now in
    let i = c.loop-byte.byte-index in
    let one = added (eqb (get_or s i 0) comma) in
    let more = sum_by-drop_more (λ (x : ℕ). cond (eqb x comma) 1 0) s i 0 (omega arith) in
    (omega (arith, one.1), omega (arith, one.0, more, c.loop-byte.invariant.1))

pub returns : goal.returns
returns c =
    let s = c.args.s.now in
    let none : count_by (λ (x : ℕ). eqb x comma) (drop c.loop-byte.byte-index s) ≡ 0 = rw (drop_of_length-le s {i = c.loop-byte.byte-index} (omega arith)) refl in
    omega (arith, none, c.loop-byte.invariant.1, cut_length comma s)

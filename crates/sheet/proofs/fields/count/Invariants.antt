-- `count` meets its contract. The loop's invariant: the commas so far and those from here on are all commas.
use Rattle.std.proofs.Common.{◌≡◌, ◌≤◌, ◌+◌, eqb, drop, count_by, ℕ}
use Rattle.sheet.specs.Spelling.{comma}
use Rattle.sheet.proofs.fields.count.Given as goal

abbrev pub invariant-loop-byte : goal.invariant-loop-byte
invariant-loop-byte l =
    (l.commas ≤ l.byte-index) × (l.commas + count_by (λ (c : ℕ). eqb c comma) (drop l.byte-index l.s) ≡ count_by (λ (c : ℕ). eqb c comma) l.s)

-- All clauses of a call for a row.
use Rattle.std.specs.Prelude.{◌≡◌, List, ℕ, ℤ}
use Rattle.std.proofs.Math.ListN.{length}
use Rattle.digits.specs.declared.limits.Limits.{Limits}
use Rattle.digits.specs.Scalar.{signed_scalar}
use Rattle.forms.specs.Row.{RowRule, row}
use Rattle.recode.specs.Call.{Recoded, number, row_question, answer_with, buffer_with, PromisedBy}

-- the contract of a call whose answer is a and that leaves `out`
abbrev pub ReturnedBy : (List ℤ → Type 0) → ℤ → List ℤ → Limits → List ℕ → ℕ → List ℕ → Recoded → List ℕ → Type 0
ReturnedBy R c ds limits s m buffer a out =
    (a ≡ answer_with limits s m ds (length buffer))
    × ((out ≡ buffer_with limits s m ds buffer) × (PromisedBy R m c a out × (number a ≡ row_question limits s m (length buffer))))

-- the same with 01's row
abbrev pub Returned : Limits → List ℕ → ℕ → ℕ → List ℕ → Recoded → List ℕ → Type 0
Returned limits s sign m buffer a out =
    let c = signed_scalar s sign in ReturnedBy (RowRule m c) c (row m c) limits s m buffer a out

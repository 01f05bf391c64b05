-- All clauses of a call for a row from the top down.
use Rattle.std.specs.Prelude.{◌≡◌, List, ℕ, ℤ}
use Rattle.digits.specs.declared.limits.Limits.{Limits}
use Rattle.digits.specs.Scalar.{signed_scalar}
use Rattle.recode.specs.Call.{Recoded}
use Rattle.recode.specs.Call.Row.{ReturnedBy}
use Rattle.down.specs.Down.{down}

-- the contract of a call whose answer is a and that leaves `out`
abbrev pub Returned : Limits → List ℕ → ℕ → ℕ → List ℕ → Recoded → List ℕ → Type 0
Returned limits s sign m buffer a out =
    let c = signed_scalar s sign in ReturnedBy (λ (es : List ℤ). es ≡ down m c) c (down m c) limits s m buffer a out

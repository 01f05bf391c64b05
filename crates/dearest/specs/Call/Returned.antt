-- All clauses of a return of the call.
use Rattle.std.specs.Prelude.{◌≡◌, List, ℕ, length}
use Rattle.dearest.specs.Call.{Dearest, number, dearest_question, dearest_answer, dearest_buffer, Promised}

-- all clauses of a return
abbrev pub Clauses : ℕ → List ℕ → Dearest → List ℕ → Type 0
Clauses size buffer r out =
    (r ≡ dearest_answer size (length buffer)) × ((out ≡ dearest_buffer size buffer) × (Promised size r out × (number r ≡ dearest_question size (length buffer))))

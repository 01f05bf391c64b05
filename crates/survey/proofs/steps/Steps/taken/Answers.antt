-- `Steps::taken` meets its contract: a step is one line of Taken.
use mathlib.Core.Path.{◌≡◌, ap, ◌∙◌}
use mathlib.Core.Option.{Option}
use Prim.Native.Nat.{ℕ, ◌+◌}
use lib.Dec.{ltb}
use Rattle.sheet.specs.Questions.{disallowed_from, unless}
use Rattle.survey.specs.Survey.State.{earlier, found, rank}
use Rattle.survey.proofs.Taken.{step_loaded, step_added}
use Rattle.survey.proofs.steps.Steps.taken.Goals as goal

pub returns : goal.returns
returns c =
    let a = c.args in
    let t = rank c.turn_of-turn.result in
    let fault : found c.fault_or.result ≡ earlier (found a.self.fault) (unless (ltb (rank a.self.turn) t) a.line) =
    c.fault_or.ensures ∙ ap (λ b. earlier (found a.self.fault) (unless b a.line)) c.is_before.ensures
    in
    record {
      loaded = λ x e ls.
          ap (λ (o : Option ℕ). earlier o (disallowed_from a.plan t (a.line + 1) ls)) fault
          ∙ step_loaded a.plan x (found a.self.fault) (rank a.self.turn) a.line t ls (c.turn_of-turn.ensures x e);
      added = λ x e ls.
          ap (λ (o : Option ℕ). earlier o (disallowed_from a.plan t (a.line + 1) ls)) fault
          ∙ step_added a.plan x (found a.self.fault) (rank a.self.turn) a.line t ls (c.turn_of-turn.ensures x e);
    }

-- What a function answers that is itself a question.
use Rattle.std.specs.Prelude.{◌≡◌, Bool, true, false, ℕ, Result, MatchResult}
use Rattle.digits.specs.Row.{is_window}
use Rattle.digits.specs.declared.missed.Missed.{Missed}
use Rattle.digits.specs.declared.missed.Missed.TheVariants.{BadWindow}

-- something where the question is met, and else the question that is missed
abbrev pub Asked : {A : Type 0} → Bool → Missed → Result A Missed → Type 0
Asked met question r = MatchResult r (λ _. met ≡ true) (λ e. (e ≡ question) × (met ≡ false))

-- the window of a number, which is the number
abbrev pub AsksWindow : ℕ → Result ℕ Missed → Type 0
AsksWindow m r = MatchResult r (λ (w : ℕ). (w ≡ m) × (is_window m ≡ true)) (λ (e : Missed). (e ≡ BadWindow) × (is_window m ≡ false))

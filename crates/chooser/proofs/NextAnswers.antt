-- The answer of the call for the next limit where all questions are met.
use mathlib.Core.Path.{◌≡◌, sym, ap, ◌∙◌}
use mathlib.Core.Bool.{true, ◌&&◌}
use mathlib.Core.List.{List}
use Rattle.std.specs.Prelude.{Ok}
use Prim.Native.Nat.{ℕ}
use lib.IntN.{pos}
use Rattle.digits.specs.declared.limits.Limits.{Limits}
use Rattle.digits.specs.Scalar.{scalar, sized}
use Rattle.sheet.specs.Plan.{is_limit}
use Rattle.std.specs.declared.option.Option.{Option}
use Rattle.chooser.specs.declared.next.Pays.{Pays}
use Rattle.chooser.specs.Next.{next_limit, next_answer}
use Rattle.chooser.proofs.Laws.Next.First.{next_unsigned}

module _ (limits : Limits) (k : List ℕ) (k_sign : ℕ) (l : List ℕ) (l_sign : ℕ) (limit : ℕ) where
  pub the_limit : (sized limits k && sized limits l) ≡ true → is_limit limit ≡ true → {r : Option Pays} → r ≡ next_limit (pos (scalar k)) (pos (scalar l)) limit
      → Ok r ≡ next_answer limits k k_sign l l_sign limit
  unfolding next_answer
  the_limit e h g = ap (λ (x : Option Pays). Ok x) (g ∙ sym (next_unsigned k k_sign l l_sign limit)) ∙ sym (rw (e, h))

-- The columns of the joint sparse form as a rule.
use Rattle.std.specs.Prelude.{◌≡◌, List, [], ◌∷◌, ℤ, pos, ◌+ℤ◌}
use Rattle.digits.specs.Two.{Column}
use Rattle.forms.specs.Joint.{digit, column}

-- k and l are both 0
abbrev pub BothZero : ℤ → ℤ → Type 0
BothZero k l = (k ≡ pos 0) × (l ≡ pos 0)

-- cs are the columns of k and l: while they are not both 0, the column of their digits, and then what is left of each
pub data JointRule : ℤ → ℤ → List Column → Type 0 where
  end : JointRule (pos 0) (pos 0) []
  place : {k l k' l' : ℤ} {cs : List Column} → ¬ (BothZero k l) → k ≡ digit k l +ℤ (k' +ℤ k') → l ≡ digit l k +ℤ (l' +ℤ l')
      → JointRule k' l' cs → JointRule k l (column k l ∷ cs)

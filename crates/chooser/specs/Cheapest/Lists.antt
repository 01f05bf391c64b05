-- Whether all plans of a list pass a test, and which plans are valid.
use Rattle.std.specs.Prelude.{Bool, true, ◌&&◌, List, [], ◌∷◌}
use Rattle.digits.specs.Row.{is_window}
use Rattle.sheet.specs.declared.Plan.{Plan}
use Rattle.sheet.specs.declared.Plan.TheVariants.{J, I}

-- a test that every plan of a list passes
unfoldable pub every : (Plan → Bool) → List Plan → Bool
every f [] = true
every f (p ∷ ps) = f p && every f ps

-- both windows of a plan are windows
abbrev pub is_valid : Plan → Bool
is_valid J = true
is_valid (I m1 m2) = is_window m1 && is_window m2

-- The line that a coded line stands for.
use mathlib.Core.Path.{◌≡◌, refl, subst}
use mathlib.Core.Logic.{◌⊎◌, inl, inr}
use Rattle.sheet.specs.Plan.{Point}
use Rattle.sheet.specs.Line as spec
use Rattle.sheet.specs.Line.{header, table, load, double, add, end, misspelled}
use Rattle.lines.specs.Coded.{coded_point, coded}
use Rattle.lines.specs.declared.line.Line.{Line}
use Rattle.lines.specs.declared.line.Line.TheVariants.{Table, Load, Double, Add, End, Other}

abbrev pub Was : spec.Line → Line → Type 0
Was x (Table u) = (y : Point) × (x ≡ table y) × (u ≡ coded_point y)
Was x (Load u) = (y : Point) × (x ≡ load y) × (u ≡ coded_point y)
Was x Double = x ≡ double
Was x (Add u) = (y : Point) × (x ≡ add y) × (u ≡ coded_point y)
Was x End = x ≡ end
Was x Other = ((h : spec.Header) × (x ≡ header h)) ⊎ (x ≡ misspelled)

was_coded : (x : spec.Line) → Was x (coded x)
was_coded (header h) = inl (h, refl)
was_coded (table y) = (y, refl, refl)
was_coded (load y) = (y, refl, refl)
was_coded double = refl
was_coded (add y) = (y, refl, refl)
was_coded end = refl
was_coded misspelled = inr refl

pub was : (x : spec.Line) {l : Line} → coded x ≡ l → Was x l
was x e = subst (Was x) e (was_coded x)

-- What question 2 gives where both windows meet it: a valid plan. Assumes nothing.
use Rattle.std.specs.Prelude.{◌≡◌, true, ◌&&◌, ℕ}
use Rattle.digits.specs.Row.{is_window}
use Rattle.digits.specs.Scalar.Sized.{both}
use Rattle.sheet.specs.declared.Plan.TheVariants.{I}
use Rattle.sheet.specs.Questions.Planned.{window_of}
use Rattle.written.specs.Valid.{Valid, for_i}

pub windows_valid : (m1 m2 : ℕ) → (is_window m1 && is_window m2) ≡ true → Valid (I m1 m2)
windows_valid m1 m2 e = let (a, b) = both (is_window m1) (is_window m2) e in for_i (window_of m1 a) (window_of m2 b)

-- What one line in front of others means to each question. From the definitions of Questions, line by line.
use mathlib.Core.Path.{◌≡◌, refl}
use mathlib.Core.Bool.{true, false}
use mathlib.Core.List.{List, [], ◌∷◌}
use Prim.Native.Nat.{ℕ, ◌+◌}
use native.Mathlib.Numerals.{add-one}
use native.Mathlib.Omega.{arith}
use Rattle.sheet.specs.declared.Plan.{Plan}
use Rattle.sheet.specs.Plan.{Point}
use Rattle.sheet.specs.Line.{Line, table, load, double, add, end}
use Rattle.sheet.specs.Questions.{is_double, table_lines, disallowed_from, excess_from, additions, doublings, after_header, after_load}

module _ (n : ℕ) (ls : List Line) (x : Point) where
  pub header_table : after_header (n + 1) ls ≡ after_header n (table x ∷ ls)
  unfolding after_header
  header_table = rw add-one

  pub header_load : after_load (n + 1) ls ≡ after_header n (load x ∷ ls)
  unfolding after_header
  header_load = rw add-one

  pub load_double : after_load (n + 1) ls ≡ after_load n (double ∷ ls)
  unfolding after_load
  load_double = rw add-one

  pub load_add : after_load (n + 1) ls ≡ after_load n (add x ∷ ls)
  unfolding after_load
  load_add = rw add-one

  pub lines_table : table_lines (table x ∷ ls) ≡ x ∷ table_lines ls
  unfolding table_lines
  lines_table = refl

  pub lines_load : table_lines (load x ∷ ls) ≡ []
  unfolding table_lines
  lines_load = refl

  module _ (p : Plan) (before : ℕ) where
    pub disallowed_table : disallowed_from p before (n + 1) ls ≡ disallowed_from p before n (table x ∷ ls)
    unfolding disallowed_from
    disallowed_table = rw add-one

    pub disallowed_double : disallowed_from p 0 (n + 1) ls ≡ disallowed_from p before n (double ∷ ls)
    unfolding disallowed_from
    disallowed_double = rw add-one

    pub disallowed_end : disallowed_from p before (n + 1) ls ≡ disallowed_from p before n (end ∷ ls)
    unfolding disallowed_from
    disallowed_end = rw add-one

  module _ (left : ℕ) where
    pub excess_table : excess_from left (n + 1) ls ≡ excess_from left n (table x ∷ ls)
    unfolding excess_from
    excess_table = rw add-one

    pub excess_load : excess_from left (n + 1) ls ≡ excess_from left n (load x ∷ ls)
    unfolding excess_from
    excess_load = rw add-one

    pub excess_add : excess_from left (n + 1) ls ≡ excess_from left n (add x ∷ ls)
    unfolding excess_from
    excess_add = rw add-one

    pub excess_end : excess_from left (n + 1) ls ≡ excess_from left n (end ∷ ls)
    unfolding excess_from
    excess_end = rw add-one

  -- the counts, with a so far
  module _ (a : ℕ) where
    pub adds_load : a + additions ls ≡ a + additions (load x ∷ ls)
    unfolding additions
    adds_load = refl

    pub adds_d : a + additions ls ≡ a + additions (double ∷ ls)
    unfolding additions
    adds_d = refl

    pub adds_add : a + 1 + additions ls ≡ a + additions (add x ∷ ls)
    unfolding additions
    adds_add = omega arith

    pub adds_end : a + additions ls ≡ a + additions (end ∷ ls)
    unfolding additions
    adds_end = refl

    pub doubles_load : a + doublings ls ≡ a + doublings (load x ∷ ls)
    unfolding doublings
    doubles_load = refl

    pub doubles_d : a + 1 + doublings ls ≡ a + doublings (double ∷ ls)
    unfolding doublings
    doubles_d = omega arith

    pub doubles_add : a + doublings ls ≡ a + doublings (add x ∷ ls)
    unfolding doublings
    doubles_add = refl

    pub doubles_end : a + doublings ls ≡ a + doublings (end ∷ ls)
    unfolding doublings
    doubles_end = refl

-- what a T line counts for
module _ (x : Point) (ls : List Line) where
  pub table_adds : is_double x ≡ false → 1 + additions ls ≡ additions (table x ∷ ls)
  unfolding additions
  table_adds e = rw e

  pub table_adds_none : is_double x ≡ true → 0 + additions ls ≡ additions (table x ∷ ls)
  unfolding additions
  table_adds_none e = rw e

  pub table_doubles : is_double x ≡ true → 1 + doublings ls ≡ doublings (table x ∷ ls)
  unfolding doublings
  table_doubles e = rw e

  pub table_doubles_none : is_double x ≡ false → 0 + doublings ls ≡ doublings (table x ∷ ls)
  unfolding doublings
  table_doubles_none e = rw e

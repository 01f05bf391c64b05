-- The lines of a sheet, with what each one says.
use Rattle.std.specs.Prelude.{ℕ, ℤ}
use Rattle.sheet.specs.declared.Plan.{Plan}
use Rattle.sheet.specs.declared.Plan.TheVariants.{J, I}
use Rattle.sheet.specs.Plan.{Point}

-- the kind of a header: J or I
pub data Kind : Type 0 where
  joint : Kind
  interleaved : Kind

-- S,kind,m1,m2,slots,additions,doublings,k,l
pub record Header : Type 0 where
  pub kind : Kind
  pub m1 : ℕ
  pub m2 : ℕ
  pub slots : ℕ
  pub additions : ℕ
  pub doublings : ℕ
  pub k : ℤ
  pub l : ℤ

-- the lines
pub data Line : Type 0 where
  header : Header → Line  -- S
  table : Point → Line  -- T,a,b: fill the table with aP + bQ
  load : Point → Line  -- L,a,b: the accumulator becomes aP + bQ
  double : Line  -- D: the accumulator doubles and the next lower place begins
  add : Point → Line  -- A,a,b: aP + bQ is added
  end : Line  -- E
  misspelled : Line  -- anything else

-- plan J, or plan I with the windows m1 and m2
abbrev pub plan_of : Kind → ℕ → ℕ → Plan
plan_of joint m1 m2 = J
plan_of interleaved m1 m2 = I m1 m2

-- the plan that a header names
abbrev pub plan : Header → Plan
plan h = plan_of h.kind h.m1 h.m2

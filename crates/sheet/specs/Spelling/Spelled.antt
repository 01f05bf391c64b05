-- Points, headers and lines whose numbers are short enough for their spelling.
use Rattle.std.specs.Prelude.{◌^◌, ◌<◌, nat_abs}
use Rattle.digits.specs.declared.limits.Limits.{Limits}
use Rattle.sheet.specs.Plan.{Point}
use Rattle.sheet.specs.Line.{Header, Line, header, table, load, double, add, end, misspelled}

-- digits of one or two figures
pub record ShortPoint (t : Point) : Type 0 where
  pub short_p : nat_abs t.p < 100
  pub short_q : nat_abs t.q < 100

-- decimals of at most 4 figures, and scalars of as many as the limits allow
pub record ShortHeader (limits : Limits) (h : Header) : Type 0 where
  pub short_m1 : h.m1 < 10000
  pub short_m2 : h.m2 < 10000
  pub short_slots : h.slots < 10000
  pub short_additions : h.additions < 10000
  pub short_doublings : h.doublings < 10000
  pub short_k : nat_abs h.k < 16 ^ limits.figures
  pub short_l : nat_abs h.l < 16 ^ limits.figures

-- a line whose numbers are short enough to be spelled
abbrev pub Short : Limits → Line → Type 0
Short limits (header h) = ShortHeader limits h
Short limits (table t) = ShortPoint t
Short limits (load t) = ShortPoint t
Short limits double = Unit {0}
Short limits (add t) = ShortPoint t
Short limits end = Unit {0}
Short limits misspelled = Unit {0}

-- A header made of the fields that were read, and a line that is not misspelled.
use Rattle.std.specs.Prelude.{◌≡◌, ◌≢◌, ℕ, ℤ}
use Rattle.std.proofs.Math.Option.{Option, some}
use Rattle.sheet.specs.Line.{Kind, Header, Line, misspelled}

-- ── lines ───────────────────────────────────────────────────────────────────────────────────

pub record HeaderMade (kd : Option Kind) (m1 m2 sl ad db : Option ℕ) (k l : Option ℤ) (h : Header) : Type 0 where
  pub made_kind : kd ≡ some h.kind
  pub made_m1 : m1 ≡ some h.m1
  pub made_m2 : m2 ≡ some h.m2
  pub made_slots : sl ≡ some h.slots
  pub made_additions : ad ≡ some h.additions
  pub made_doublings : db ≡ some h.doublings
  pub made_k : k ≡ some h.k
  pub made_l : l ≡ some h.l

-- ── sheets ──────────────────────────────────────────────────────────────────────────────────

-- the lines of a sheet that is laid out are spelled
abbrev pub Spelled : Line → Type 0
Spelled l = l ≢ misspelled

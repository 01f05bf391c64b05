-- `figure_before` meets its contract: the number of the figures before a place ends with the last of them.
use native.Mathlib.Omega.{arith}
use mathlib.Core.Path.{◌≡◌, ap, ◌∙◌}
use Prim.Native.Nat.{suc, ◌-◌}
use Rattle.reader.specs.Scalar.{before}
use Rattle.reader.proofs.LimbTurns.{before_none, before_last, figure_small}
use Rattle.reader.proofs.compare.figure_before.Goals as goal

pub returns-then-end-eq0 : goal.returns-then-end-eq0
returns-then-end-eq0 c =
    let a = c.args in
    let none = before_none a.figures.now in
    record { start = omega arith; is = ap (before a.figures.now) c.if-end-eq0.true ∙ omega (arith, none); small = omega arith }

pub returns : goal.returns
returns c =
    let a = c.args in
    let i = a.end - 1 in
    let e : a.end ≡ suc i = omega arith in
    record {
      start = omega arith;
      is = ap (before a.figures.now) e ∙ before_last a.figures.now i (omega (arith, c.requires.0)) ∙ omega (arith, c.worth_of.ensures);
      small = omega (arith, c.worth_of.ensures, figure_small a.figures.now i c.requires.1 (omega (arith, c.requires.0)));
    }

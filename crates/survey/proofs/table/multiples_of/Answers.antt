-- `multiples_of` meets its contract, by whether the window is 3 or more.
use native.Mathlib.Omega.{arith}
use Rattle.survey.proofs.TableRead.{multiples_some}
use Rattle.survey.proofs.table.multiples_of.Goals as goal

pub returns-else-m-lt3 : goal.returns-else-m-lt3
returns-else-m-lt3 c = (multiples_some c.args.m c.if-m-lt3.false, omega arith)

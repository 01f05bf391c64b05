-- `put_numeral` meets its contract: one figure, or those of n / base and the last one (Numerals). The measure is n.
use mathlib.Core.Path.{sym, subst}
use Prim.Native.Nat.{ℕ, ◌/◌, ◌%◌, ◌<◌, ◌≤◌}
use native.Mathlib.Nat.{mod-lt, div-lt_self}
use native.Mathlib.Omega.{arith}
use Rattle.writer.specs.Body.Parts.{Room}
use Rattle.sheet.specs.Numeral.Figures.{numeral_low, numeral_high}
use Rattle.writer.proofs.Puts.{put_append, put_same, room_first, room_second}
use Rattle.writer.proofs.put.+put_numeral.Goals as goal

pub put_figure-requires : goal.put_figure-requires
put_figure-requires t c =
    let a = c.args in
    (omega (arith, c.requires.0.1), subst (Room a.out.now a.at) (numeral_low a.base c.requires.0.0 a.n c.if-n-base.true) c.requires.1)

pub returns-then-n-base : goal.returns-then-n-base
returns-then-n-base t c = put_same (sym (numeral_low c.args.base c.requires.0.0 c.args.n c.if-n-base.true)) c.put_figure.ensures

pub put_numeral-next-requires : goal.put_numeral-next-requires
put_numeral-next-requires t c =
    let a = c.args in
    let high : a.base ≤ a.n = c.if-n-base.false in
    let base : 2 ≤ a.base = c.requires.0.0 in
    let less : a.n / a.base < a.n = div-lt_self (omega arith) (omega arith) in
    (subst (λ (t : ℕ). a.n / a.base < t) c.decreases less, (c.requires.0, room_first _ (subst (Room a.out.now a.at) (numeral_high a.base base a.n high) c.requires.1)))

pub put_figure-requires-2 : goal.put_figure-requires-2
put_figure-requires-2 t c =
    let a = c.args in
    let high : a.base ≤ a.n = c.if-n-base.false in
    let base : 2 ≤ a.base = c.requires.0.0 in
    let last : a.n % a.base < a.base = mod-lt a.n (omega arith) in
    (omega (arith, c.requires.0.1), room_second c.put_numeral-next.ensures _ (subst (Room a.out.now a.at) (numeral_high a.base base a.n high) c.requires.1))

pub returns : goal.returns
returns t c =
    put_same (sym (numeral_high c.args.base c.requires.0.0 c.args.n c.if-n-base.false)) (put_append c.put_numeral-next.ensures c.put_figure-2.ensures)

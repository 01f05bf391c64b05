-- `put_scalar` meets its contract. The loop's invariant: the figures of the first i bytes have been put (Hexadecimal). The
-- measure is the number of bytes left.
use native.Mathlib.Omega.{arith}
use Rattle.writer.proofs.Hexadecimal.{scan_start, scan_room, scan_turn, scan_zero}
use Rattle.digits.specs.Scalar.{scalar}
use Rattle.sheet.specs.Numeral.Read.{numeral_some}
use Rattle.writer.proofs.Puts.{put_length}
use Rattle.writer.proofs.figures.put_scalar.Goals as goal

pub loop-byte-init : goal.loop-byte-init
loop-byte-init c = let a = c.args in scan_start a.bytes.now a.out.now a.at

pub put_figures-next-requires : goal.put_figures-next-requires
put_figures-next-requires c =
    scan_room c.args.bytes.now c.args.out.now c.args.at c.loop-byte.invariant (λ i. (c.type_inv.bytes i).fits) c.loop-byte-test.true c.requires

pub loop-byte-preserved : goal.loop-byte-preserved
loop-byte-preserved c =
    scan_turn c.args.bytes.now c.args.out.now c.args.at c.loop-byte.invariant (λ i. (c.type_inv.bytes i).fits) c.loop-byte-test.true c.put_figures-next.ensures

pub put_byte-requires : goal.put_byte-requires
put_byte-requires c =
    record { fits = omega (arith, c.requires.fits, put_length c.loop-byte.invariant.1, numeral_some 16 (omega arith) (omega arith) (scalar c.args.bytes.now)) }

pub returns-then-next-at : goal.returns-then-next-at
returns-then-next-at c =
    scan_zero c.args.bytes.now c.args.out.now c.args.at c.loop-byte.invariant c.loop-byte-test.false c.if-next-at.true c.put_byte.ensures

-- The bytes that are left have the scalar's value.
use Rattle.std.proofs.Common.{◌∙◌, ℕ, ◌<◌, ◌≤◌, length, get_or, refl, sym, ap, arith, ◌≢◌}
use lib.Count.{count_leading_zeros, leading_top}
use lib.ListN.{drop_of_length-le}
use Rattle.digits.specs.Scalar.Value.{pass_zero, at_top}
use Rattle.digits.specs.Scalar.Length.{length_zero}
use Rattle.digits.specs.Scalar.{little, scalar, bit_length}
use Rattle.digits.proofs.length.bit_length.Goals as goal

-- a byte that is not 0 has fewer than 8 leading zeros
few-zeros : (b : ℕ) → b ≢ 0 → b < 256 → count_leading_zeros 8 b < 8
few-zeros b h l = let (j, e, k, m) = leading_top 8 b (omega arith) l in omega arith

pub returns-then-byte-ne0 : goal.returns-then-byte-ne0
returns-then-byte-ne0 c =
    record {
      all = at_top _ _ c.loop-i-test.true (λ k. (c.type_inv.bytes k).fits) c.if-byte-ne0.true ∙ ap bit_length c.loop-i.invariant;
      most = omega arith;
      none =
          λ e.
          absurd (omega (arith, e, few-zeros (get_or c.args.bytes.now c.loop-i.i 0) c.if-byte-ne0.true (c.type_inv.bytes _).fits));
    }

pub loop-i-preserved : goal.loop-i-preserved
loop-i-preserved c = pass_zero _ _ c.loop-i-test.true c.if-byte-ne0.false ∙ c.loop-i.invariant

pub returns : goal.returns
unfolding scalar little
returns c =
    let done : length c.args.bytes.now ≤ c.loop-i.i = omega arith in
    record {
      all = sym (sym (ap bit_length c.loop-i.invariant) ∙ ap (λ s. bit_length (scalar s)) (drop_of_length-le _ done) ∙ length_zero);
      most = omega arith;
      none = λ e. refl;
    }

-- `unpack_all` meets its contract: at the end each digit is its column's.
use Rattle.std.proofs.Common.{◌≡◌, ℕ, ◌≤◌, ◌<◌, List, length, get_or, sym, arith, ◌∙◌}
use Rattle.std.proofs.lemmas.List.{ext_get_or}
use Rattle.digits.specs.Byte.{byte_of}
use Rattle.digits.specs.Two.{Two, P, Q, digit}
use Rattle.packing.specs.Packing.{column_of_byte, unpacked_row}
use Rattle.packing.specs.Packing.Places.{unpacked_length, unpacked_at}
use Rattle.packing.proofs.columns.unpack_all.Goals as goal

unpacked : (r : Two) (packed digits : List ℕ) → length digits ≡ length packed
    → ((j : ℕ) → j < length packed → get_or digits j 0 ≡ byte_of (digit (column_of_byte (get_or packed j 0)) r)) → digits ≡ unpacked_row r (length packed) packed
unpacked r packed digits long each =
    let all : length packed ≤ length packed = omega arith in
    ext_get_or 0 _ _ (long ∙ sym (unpacked_length r _ packed all))
    (λ j h. let below : j < length packed = omega (arith, long) in each j below ∙ sym (unpacked_at r _ packed all j below))

pub returns-clause-first : goal.returns-clause-first
returns-clause-first c =
    unpacked P _ _ (c.loop-i.auto.k_digits ∙ c.requires.0) (λ j h. c.loop-i.invariant.0 j (omega (arith, c.loop-i-test.false)))

pub returns-clause-second : goal.returns-clause-second
returns-clause-second c =
    unpacked Q _ _ (c.loop-i.auto.l_digits ∙ c.requires.1) (λ j h. c.loop-i.invariant.1 j (omega (arith, c.loop-i-test.false)))

-- `byte_of` meets its contract: what the machine holds of a digit is its byte.
use Rattle.std.proofs.Common.{◌≡◌, ap, ◌∙◌, arith, ℤ, pos, negsuc, w8, of_z}
use mir.Facts.{to_z-of_z}
use mir.Val.{SFits}
use Rattle.digits.specs.Byte.{byte_of}
use Rattle.digits.proofs.byte.byte_of.Goals as goal

held : (d : ℤ) → SFits w8 d → of_z w8 d ≡ byte_of d
unfolding byte_of
held (pos n) f = let h = f.sfits in omega arith
held (negsuc n) f = let h = f.sfits in omega arith

pub returns : goal.returns
returns c = c.cast_unsigned.ensures ∙ ap (of_z w8) (to_z-of_z c.ranges.digit) ∙ held c.args.digit c.ranges.digit

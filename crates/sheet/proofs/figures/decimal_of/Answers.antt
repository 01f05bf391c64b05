-- `decimal_of` meets its contract: what is a numeral has its value.
use mathlib.Core.Path.{sym, ap, ◌∙◌}
use mathlib.Core.Bool.{true, false}
use Prim.Native.Nat.{min}
use Rattle.std.specs.declared.option.Option.TheVariants.{Some}
use Rattle.sheet.specs.Spelling.Field.{decimal_of}
use Rattle.sheet.proofs.FieldTurns.{numeral_value}
use Rattle.sheet.proofs.figures.decimal_of.Goals as goal

pub returns-then-is_numeral : goal.returns-then-is_numeral
returns-then-is_numeral c = ap Some c.value_of.ensures ∙ sym (ap decimal_of (numeral_value 10 (min c.args.most 4) c.args.field.now true cc))

pub returns-else-is_numeral : goal.returns-else-is_numeral
returns-else-is_numeral c = sym (ap decimal_of (numeral_value 10 (min c.args.most 4) c.args.field.now false cc))

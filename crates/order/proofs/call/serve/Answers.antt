-- `serve` meets its contract: the scalars of the figures, the answer of the cheapest call, and what is printed for it.
use Rattle.std.specs.Prelude.{Err}
use Rattle.std.proofs.Common.{ap, ◌∙◌}
use Rattle.digits.specs.declared.missed.Missed.{Missed}
use Rattle.sheet.specs.Spelling.Field.{whole_of}
use Rattle.order.proofs.Printed.{Answers, sheet_printed, limit_printed}
use Rattle.order.proofs.call.serve.Goals.{After-cheapest}
use Rattle.order.proofs.call.serve.Goals as goal

module _ (c : After-cheapest) where
  answers : Answers c.scalar.result.bytes.now c.scalar.result.sign c.scalar-2.result.bytes.now c.scalar-2.result.sign
      c.args.out.now c.args.slots (whole_of 16 c.args.k.now) (whole_of 16 c.args.l.now) c.cheapest.result c.cheapest.new.sheet
  answers =
      record {
        k_size = c.scalar.ensures.size;
        l_size = c.scalar-2.ensures.size;
        room = c.requires.1.1;
        k_is = c.scalar.ensures.value ∙ c.scalar_of-k.ensures;
        l_is = c.scalar-2.ensures.value ∙ c.scalar_of-l.ensures;
        answer = c.cheapest.ensures.answer;
        leaves = c.cheapest.ensures.buffer;
      }

pub returns-in-Ok : goal.returns-in-Ok
returns-in-Ok c = sheet_printed (answers (goal.at.returns-in-Ok c).After-cheapest) c.in-Ok.is

pub returns-in-Err-BadLimit : goal.returns-in-Err-BadLimit
returns-in-Err-BadLimit c =
    limit_printed (answers (goal.at.returns-in-Err-BadLimit c).After-cheapest) (c.in-Err-BadLimit.is ∙ ap (λ (e : Missed). Err e) c.in-Err-BadLimit.field-0-is) c.refuse.ensures

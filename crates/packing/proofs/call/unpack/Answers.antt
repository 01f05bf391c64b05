-- `unpack` meets its contract: the bytes' digits are before what was lent.
use Rattle.std.proofs.Common.{sym, ap, ◌∙◌}
use Rattle.digits.specs.Missed.{number_of}
use Rattle.digits.specs.Two.{P, Q}
use Rattle.packing.proofs.Laws.Call.Standing.{unpack_question_lem}
use Rattle.packing.proofs.Laws.Call.Undone.{unpack_filled, unpack_packs}
use Rattle.packing.proofs.call.unpack.Goals as goal

pub returns : goal.returns
returns c =
    let done = sym c.in_ok-check_unpack.ensures.answer in
    let k_filled = unpack_filled _ _ _ _ _ P done c.unpack_all.ensures.first in
    let l_filled = unpack_filled _ _ _ _ _ Q done c.unpack_all.ensures.second in
    record {
      answer = c.in_ok-check_unpack.ensures.answer;
      first = k_filled;
      second = l_filled;
      promised = unpack_packs _ _ _ _ done k_filled l_filled;
      question = ap number_of c.in_ok-check_unpack.ensures.answer ∙ unpack_question_lem _ _ _ _;
    }

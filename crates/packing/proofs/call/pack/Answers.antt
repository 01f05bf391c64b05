-- `pack` meets its contract: the columns' bytes are before what was lent.
use Rattle.std.proofs.Common.{sym, subst}
use Rattle.packing.specs.Call.{Packs}
use Rattle.packing.proofs.Laws.Call.Undone.{pack_filled, pack_packs}
use Rattle.packing.proofs.call.pack.Goals as goal

pub returns-clause-buffer : goal.returns-clause-buffer
returns-clause-buffer c = pack_filled _ _ _ _ _ (sym c.in_ok-check_pack.ensures.answer) c.pack_all.ensures

pub returns-clause-promised : goal.returns-clause-promised
returns-clause-promised c =
    let done = sym c.in_ok-check_pack.ensures.answer in
    subst (Packs _ _ _) (sym (pack_filled _ _ _ _ _ done c.pack_all.ensures)) (pack_packs _ _ _ _ done)

-- `put_field` meets its contract: a decimal, and a comma behind it.
use Rattle.writer.proofs.Puts.{put_append}
use Rattle.writer.proofs.header.put_field.Goals as goal

pub returns : goal.returns
returns c =
    put_append c.put_numeral-next.ensures c.put_byte.ensures

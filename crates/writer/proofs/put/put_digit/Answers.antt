-- Of three drafts and a last byte what is kept is the digit (DigitBytes).
use Rattle.writer.proofs.Drafts.{draft_room, draft, put_last}
use Rattle.writer.proofs.DigitBytes.{digit_drafted}
use Rattle.writer.proofs.put.put_digit.Goals as goal

pub put_if-hundreds-requires : goal.put_if-hundreds-requires
put_if-hundreds-requires c = draft_room (digit_drafted c.args.digit c.ranges.digit.fits c.size-size.ensures c.below_hundred-rest.ensures c.requires)

pub put_if-tens-requires : goal.put_if-tens-requires
put_if-tens-requires c = draft_room (draft c.put_if-hundreds.ensures (digit_drafted c.args.digit c.ranges.digit.fits c.size-size.ensures c.below_hundred-rest.ensures c.requires))

pub put_if-ones-requires : goal.put_if-ones-requires
put_if-ones-requires c =
    draft_room (draft c.put_if-tens.ensures (draft c.put_if-hundreds.ensures (digit_drafted c.args.digit c.ranges.digit.fits c.size-size.ensures c.below_hundred-rest.ensures c.requires)))

pub put_byte-requires : goal.put_byte-requires
put_byte-requires c =
    draft_room
    (draft c.put_if-ones.ensures (draft c.put_if-tens.ensures (draft c.put_if-hundreds.ensures (digit_drafted c.args.digit c.ranges.digit.fits c.size-size.ensures c.below_hundred-rest.ensures c.requires))))

pub returns : goal.returns
returns c =
    put_last c.put_byte.ensures
    (draft c.put_if-ones.ensures (draft c.put_if-tens.ensures (draft c.put_if-hundreds.ensures (digit_drafted c.args.digit c.ranges.digit.fits c.size-size.ensures c.below_hundred-rest.ensures c.requires))))

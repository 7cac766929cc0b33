use Rattle.std.proofs.Common.{◌∙◌, arith}
use Rattle.buffers.proofs.Writes.{front}
use Rattle.listing.proofs.Texts.{line_ended, refused_is}
use Rattle.listing.proofs.refused.Goals as goal

-- the text, the number and the newline
pub returns : goal.returns
returns c =
    let w = line_ended (omega arith) c.put_number-end.ensures c.put1.ensures in
    let number = c.from-number.ensures ∙ c.from.ensures in
    let p = rw (front w ∙ refused_is _ _ number) at c.put_whole.ensures in
    record { size_is = p.value; left = p.dst_after }

use Rattle.std.proofs.Common.{◌+◌, ap, ◌∙◌}
use Rattle.reading.specs.Reading.{operand}
use Rattle.record.specs.Unpacked.{byte_at, op_by}
use Rattle.record.proofs.operand_in.Goals as goal

pub returns : goal.returns
returns c =
    let at = c.args.at in
    let l = c.args.«record».now in
    ap operand (c.op_by.ensures ∙ ap (op_by (byte_at at l) (byte_at (at + 1) l)) c.get8.ensures.value)

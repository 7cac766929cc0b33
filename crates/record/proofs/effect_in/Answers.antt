use Rattle.std.proofs.Common.{ap, ◌∙◌}
use Rattle.record.specs.Unpacked.{byte_at, effect_by}
use Rattle.record.proofs.effect_in.Goals as goal

pub returns : goal.returns
returns c =
    let l = c.args.«record».now in
    c.effect_by.ensures
    ∙ ap (effect_by (byte_at 12 l) (byte_at 13 l) (byte_at 14 l) (byte_at 15 l)) c.get8.ensures.value

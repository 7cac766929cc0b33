use Rattle.std.proofs.Common.{◌%◌, eqb, ap, ◌∙◌}
use Rattle.record.specs.Unpacked.{byte_at, target_by, insn_in}
use Rattle.record.proofs.insn_in.Goals as goal

pub returns : goal.returns
unfolding insn_in
returns c =
    let l = c.args.«record».now in
    λ t.
    record {
      mnemonic = c.requires t;
      count = byte_at 3 l;
      ops = c.operands_in.ensures t;
      flow = c.flow_by.ensures t;
      target = (c.target_by.ensures ∙ ap (target_by (byte_at 2 l)) c.get8.ensures.value) t;
      delay_slot = eqb (byte_at 2 l % 2) 1;
      effect = c.effect_in.ensures t;
    }

-- The contracts of crate `reading`, readings.
use Rattle.contracts.specs.Exact.{Exact}
use Rattle.reading.proofs.PartsFromOp.from.Kinds as op-parts-kinds
use Rattle.reading.proofs.PartsFromOp.from.Reads as op_parts
use Rattle.reading.proofs.PartsFromEffect.from.Kinds as effect-parts-kinds
use Rattle.reading.proofs.PartsFromEffect.from.Reads as effect_parts
use Rattle.reading.proofs.PartsFromOptionU64.from.Kinds as target-parts-kinds
use Rattle.reading.proofs.PartsFromOptionU64.from.Reads as target_parts
use Rattle.reading.proofs.U8FromFlow.from.Kinds as flow-number-kinds
use Rattle.reading.proofs.U8FromFlow.from.Reads as flow_number
use Rattle.reading.proofs.DecodedFromResultInsnRefusal.from.Kinds as decoded-kinds
use Rattle.reading.proofs.DecodedFromResultInsnRefusal.from.Reads as decoded
use Rattle.reading.proofs.ends.Kinds as ends-kinds
use Rattle.reading.proofs.ends.Reads as ends
use Rattle.reading.proofs.refused.Kinds as refused-kinds
use Rattle.reading.proofs.refused.Reads as refused
use Rattle.reading.proofs.same_insn.Kinds as same-insn-kinds
use Rattle.reading.proofs.same_insn.Reads as same_insn

pub record Reading : Type 0 where
  pub op_parts : Exact op-parts-kinds.ps op-parts-kinds.r op_parts.Asked op_parts.Learnt
  pub effect_parts : Exact effect-parts-kinds.ps effect-parts-kinds.r effect_parts.Asked effect_parts.Learnt
  pub target_parts : Exact target-parts-kinds.ps target-parts-kinds.r target_parts.Asked target_parts.Learnt
  pub flow_number : Exact flow-number-kinds.ps flow-number-kinds.r flow_number.Asked flow_number.Learnt
  pub decoded : Exact decoded-kinds.ps decoded-kinds.r decoded.Asked decoded.Learnt
  pub ends : Exact ends-kinds.ps ends-kinds.r ends.Asked ends.Learnt
  pub refused : Exact refused-kinds.ps refused-kinds.r refused.Asked refused.Learnt
  pub same_insn : Exact same-insn-kinds.ps same-insn-kinds.r same_insn.Asked same_insn.Learnt

-- The contracts of crate `blocks`, blocks.
use Rattle.contracts.specs.Exact.{Exact}
use Rattle.blocks.proofs.U8FromEnd.from.Kinds as kind-kinds
use Rattle.blocks.proofs.U8FromEnd.from.Reads as kind
use Rattle.blocks.proofs.block.Kinds as block-kinds
use Rattle.blocks.proofs.block.Reads as block

pub record Blocks : Type 0 where
  pub kind : Exact kind-kinds.ps kind-kinds.r kind.Asked kind.Learnt
  pub block : Exact block-kinds.ps block-kinds.r block.Asked block.Learnt

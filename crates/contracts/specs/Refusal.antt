-- The contracts of crate `refusal`, the numbers of refusals.
use Rattle.contracts.specs.Exact.{Exact}
use Rattle.refusal.proofs.U8FromRefusal.from.Kinds as number-kinds
use Rattle.refusal.proofs.U8FromRefusal.from.Reads as number

pub record Refusal : Type 0 where
  pub number : Exact number-kinds.ps number-kinds.r number.Asked number.Learnt

-- The contracts of crate `line`, the printed line.
use Rattle.contracts.specs.Exact.{Exact}
use Rattle.line.proofs.print.Kinds as print-kinds
use Rattle.line.proofs.print.Reads as print

pub record Line : Type 0 where
  pub print : Exact print-kinds.ps print-kinds.r print.Asked print.Learnt

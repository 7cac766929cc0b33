-- The contracts of crate `encode`, the encoder.
use Rattle.contracts.specs.Exact.{Exact}
use Rattle.encode.proofs.encode.Kinds as encode-kinds
use Rattle.encode.proofs.encode.Reads as encode

pub record Encode : Type 0 where
  pub encode : Exact encode-kinds.ps encode-kinds.r encode.Asked encode.Learnt

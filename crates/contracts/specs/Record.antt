-- The contracts of crate `record`, the packed record.
use Rattle.contracts.specs.Exact.{Exact}
use Rattle.record.proofs.pack.Kinds as pack-kinds
use Rattle.record.proofs.pack.Reads as pack
use Rattle.record.proofs.unpack.Kinds as unpack-kinds
use Rattle.record.proofs.unpack.Reads as unpack

pub record Record : Type 0 where
  pub pack : Exact pack-kinds.ps pack-kinds.r pack.Asked pack.Learnt
  pub unpack : Exact unpack-kinds.ps unpack-kinds.r unpack.Asked unpack.Learnt

-- The contracts of crate `names`, names.
use Rattle.contracts.specs.Exact.{Exact}
use Rattle.names.proofs.register.Kinds as register-kinds
use Rattle.names.proofs.register.Reads as register
use Rattle.names.proofs.name_of.Kinds as name-of-kinds
use Rattle.names.proofs.name_of.Reads as name_of
use Rattle.names.proofs.kind_of.Kinds as kind-of-kinds
use Rattle.names.proofs.kind_of.Reads as kind_of

pub record Names : Type 0 where
  pub register : Exact register-kinds.ps register-kinds.r register.Asked register.Learnt
  pub name_of : Exact name-of-kinds.ps name-of-kinds.r name_of.Asked name_of.Learnt
  pub kind_of : Exact kind-of-kinds.ps kind-of-kinds.r kind_of.Asked kind_of.Learnt

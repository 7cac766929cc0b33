-- The contracts of crate `body`, the words of a body.
use Rattle.contracts.specs.Exact.{Exact}
use Rattle.body.proofs.view_of.Kinds as view-of-kinds
use Rattle.body.proofs.view_of.Reads as view_of
use Rattle.body.proofs.count.Kinds as count-kinds
use Rattle.body.proofs.count.Reads as count
use Rattle.body.proofs.address.Kinds as address-kinds
use Rattle.body.proofs.address.Reads as address
use Rattle.body.proofs.decoded.Kinds as decoded-kinds
use Rattle.body.proofs.decoded.Reads as decoded
use Rattle.body.proofs.word.Kinds as word-kinds
use Rattle.body.proofs.word.Reads as word
use Rattle.body.proofs.refusals.Kinds as refusals-kinds
use Rattle.body.proofs.refusals.Reads as refusals

pub record Body : Type 0 where
  pub view_of : Exact view-of-kinds.ps view-of-kinds.r view_of.Asked view_of.Learnt
  pub count : Exact count-kinds.ps count-kinds.r count.Asked count.Learnt
  pub address : Exact address-kinds.ps address-kinds.r address.Asked address.Learnt
  pub decoded : Exact decoded-kinds.ps decoded-kinds.r decoded.Asked decoded.Learnt
  pub word : Exact word-kinds.ps word-kinds.r word.Asked word.Learnt
  pub refusals : Exact refusals-kinds.ps refusals-kinds.r refusals.Asked refusals.Learnt

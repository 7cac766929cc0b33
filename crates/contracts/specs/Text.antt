-- The contracts of crate `text`, numbers and names as text.
use Rattle.contracts.specs.Exact.{Exact}
use Rattle.text.proofs.count.Kinds as count-kinds
use Rattle.text.proofs.count.Reads as count
use Rattle.text.proofs.decimal.Kinds as decimal-kinds
use Rattle.text.proofs.decimal.Reads as decimal
use Rattle.text.proofs.address.Kinds as address-kinds
use Rattle.text.proofs.address.Reads as address
use Rattle.text.proofs.hex16.Kinds as hex16-kinds
use Rattle.text.proofs.hex16.Reads as hex16
use Rattle.text.proofs.hex8.Kinds as hex8-kinds
use Rattle.text.proofs.hex8.Reads as hex8
use Rattle.text.proofs.hex_in.Kinds as hex-in-kinds
use Rattle.text.proofs.hex_in.Reads as hex_in
use Rattle.text.proofs.name.Kinds as name-kinds
use Rattle.text.proofs.name.Reads as name

pub record Text : Type 0 where
  pub count : Exact count-kinds.ps count-kinds.r count.Asked count.Learnt
  pub decimal : Exact decimal-kinds.ps decimal-kinds.r decimal.Asked decimal.Learnt
  pub address : Exact address-kinds.ps address-kinds.r address.Asked address.Learnt
  pub hex16 : Exact hex16-kinds.ps hex16-kinds.r hex16.Asked hex16.Learnt
  pub hex8 : Exact hex8-kinds.ps hex8-kinds.r hex8.Asked hex8.Learnt
  pub hex_in : Exact hex-in-kinds.ps hex-in-kinds.r hex_in.Asked hex_in.Learnt
  pub name : Exact name-kinds.ps name-kinds.r name.Asked name.Learnt

-- The contracts of crate `buffers`, lent bytes.
use Rattle.contracts.specs.Exact.{Exact}
use Rattle.buffers.proofs.put.Kinds as put-kinds
use Rattle.buffers.proofs.put.Reads as put
use Rattle.buffers.proofs.put_whole.Kinds as put-whole-kinds
use Rattle.buffers.proofs.put_whole.Reads as put_whole
use Rattle.buffers.proofs.put1.Kinds as put1-kinds
use Rattle.buffers.proofs.put1.Reads as put1
use Rattle.buffers.proofs.put8.Kinds as put8-kinds
use Rattle.buffers.proofs.put8.Reads as put8
use Rattle.buffers.proofs.get2.Kinds as get2-kinds
use Rattle.buffers.proofs.get2.Reads as get2
use Rattle.buffers.proofs.get4.Kinds as get4-kinds
use Rattle.buffers.proofs.get4.Reads as get4
use Rattle.buffers.proofs.get8.Kinds as get8-kinds
use Rattle.buffers.proofs.get8.Reads as get8

pub record Buffers : Type 0 where
  pub put : Exact put-kinds.ps put-kinds.r put.Asked put.Learnt
  pub put_whole : Exact put-whole-kinds.ps put-whole-kinds.r put_whole.Asked put_whole.Learnt
  pub put1 : Exact put1-kinds.ps put1-kinds.r put1.Asked put1.Learnt
  pub put8 : Exact put8-kinds.ps put8-kinds.r put8.Asked put8.Learnt
  pub get2 : Exact get2-kinds.ps get2-kinds.r get2.Asked get2.Learnt
  pub get4 : Exact get4-kinds.ps get4-kinds.r get4.Asked get4.Learnt
  pub get8 : Exact get8-kinds.ps get8-kinds.r get8.Asked get8.Learnt

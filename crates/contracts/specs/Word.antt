-- The contracts of crate `word`, fields of a word and the numbers worked out of them.
use Rattle.contracts.specs.Exact.{Exact}
use Rattle.word.proofs.op.Kinds as op-kinds
use Rattle.word.proofs.op.Reads as op
use Rattle.word.proofs.rs.Kinds as rs-kinds
use Rattle.word.proofs.rs.Reads as rs
use Rattle.word.proofs.rt.Kinds as rt-kinds
use Rattle.word.proofs.rt.Reads as rt
use Rattle.word.proofs.rd.Kinds as rd-kinds
use Rattle.word.proofs.rd.Reads as rd
use Rattle.word.proofs.sa.Kinds as sa-kinds
use Rattle.word.proofs.sa.Reads as sa
use Rattle.word.proofs.funct.Kinds as funct-kinds
use Rattle.word.proofs.funct.Reads as funct
use Rattle.word.proofs.number.Kinds as number-kinds
use Rattle.word.proofs.number.Reads as number
use Rattle.word.proofs.uimm.Kinds as uimm-kinds
use Rattle.word.proofs.uimm.Reads as uimm
use Rattle.word.proofs.simm.Kinds as simm-kinds
use Rattle.word.proofs.simm.Reads as simm
use Rattle.word.proofs.twos_complement.Kinds as twos-kinds
use Rattle.word.proofs.twos_complement.Reads as twos
use Rattle.word.proofs.branch_target.Kinds as branch-target-kinds
use Rattle.word.proofs.branch_target.Reads as branch_target
use Rattle.word.proofs.jump_target.Kinds as jump-target-kinds
use Rattle.word.proofs.jump_target.Reads as jump_target
use Rattle.word.proofs.lui_value.Kinds as lui-value-kinds
use Rattle.word.proofs.lui_value.Reads as lui_value
use Rattle.word.proofs.ins_size.Kinds as ins-size-kinds
use Rattle.word.proofs.ins_size.Reads as ins_size
use Rattle.word.proofs.from_le_bytes.Kinds as from-le-bytes-kinds
use Rattle.word.proofs.from_le_bytes.Reads as from_le_bytes
use Rattle.word.proofs.from_be_bytes.Kinds as from-be-bytes-kinds
use Rattle.word.proofs.from_be_bytes.Reads as from_be_bytes
use Rattle.word.proofs.from_bytes.Kinds as from-bytes-kinds
use Rattle.word.proofs.from_bytes.Reads as from_bytes

pub record Word : Type 0 where
  pub op : Exact op-kinds.ps op-kinds.r op.Asked op.Learnt
  pub rs : Exact rs-kinds.ps rs-kinds.r rs.Asked rs.Learnt
  pub rt : Exact rt-kinds.ps rt-kinds.r rt.Asked rt.Learnt
  pub rd : Exact rd-kinds.ps rd-kinds.r rd.Asked rd.Learnt
  pub sa : Exact sa-kinds.ps sa-kinds.r sa.Asked sa.Learnt
  pub funct : Exact funct-kinds.ps funct-kinds.r funct.Asked funct.Learnt
  pub number : Exact number-kinds.ps number-kinds.r number.Asked number.Learnt
  pub uimm : Exact uimm-kinds.ps uimm-kinds.r uimm.Asked uimm.Learnt
  pub simm : Exact simm-kinds.ps simm-kinds.r simm.Asked simm.Learnt
  pub twos_complement : Exact twos-kinds.ps twos-kinds.r twos.Asked twos.Learnt
  pub branch_target : Exact branch-target-kinds.ps branch-target-kinds.r branch_target.Asked branch_target.Learnt
  pub jump_target : Exact jump-target-kinds.ps jump-target-kinds.r jump_target.Asked jump_target.Learnt
  pub lui_value : Exact lui-value-kinds.ps lui-value-kinds.r lui_value.Asked lui_value.Learnt
  pub ins_size : Exact ins-size-kinds.ps ins-size-kinds.r ins_size.Asked ins_size.Learnt
  pub from_le_bytes : Exact from-le-bytes-kinds.ps from-le-bytes-kinds.r from_le_bytes.Asked from_le_bytes.Learnt
  pub from_be_bytes : Exact from-be-bytes-kinds.ps from-be-bytes-kinds.r from_be_bytes.Asked from_be_bytes.Learnt
  pub from_bytes : Exact from-bytes-kinds.ps from-bytes-kinds.r from_bytes.Asked from_bytes.Learnt

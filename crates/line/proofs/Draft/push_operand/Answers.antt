use Rattle.std.proofs.Common.{arith, rules, to_z-of_z, w64, SFits}
use Rattle.text.specs.Text.{text_of, letters, letter}
use Rattle.line.specs.Line.{op_text}
use Rattle.line.proofs.Drafts.{bound}
use Rattle.line.proofs.Draft.push_operand.Goals as goal

pub returns-in-Reg : goal.returns-in-Reg
unfolding op_text
returns-in-Reg c = rw c.in-Reg.is (bound (omega arith) c.push_register.ensures)

pub returns-in-FReg : goal.returns-in-FReg
unfolding op_text text_of letters letter
returns-in-FReg c = rw c.in-FReg.is c.push_numbered.ensures

pub returns-in-Imm : goal.returns-in-Imm
unfolding op_text
returns-in-Imm c =
    let f : SFits w64 c.in-Imm.z = search rules in
    rw c.in-Imm.is (bound (omega arith) (rw (to_z-of_z f) at c.push_signed.ensures))

pub returns-in-Addr : goal.returns-in-Addr
unfolding op_text
returns-in-Addr c = rw c.in-Addr.is (bound (omega arith) c.push_address.ensures)

pub returns-in-Cop0 : goal.returns-in-Cop0
unfolding op_text text_of letters letter
returns-in-Cop0 c = rw c.in-Cop0.is c.push_numbered-in-Cop0.ensures

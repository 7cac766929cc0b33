-- `names::register` meets its contract: a computed test of REGS.
use Rattle.std.proofs.Common.{sym}
use Rattle.text.specs.Text.{letter, letters, padded, same}
use Rattle.names.specs.Names.{registers, register_bytes}
use Rattle.laws.proofs.Tests.{all_below}
use Rattle.names.proofs.Tables.{right_regs, register_is, no_register}
use Rattle.names.proofs.register.Goals as goal

pub returns-then-n-lt-REGISTERS : goal.returns-then-n-lt-REGISTERS
unfolding right_regs all_below same register_bytes registers padded letters letter
returns-then-n-lt-REGISTERS c = register_is c.row_in.ensures c.if-n-lt-REGISTERS.true tt

pub returns-else-n-lt-REGISTERS : goal.returns-else-n-lt-REGISTERS
unfolding padded letters letter
returns-else-n-lt-REGISTERS c = sym (no_register c.args.n c.if-n-lt-REGISTERS.false)

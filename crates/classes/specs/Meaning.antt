-- Which words a row takes, and what it makes of their fields.
use Rattle.std.specs.Prelude.{ℕ, ◌+◌, ◌%◌, Bool, true, false, not, cond, ◌&&◌, List, [], ◌∷◌, eqb, leb, ℤ, pos, negsuc}
use Rattle.std.specs.Prelude.{None, Some, Option as Target}
use Rattle.std.specs.Prelude.{length}
use Rattle.std.proofs.Math.Option.{Option, none, some}
use Rattle.word.specs.Word.{Field, op, rs, rt, rd, sa, funct, Fields}
use Rattle.word.specs.Numbers.{imm, index, signed, branch_to, jump_to, upper, size_of}
use Rattle.reading.specs.declared.Op.{Op}
use Rattle.reading.specs.declared.Op.TheVariants.{Reg, FReg, Imm, Mem, Addr, Cop0}
use Rattle.reading.specs.declared.Operand.{Operand}
use Rattle.reading.specs.declared.Flow.{Flow}
use Rattle.reading.specs.declared.Flow.TheVariants as flow
use Rattle.reading.specs.declared.Effect.{Effect}
use Rattle.reading.specs.declared.Effect.TheVariants as effect
use Rattle.reading.specs.declared.Insn.{Insn}
use Rattle.reading.specs.Reading.{operand}
use Rattle.classes.specs.Row.{Pat, is, read, read_but, zeros, extra, skip_but, low, Row, pat_of}
use Rattle.classes.specs.Row.{Code, reg, freg, cop0, num, size, s16, u16, mem, br, jmp}
use Rattle.classes.specs.Row.{Form, end, ◌▸◌, pos_size, link, Manner}
use Rattle.classes.specs.Row.{Control, plain, call, jump, branch, return, interrupt, by_register}
use Rattle.classes.specs.Row.{Change, nothing, writes, adds, sets, sets_upper, memory, memory_only}

-- ── which words a row takes ──

unfoldable pub match : Pat → ℕ → Bool
match (is v) a = eqb a v
match read a = true
match (read_but v) a = not (eqb a v)
match zeros a = true
match extra a = true
match (skip_but v) a = not (eqb a v)
match (low v) a = eqb (a % 4) v

-- a test at each of the six fields
unfoldable pub six : (Field → Bool) → Bool
six p = p op && (p rs && (p rt && (p rd && (p sa && p funct))))

-- word 0 or 0x40, if op and funct are 0
unfoldable pub nop_like : Fields → Bool
nop_like f = eqb (f rs) 0 && (eqb (f rt) 0 && (eqb (f rd) 0 && leb (f sa) 1))

unfoldable pub takes : Row → Fields → Bool
takes r f = six (λ x. match (pat_of r x) (f x)) && not (r.nops && nop_like f)

-- the first row that takes the word
unfoldable pub find : List Row → Fields → Option Row
find [] f = none
find (r ∷ ts) f = cond (takes r f) (some r) (find ts f)

-- ── its operands ──

unfoldable pub out : Code → ℕ → Fields → Op
out (reg x) va f = Reg (f x)
out (freg x) va f = FReg (f x)
out (cop0 x) va f = Cop0 (f x)
out (num x) va f = Imm (pos (f x))
out size va f = Imm (pos (f rd + 1))
out s16 va f = Imm (signed 16 (imm f))
out u16 va f = Imm (pos (imm f))
out mem va f = Mem (signed 16 (imm f)) (f rs)
out br va f = Addr (branch_to va (imm f))
out jmp va f = Addr (jump_to va (index f))

unfoldable pub outs : Form → ℕ → Fields → List Op
outs end va f = []
outs (c ▸ φ) va f = out c va f ∷ outs φ va f
outs pos_size va f = Imm (pos (f sa)) ∷ Imm (size_of (f rd) (f sa)) ∷ []
outs link va f = cond (eqb (f rd) 31) (Reg (f rs) ∷ []) (Reg (f rd) ∷ Reg (f rs) ∷ [])

-- ── what the row makes of its operands ──

-- an operand that is not there is register 0
abbrev pub head : List Op → Op
head [] = Reg 0
head (o ∷ os) = o

abbrev pub tail : List Op → List Op
tail [] = []
tail (o ∷ os) = os

abbrev pub first : List Op → Op
first os = head os

abbrev pub second : List Op → Op
second os = head (tail os)

abbrev pub third : List Op → Op
third os = head (tail (tail os))

abbrev pub fourth : List Op → Op
fourth os = head (tail (tail (tail os)))

-- the register of an operand
abbrev pub reg_of : Op → ℕ
reg_of (Reg n) = n
reg_of (FReg n) = n
reg_of (Imm z) = 0
reg_of (Mem z n) = n
reg_of (Addr a) = 0
reg_of (Cop0 n) = n

-- the signed value of an operand
abbrev pub int_of : Op → ℤ
int_of (Reg n) = pos 0
int_of (FReg n) = pos 0
int_of (Imm z) = z
int_of (Mem z n) = z
int_of (Addr a) = pos 0
int_of (Cop0 n) = pos 0

-- the same, of a value that is not negative
abbrev pub nat_of : ℤ → ℕ
nat_of (pos n) = n
nat_of (negsuc n) = 0

unfoldable pub effect_of : Change → List Op → Effect
effect_of nothing os = effect.None
effect_of writes os = effect.Write (reg_of (first os))
effect_of adds os = effect.AddImm (reg_of (first os)) (reg_of (second os)) (int_of (third os))
effect_of sets os = effect.AddImm (reg_of (first os)) 0 (int_of (second os))
effect_of sets_upper os = effect.SetAddr (reg_of (first os)) (upper (nat_of (int_of (second os))))
effect_of (memory n) os = effect.Mem (reg_of (first os)) (reg_of (second os)) (int_of (second os)) n
effect_of (memory_only n) os = effect.Mem 0 (reg_of (second os)) (int_of (second os)) n

unfoldable pub flow_of : Control → List Op → Flow
flow_of plain os = flow.None
flow_of call os = flow.Call
flow_of jump os = flow.Jump
flow_of branch os = flow.CondJump
flow_of return os = flow.Ret
flow_of interrupt os = flow.Interrupt
flow_of by_register os = cond (eqb (reg_of (first os)) 31) flow.Ret flow.Jump

-- does the next word run first?
unfoldable pub mark_of : Control → Bool
mark_of plain = false
mark_of call = true
mark_of jump = true
mark_of branch = true
mark_of return = false
mark_of interrupt = false
mark_of by_register = true

-- the target is the operand that is an address
unfoldable pub target_in : List Op → Target ℕ
target_in [] = None
target_in (Reg n ∷ os) = target_in os
target_in (FReg n ∷ os) = target_in os
target_in (Imm z ∷ os) = target_in os
target_in (Mem z n ∷ os) = target_in os
target_in (Addr a ∷ os) = Some a
target_in (Cop0 n ∷ os) = target_in os

-- four slots; one that is not used holds register 0
abbrev pub slots : List Op → List Operand
slots os = operand (first os) ∷ operand (second os) ∷ operand (third os) ∷ operand (fourth os) ∷ []

-- the reading with this mnemonic, manner and operands
unfoldable pub reading : ℕ → Manner → List Op → Insn
reading k m os =
    record {
      mnemonic = k;
      count = length os;
      ops = slots os;
      flow = flow_of m.control os;
      target = target_in os;
      delay_slot = mark_of m.control;
      effect = effect_of m.change os;
    }

-- what a row reads at an address
unfoldable pub meaning : Row → ℕ → Fields → Insn
meaning r va f = reading r.kind r.manner (outs r.form va f)

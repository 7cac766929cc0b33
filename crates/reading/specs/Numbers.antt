-- The numbers and values that document 01's packed record has for each case of an operand, an effect, a target and a
-- flow.
use Rattle.std.specs.Prelude.{ℕ, ◌+◌, ℤ, pos, Option, None, Some}
use Rattle.word.specs.Numbers.{modulo64}
use Rattle.reading.specs.declared.Op.{Op}
use Rattle.reading.specs.declared.Op.TheVariants.{Reg, FReg, Imm, Mem, Addr, Cop0}
use Rattle.reading.specs.declared.Flow.{Flow}
use Rattle.reading.specs.declared.Flow.TheVariants as flow
use Rattle.reading.specs.declared.Effect.{Effect}
use Rattle.reading.specs.declared.Effect.TheVariants as effect
use Rattle.reading.specs.declared.Parts.{Parts}

-- number, first register, second register, size, signed value, address; what is absent is zero
abbrev pub parts : ℕ → ℕ → ℕ → ℕ → ℤ → ℕ → Parts
parts n a b s z d = record { number = n; first = a; second = b; size = s; value = z; address = d }

-- 1 to 6 in the order of `Op`
abbrev pub op_parts : Op → Parts
op_parts (Reg n) = parts 1 n 0 0 (pos 0) 0
op_parts (FReg n) = parts 2 n 0 0 (pos 0) 0
op_parts (Imm z) = parts 3 0 0 0 z 0
op_parts (Mem z n) = parts 4 n 0 0 z 0
op_parts (Addr a) = parts 5 0 0 0 (pos 0) a
op_parts (Cop0 n) = parts 6 n 0 0 (pos 0) 0

-- 0 to 4 in the source's order
abbrev pub effect_parts : Effect → Parts
effect_parts effect.None = parts 0 0 0 0 (pos 0) 0
effect_parts (effect.SetAddr t a) = parts 1 t 0 0 (pos 0) a
effect_parts (effect.AddImm t s z) = parts 2 t s 0 z 0
effect_parts (effect.Mem t s z n) = parts 3 t s n z 0
effect_parts (effect.Write t) = parts 4 t 0 0 (pos 0) 0

-- whether it is present, and where it is
abbrev pub target_parts : Option ℕ → Parts
target_parts None = parts 0 0 0 0 (pos 0) 0
target_parts (Some a) = parts 1 0 0 0 (pos 0) a

-- the record's 8-byte value: a negative number in two's complement
abbrev pub value_of : Parts → ℕ
value_of p = modulo64 p.value + p.address

-- 0 to 5 in the source's order
abbrev pub flow_number : Flow → ℕ
flow_number flow.None = 0
flow_number flow.Call = 1
flow_number flow.Jump = 2
flow_number flow.CondJump = 3
flow_number flow.Ret = 4
flow_number flow.Interrupt = 5

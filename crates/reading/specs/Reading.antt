-- The blank reading, and what acceptance and refusal answer.
use Rattle.std.specs.Prelude.{ℕ, false, [], ◌∷◌, None, Result, Ok, Err}
use Rattle.refusal.specs.declared.Refusal.{Refusal}
use Rattle.refusal.specs.Refusals.{number_of}
use Rattle.reading.specs.declared.Op.{Op}
use Rattle.reading.specs.declared.Op.TheVariants.{Reg}
use Rattle.reading.specs.declared.Operand.{Operand}
use Rattle.reading.specs.declared.Flow.TheVariants as flow
use Rattle.reading.specs.declared.Effect.TheVariants as effect
use Rattle.reading.specs.declared.Insn.{Insn}
use Rattle.reading.specs.declared.Decoded.{Decoded}
use Rattle.reading.specs.Kind as kind

abbrev pub operand : Op → Operand
operand o = record { op = o }

-- an operand that is not used holds register 0
abbrev pub unused : Operand
unused = operand (Reg 0)

-- nop, no operands, flow None, no target, no mark, effect None
abbrev pub blank_insn : Insn
blank_insn =
    record {
      mnemonic = kind.nop;
      count = 0;
      ops = unused ∷ unused ∷ unused ∷ unused ∷ [];
      flow = flow.None;
      target = None;
      delay_slot = false;
      effect = effect.None;
    }

-- an accepted word's answer
abbrev pub accepted_as : Insn → Decoded
accepted_as i = record { number = 0; insn = i }

-- a refused word's
abbrev pub refused_of : ℕ → Decoded
refused_of n = record { number = n; insn = blank_insn }

-- either, in document 01's number and reading
abbrev pub answer_of : Result Insn Refusal → Decoded
answer_of (Ok i) = accepted_as i
answer_of (Err r) = refused_of (number_of r)

-- What the functions of `parts` answer, in the order of the operands.
use Rattle.std.specs.Prelude.{ℕ, true, false, List, [], ◌∷◌, ℤ, pos, None, Option}
use Rattle.reading.specs.declared.Op.{Op}
use Rattle.reading.specs.declared.Op.TheVariants.{Reg, FReg, Imm, Mem}
use Rattle.reading.specs.declared.Flow.{Flow}
use Rattle.reading.specs.declared.Flow.TheVariants as flow
use Rattle.reading.specs.declared.Effect.{Effect}
use Rattle.reading.specs.declared.Effect.TheVariants as effect
use Rattle.reading.specs.declared.Insn.{Insn}
use Rattle.forms.specs.Read.{answer}

-- on to the next word, with this effect
abbrev pub straight : ℕ → List Op → Effect → Insn
straight m os e = answer m os flow.None None false e

-- `ext`, `ins`: to, from, the first bit and the size
abbrev pub field : ℕ → ℕ → ℕ → ℕ → ℤ → Insn
field m t s a z = straight m (Reg t ∷ Reg s ∷ Imm (pos a) ∷ Imm z ∷ []) (effect.Write t)

-- an operand, the size, the register that is loaded, the offset and the base
abbrev pub accessed : ℕ → ℕ → Op → ℕ → ℤ → ℕ → Insn
accessed m n a r z b = straight m (a ∷ Mem z b ∷ []) (effect.Mem r b z n)

abbrev pub float_accessed : ℕ → ℕ → ℕ → ℤ → ℕ → Insn
float_accessed m n t z b = accessed m n (FReg t) 0 z b

-- a delay slot
abbrev pub turning : ℕ → List Op → Flow → Option ℕ → Insn
turning m os l t = answer m os l t true effect.None

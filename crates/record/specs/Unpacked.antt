-- WHAT A RECORD IS UNPACKED TO, for any bytes at all.
use Rattle.std.specs.Prelude.{ℕ, ◌+◌, ◌/◌, ◌%◌, Bool, cond, ◌&&◌, List, []}
use Rattle.std.specs.Prelude.{◌∷◌, length, get_or, take, drop, ℤ, ◌==◌, None, Option, Some}
use Rattle.std.specs.Prelude.{nat_lt, slice_index, slice_index_or}
use Rattle.refusal.specs.Numbers as refusal
use Rattle.word.specs.Numbers.{signed}
use Rattle.reading.specs.declared.Op.{Op}
use Rattle.reading.specs.declared.Op.TheVariants.{Reg, FReg, Imm, Mem, Addr, Cop0}
use Rattle.reading.specs.declared.Operand.{Operand}
use Rattle.reading.specs.declared.Flow.{Flow}
use Rattle.reading.specs.declared.Flow.TheVariants as flow
use Rattle.reading.specs.declared.Effect.{Effect}
use Rattle.reading.specs.declared.Effect.TheVariants as effect
use Rattle.reading.specs.declared.Insn.{Insn}
use Rattle.reading.specs.declared.Decoded.{Decoded}
use Rattle.reading.specs.Kind.{many}
use Rattle.reading.specs.Reading.{operand, refused_of, accepted_as}
use Rattle.buffers.specs.Bytes.{num_at}
use Rattle.text.specs.Text.{same}
use Rattle.names.specs.Names.{kind_of}
use Rattle.record.specs.Record.{size, insn_bytes}

-- the byte at a place
abbrev pub byte_at : ℕ → List ℕ → ℕ
byte_at at l = slice_index l at

-- by their numbers, in the source's order

abbrev pub op_by : ℕ → ℕ → ℕ → Op
op_by n r v =
    slice_index_or (Reg 0 ∷ Reg r ∷ FReg r ∷ Imm (signed 64 v) ∷ Mem (signed 64 v) r ∷ Addr v ∷ Cop0 r ∷ []) n (Reg 0)

abbrev pub effect_by : ℕ → ℕ → ℕ → ℕ → ℕ → Effect
effect_by n a b s v =
    let z : ℤ = signed 64 v in
    get_or (effect.None ∷ effect.SetAddr a v ∷ effect.AddImm a b z ∷ effect.Mem a b z s ∷ effect.Write a ∷ []) n
    effect.None

abbrev pub flow_by : ℕ → Flow
flow_by n =
    slice_index_or (flow.None ∷ flow.Call ∷ flow.Jump ∷ flow.CondJump ∷ flow.Ret ∷ flow.Interrupt ∷ []) n flow.None

-- bit 1 of the byte of marks says whether there is a target
abbrev pub target_by : ℕ → ℕ → Option ℕ
target_by m v = cond (m / 2 % 2 == 1) (Some v) None

-- the effect in bytes 12 to 23
abbrev pub effect_in : List ℕ → Effect
effect_in l = effect_by (byte_at 12 l) (byte_at 13 l) (byte_at 14 l) (byte_at 15 l) (num_at 8 16 l)

-- the operand in the ten bytes from a place on
abbrev pub slot_in : ℕ → List ℕ → Operand
slot_in at l = operand (op_by (byte_at at l) (byte_at (at + 1) l) (num_at 8 (at + 2) l))

abbrev pub slots_in : List ℕ → List Operand
slots_in l = slot_in 24 l ∷ slot_in 34 l ∷ slot_in 44 l ∷ slot_in 54 l ∷ []

-- the reading that the first 80 bytes say, where a number that is not of any case counts as 0
unfoldable pub insn_in : List ℕ → Insn
insn_in l =
    record {
      mnemonic = kind_of (take 16 (drop 64 l));
      count = byte_at 3 l;
      ops = slots_in l;
      flow = flow_by (byte_at 1 l);
      target = target_by (byte_at 2 l) (num_at 8 4 l);
      delay_slot = (byte_at 2 l % 2 == 1);
      effect = effect_in l;
    }

-- are the first 80 bytes the record of a reading, with a mnemonic that there is?
abbrev pub is_record : List ℕ → Bool
is_record l = nat_lt (insn_in l).mnemonic many && same (insn_bytes (insn_in l)) (take size l)

-- refused for fewer than 80 bytes, and for what is not the record of a reading
abbrev pub unpacked : List ℕ → Decoded
unpacked l =
    cond (nat_lt (length l) size) (refused_of refusal.short_record)
    (cond (is_record l) (accepted_as (insn_in l)) (refused_of refusal.no_word))

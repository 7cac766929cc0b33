-- THE PACKED RECORD: the 80 bytes of the answer to a word, and what a writer of them leaves in a lent buffer.
use Rattle.std.specs.Prelude.{ℕ, zero, suc, ◌+◌, ◌*◌, Bool, true, false, cond, List, ◌∷◌, ◌++◌, length, replicate, pos}
use Rattle.std.specs.Prelude.{nat_lt, slice_index_or}
use Rattle.refusal.specs.Numbers as refusal
use Rattle.reading.specs.declared.Op.{Op}
use Rattle.reading.specs.declared.Effect.{Effect}
use Rattle.reading.specs.declared.Insn.{Insn}
use Rattle.reading.specs.declared.Decoded.{Decoded}
use Rattle.reading.specs.declared.Parts.{Parts}
use Rattle.reading.specs.Reading.{unused}
use Rattle.reading.specs.Numbers.{parts, op_parts, effect_parts, target_parts, value_of, flow_number}
use Rattle.buffers.specs.Bytes.{over, low_bytes}
use Rattle.names.specs.Names.{name_bytes}

abbrev pub size : ℕ
size = 80

abbrev pub bit : Bool → ℕ
bit true = 1
bit false = 0

-- 0 to 11: the number 0, flow, mark in bit 0 and target present in bit 1, operand count, target
abbrev pub head_bytes : Insn → List ℕ
head_bytes i =
    0 ∷ flow_number i.flow ∷ (bit i.delay_slot + 2 * (target_parts i.target).number) ∷ i.count ∷
    low_bytes 8 (value_of (target_parts i.target))

-- 12 to 23: the effect, its first register, its second, its size, its value
abbrev pub effect_bytes : Effect → List ℕ
effect_bytes e =
    let p : Parts = effect_parts e in
    p.number ∷ p.first ∷ p.second ∷ p.size ∷ low_bytes 8 (value_of p)

-- the operand in a slot, in numbers; zeros if the slot is not used
abbrev pub slot_parts : Bool → Op → Parts
slot_parts true o = op_parts o
slot_parts false o = parts 0 0 0 0 (pos 0) 0

abbrev pub slot_of : Insn → ℕ → Parts
slot_of i k = slot_parts (nat_lt k i.count) (slice_index_or i.ops k unused).op

-- ten bytes: its kind, register and value
abbrev pub slot_bytes : Parts → List ℕ
slot_bytes p = p.number ∷ p.first ∷ low_bytes 8 (value_of p)

-- 24 to 63: the four operands
abbrev pub operand_bytes : Insn → List ℕ
operand_bytes i =
    slot_bytes (slot_of i 0) ++ slot_bytes (slot_of i 1) ++ slot_bytes (slot_of i 2) ++ slot_bytes (slot_of i 3)

-- 64 to 79: the mnemonic's text, then zeros
abbrev pub insn_bytes : Insn → List ℕ
insn_bytes i = head_bytes i ++ effect_bytes i.effect ++ operand_bytes i ++ name_bytes i.mnemonic

-- a refusal is its number and zeros
abbrev pub number_bytes : ℕ → List ℕ
number_bytes n = n ∷ replicate 79 0

abbrev pub bytes_by : ℕ → Insn → List ℕ
bytes_by zero i = insn_bytes i
bytes_by (suc n) i = number_bytes (suc n)

-- the record of an answer
unfoldable pub record_of : Decoded → List ℕ
record_of d = bytes_by d.number d.insn

-- what the packer answers with a buffer of n bytes
abbrev pub pack_number : Decoded → ℕ → ℕ
pack_number d n = cond (nat_lt n size) refusal.short_record d.number

-- and what it leaves of the buffer l: all of it if it is too short, else the record and what stood after it
abbrev pub packed : Decoded → List ℕ → List ℕ
packed d l = cond (nat_lt (length l) size) l (over (record_of d) l)

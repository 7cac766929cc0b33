-- WHAT PACKING AND UNPACKING SAY OF EACH OTHER.
use Rattle.std.specs.Prelude.{◌≡◌, ℕ, ◌^◌, ◌<◌, ◌≤◌, Bool, List, ◌++◌, length, get_or, take, ℤ, pos, negsuc}
use Rattle.std.specs.Prelude.{slice_index_or}
use Rattle.reading.specs.declared.Insn.{Insn}
use Rattle.reading.specs.declared.Decoded.{Decoded}
use Rattle.reading.specs.declared.Parts.{Parts}
use Rattle.reading.specs.Kind.{many}
use Rattle.reading.specs.Reading.{unused, accepted_as}
use Rattle.reading.specs.Numbers.{op_parts, effect_parts, target_parts}
use Rattle.classes.specs.Decoded.{decoded_of}
use Rattle.record.specs.Record.{size, record_of}
use Rattle.record.specs.Unpacked.{unpacked}

-- a signed number of 64 bits
abbrev pub I64 : ℤ → Type 0
I64 (pos n) = n < 2 ^ 63
I64 (negsuc n) = n < 2 ^ 63

-- eight bytes hold the value
pub record Fits (p : Parts) : Type 0 where
  pub value : I64 p.value
  pub address : p.address < 2 ^ 64

-- a reading of one of the mnemonics, with four slots, register 0 in those that are not used, and values that fit
pub record Proper (i : Insn) : Type 0 where
  pub known : i.mnemonic < many
  pub four : length i.ops ≡ 4
  pub rest : (k : ℕ) → i.count ≤ k → slice_index_or i.ops k unused ≡ unused
  pub operands : (k : ℕ) → Fits (op_parts (get_or i.ops k unused).op)
  pub effect : Fits (effect_parts i.effect)
  pub target : Fits (target_parts i.target)

pub record Theorems : Type 0 where
  -- every record has 80 bytes
  pub long : (d : Decoded) → length (record_of d) ≡ size
  -- a record is unpacked to the reading that was packed, whatever comes after it
  pub back : (i : Insn) → Proper i → (after : List ℕ) → unpacked (record_of (accepted_as i) ++ after) ≡ accepted_as i
  -- and what is unpacked to a reading is its record
  pub forth : (l : List ℕ) (i : Insn) → unpacked l ≡ accepted_as i → record_of (accepted_as i) ≡ take size l
  -- every word's reading is such a reading
  pub proper : (w va : ℕ) (wide : Bool) → Proper (decoded_of w va wide).insn
  -- two accepted words with the same record have the same reading, at whatever addresses and flags
  pub one : (w v va ua : ℕ) (wide broad : Bool) →
      (decoded_of w va wide).number ≡ 0 → (decoded_of v ua broad).number ≡ 0 →
      record_of (decoded_of w va wide) ≡ record_of (decoded_of v ua broad) →
      (decoded_of w va wide).insn ≡ (decoded_of v ua broad).insn

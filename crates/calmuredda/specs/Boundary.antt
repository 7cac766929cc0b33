-- WHAT THE HOST PROGRAM GETS, for every input: the answer, and every byte of the buffer that it lent. Crate `record`
-- says what the packer answers and leaves (pack_number, packed), crate `decode` what bytes mean (decoded_in), crate
-- `line` what printing gives, crates `section`, `body`, `blocks` and `pages` what files, bodies, blocks and pages are.
use Rattle.std.specs.Prelude.{ℕ, ◌+◌, ◌*◌, ◌^◌, ◌<◌, ◌≤◌, ◌≡◌, Bool, not, cond, List, [], eqb, length, take}
use Rattle.refusal.specs.Numbers as refusal
use Rattle.word.specs.Word.{words}
use Rattle.reading.specs.declared.Decoded.{Decoded}
use Rattle.classes.specs.Decoded.{decoded_of}
use Rattle.decode.specs.Bytes.{decoded_in}
use Rattle.record.specs.Record.{size, record_of}
use Rattle.record.specs.Unpacked.{unpacked}
use Rattle.line.specs.Line.{plain, print_number, printed}

-- a flag: 0 is off, any other number on
abbrev pub on : ℕ → Bool
on n = not (eqb n 0)

-- what is packed: the answer to the first four bytes
abbrev pub decoded_for : List ℕ → ℕ → ℕ → ℕ → Decoded
decoded_for bytes va big wide = decoded_in bytes va (on big) (on wide)

-- number and word in one
abbrev pub answer : ℕ → ℕ → ℕ
answer number word = number * 2 ^ 32 + word

-- the word is accepted at this address and flag, and the first 80 of these bytes are its record
pub record HasRecord (l : List ℕ) (va : ℕ) (wide : Bool) (w : ℕ) : Type 0 where
  pub small : w < words
  pub accepted : (decoded_of w va wide).number ≡ 0
  pub packed : record_of (decoded_of w va wide) ≡ take size l

-- short_record and word 0 for fewer than 80 bytes; else number 0 and the smallest word that has the record, or no_word
-- and word 0 if no word has it
pub data EncodesRecord (l : List ℕ) (va : ℕ) (wide : Bool) (r : ℕ) : Type 0 where
  short : length l < size → r ≡ answer refusal.short_record 0 → EncodesRecord l va wide r
  smallest : size ≤ length l → (w : ℕ) → r ≡ answer 0 w → HasRecord l va wide w →
      ((v : ℕ) → HasRecord l va wide v → w ≤ v) → EncodesRecord l va wide r
  no_word : size ≤ length l → r ≡ answer refusal.no_word 0 → ((v : ℕ) → ¬ HasRecord l va wide v) →
      EncodesRecord l va wide r

-- the line of a record's reading, with this much room: what unpacking refuses comes first
abbrev pub line_number : List ℕ → ℕ → ℕ
line_number l room = cond (eqb (unpacked l).number 0) (print_number plain (unpacked l).insn room) (unpacked l).number

abbrev pub line_bytes : List ℕ → ℕ → List ℕ
line_bytes l room = cond (eqb (unpacked l).number 0) (printed plain (unpacked l).insn room) []

-- THE PRINTED LINE of a reading, byte by byte, and which readings have one.
use Rattle.std.specs.Prelude.{ℕ, ◌^◌, ◌≤◌, ◌<◌, ◌≡◌, Bool, true, ◌&&◌, cond, List, [], ◌∷◌, ◌++◌, ltb, leb, eqb, length}
use Rattle.std.specs.Prelude.{take, get_or, Result, Ok, Err}
use Rattle.refusal.specs.Numbers as refusal
use Rattle.refusal.specs.declared.Refusal.{Refusal}
use Rattle.refusal.specs.Refusals.{number_of}
use Rattle.reading.specs.declared.Op.{Op}
use Rattle.reading.specs.declared.Op.TheVariants.{Reg, FReg, Imm, Mem, Addr, Cop0}
use Rattle.reading.specs.declared.Operand.{Operand}
use Rattle.reading.specs.declared.Insn.{Insn}
use Rattle.reading.specs.Kind.{many}
use Rattle.reading.specs.Names.{name_of}
use Rattle.text.specs.Text.{text_of, numeral_of, decimal_of, address_of, newline, without}
use Rattle.names.specs.Names.{registers}

-- ── how registers and addresses are written ──

pub record Spelling : Type 0 where
  pub register : ℕ → List ℕ
  pub address : ℕ → List ℕ

unfoldable pub register_name : ℕ → List ℕ
register_name r = text_of (get_or registers r "")

-- document 01's: the names of `REGS`; 0x and hex
abbrev pub plain : Spelling
plain = record { register = register_name; address = address_of }

-- ── the line ──

unfoldable pub op_text : Spelling → Op → List ℕ
op_text σ (Reg r) = σ.register r
op_text σ (FReg r) = text_of "f" ++ numeral_of 10 r
op_text σ (Imm z) = decimal_of z
op_text σ (Mem z r) = decimal_of z ++ text_of "(" ++ σ.register r ++ text_of ")"
op_text σ (Addr a) = σ.address a
op_text σ (Cop0 r) = text_of "c0r" ++ numeral_of 10 r

-- operands, with this before the first and a comma and a space before each other
unfoldable pub listed : Spelling → List ℕ → List Operand → List ℕ
listed σ before [] = []
listed σ before (o ∷ os) = before ++ op_text σ o.op ++ listed σ (text_of ", ") os

abbrev pub used : Insn → List Operand
used i = take i.count i.ops

unfoldable pub line_of : Spelling → Insn → List ℕ
line_of σ i = text_of (name_of i.mnemonic) ++ listed σ (text_of " ") (used i)

-- ── which readings have one ──

abbrev pub registered : Op → Bool
registered (Reg r) = ltb r 32
registered (FReg r) = ltb r 32
registered (Imm z) = true
registered (Mem z r) = ltb r 32
registered (Addr a) = true
registered (Cop0 r) = ltb r 32

unfoldable pub all_registered : List Operand → Bool
all_registered [] = true
all_registered (o ∷ os) = registered o.op && all_registered os

unfoldable pub printable : Insn → Bool
printable i = ltb i.mnemonic many && (leb i.count 4 && all_registered (used i))

-- ── how many bytes they have at most ──

abbrev pub longest_mnemonic : ℕ
longest_mnemonic = 9

abbrev pub longest_register : ℕ
longest_register = 4

abbrev pub longest_address : ℕ
longest_address = 18

-- -9223372036854775808(zero)
abbrev pub longest_operand : ℕ
longest_operand = 26

-- a line: a mnemonic, and four such operands
abbrev pub longest : ℕ
longest = 120

-- a spelling that keeps to these
pub record Within (σ : Spelling) : Type 0 where
  pub register : (r : ℕ) → r < 32 → length (σ.register r) ≤ longest_register
  pub address : (a : ℕ) → a < 2 ^ 64 → length (σ.address a) ≤ longest_address

-- ── that they stay on their line ──

-- a spelling that writes no newline, whatever the number
pub record Unbroken (σ : Spelling) : Type 0 where
  pub register : (r : ℕ) → without newline (σ.register r) ≡ true
  pub address : (a : ℕ) → without newline (σ.address a) ≡ true

-- ── what printing answers and writes, with this much room ──

-- 0 and how many bytes the line has, or the refusal number and 0
pub record Printed : Type 0 where
  pub number : ℕ
  pub length : ℕ

-- a printer's answer in that number and length
abbrev pub printing_of : Result ℕ Refusal → Printed
printing_of (Ok n) = record { number = 0; length = n }
printing_of (Err r) = record { number = number_of r; length = 0 }

unfoldable pub print_number : Spelling → Insn → ℕ → ℕ
print_number σ i room = cond (printable i) (cond (leb (length (line_of σ i)) room) 0 refusal.no_room) refusal.no_line

-- nothing is written on refusal
unfoldable pub printed : Spelling → Insn → ℕ → List ℕ
printed σ i room = cond (eqb (print_number σ i room) 0) (line_of σ i) []

abbrev pub printed_of : Spelling → Insn → ℕ → Printed
printed_of σ i room = record { number = print_number σ i room; length = length (printed σ i room) }

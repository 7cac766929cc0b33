-- WHAT IS PROVED OF THE LINES. The proofs are in proofs/Proved.antt.
use Rattle.std.specs.Prelude.{ℕ, ◌^◌, ◌-◌, ◌≤◌, ◌≡◌, Bool, true, false, List, [], ◌∷◌, negsuc, length, None}
use Rattle.reading.specs.declared.Op.TheVariants.{Mem}
use Rattle.reading.specs.declared.Operand.{Operand}
use Rattle.reading.specs.declared.Flow.TheVariants as flow
use Rattle.reading.specs.declared.Effect.TheVariants as effect
use Rattle.reading.specs.declared.Insn.{Insn}
use Rattle.reading.specs.Kind as kind
use Rattle.reading.specs.Reading.{operand}
use Rattle.classes.specs.Decoded.{decoded_of}
use Rattle.text.specs.Text.{text_of, newline, without}
use Rattle.line.specs.Line.{Spelling, plain, line_of, printable, longest, Within, Unbroken}

-- ── the longest line ──

-- -9223372036854775808(zero)
abbrev pub long_operand : Operand
long_operand = operand (Mem (negsuc (2 ^ 63 - 1)) 0)

-- a mnemonic of nine letters, and that operand four times
abbrev pub long_reading : Insn
long_reading =
    record {
      mnemonic = kind.trunc_w_s;
      count = 4;
      ops = long_operand ∷ long_operand ∷ long_operand ∷ long_operand ∷ [];
      flow = flow.None;
      target = None;
      delay_slot = false;
      effect = effect.None;
    }

-- ── document 01's lines ──

-- the line of a word at an address
abbrev pub line_at : ℕ → ℕ → List ℕ
line_at w va = line_of plain (decoded_of w va false).insn

-- at any address, but for the one with a target
pub record Examples : Type 0 where
  pub lui : (va : ℕ) → line_at 0x3c048000 va ≡ text_of "lui a0, 32768"
  pub jal : line_at 0x0c000403 0x80001004 ≡ text_of "jal 0x8000100c"
  pub lw : (va : ℕ) → line_at 0x8c820010 va ≡ text_of "lw v0, 16(a0)"
  pub jr : (va : ℕ) → line_at 0x03e00008 va ≡ text_of "jr ra"
  pub nop : (va : ℕ) → line_at 0x00000000 va ≡ text_of "nop"
  pub ins : (va : ℕ) → line_at 0x7c821944 va ≡ text_of "ins v0, a0, 5, -1"

pub record Theorems : Type 0 where
  -- the reading of every word has a line, at any address and with either flag; a refused word's is the blank one
  pub readable : (w va : ℕ) (wide : Bool) → printable (decoded_of w va wide).insn ≡ true
  -- that line has at most 120 bytes, in every spelling within its limits
  pub short : (σ : Spelling) → Within σ → (w va : ℕ) (wide : Bool) →
      length (line_of σ (decoded_of w va wide).insn) ≤ longest
  -- document 01's spelling is
  pub within : Within plain
  -- and has a line of 120 bytes: `print` asks for no more room than a line can need
  pub tight : (printable long_reading ≡ true) × (length (line_of plain long_reading) ≡ longest)
  -- no reading has a newline in its line, in every spelling that writes none
  pub unbroken : (σ : Spelling) → Unbroken σ → (i : Insn) → without newline (line_of σ i) ≡ true
  -- document 01's writes none
  pub plain_unbroken : Unbroken plain
  pub examples : Examples

-- Document 01's examples that are marked P, a line of the table for each word, and its example of the program `sweep`.
-- Where the document has no address the line holds at every address; each holds with and without the width flag.
use Rattle.std.specs.Prelude.{ℕ, ◌/◌, ◌%◌, ◌≡◌, Bool, false, List, [], ◌∷◌, ◌++◌, pos, ◌-ℤ◌, length, Some}
use Prim.Native.String.{String}
use Rattle.reading.specs.declared.Op.{Op}
use Rattle.reading.specs.declared.Op.TheVariants.{Reg, Imm, Addr}
use Rattle.reading.specs.declared.Decoded.{Decoded}
use Rattle.reading.specs.Reading.{refused_of}
use Rattle.reading.specs.Kind as kind
use Rattle.classes.specs.Meaning.{slots}
use Rattle.classes.specs.Decoded.{decoded_of}
use Rattle.inverse.specs.Encoded.{encoded_as, Encodes}
use Rattle.text.specs.Text.{newline, text_of}
use Rattle.listing.specs.Swept.{swept_of}

-- ── what an example says ──

pub data Place : Type 0 where
  anywhere : Place
  at : ℕ → Place

-- what it says of the answer, and no more than that
pub data Answer : Type 0 where
  reads : ℕ → List Op → Answer  -- accepted, with this mnemonic and these operands
  encoded : ℕ → List Op → ℕ → Answer  -- the same, and the reading is encoded to this word
  unmarked : ℕ → List Op → Answer  -- the same, and no mark
  goes : ℕ → Answer  -- accepted, with this target
  refused : ℕ → Answer  -- refused with this number

abbrev pub Reads : ℕ → List Op → Decoded → Type 0
Reads k os d = (d.number ≡ 0) × (d.insn.mnemonic ≡ k) × (d.insn.count ≡ length os) × (d.insn.ops ≡ slots os)

-- of a word, as words are answered somewhere
abbrev pub Answers : Answer → (ℕ → Decoded) → ℕ → Type 0
Answers (reads k os) answer w = Reads k os (answer w)
Answers (encoded k os v) answer w = Reads k os (answer w) × Encodes answer (answer w).insn (encoded_as v)
Answers (unmarked k os) answer w = Reads k os (answer w) × ((answer w).insn.delay_slot ≡ false)
Answers (goes a) answer w = ((answer w).number ≡ 0) × ((answer w).insn.target ≡ Some a)
Answers (refused n) answer w = answer w ≡ refused_of n

pub record Line : Type 0 where
  pub word : ℕ
  pub place : Place
  pub answer : Answer

abbrev pub line : ℕ → Place → Answer → Line
line w p a = record { word = w; place = p; answer = a }

-- ── its operands ──

abbrev pub zero_register : Op
zero_register = Reg 0

abbrev pub v0 : Op
v0 = Reg 2

abbrev pub a0 : Op
a0 = Reg 4

abbrev pub value : ℕ → Op
value n = Imm (pos n)

abbrev pub minus : ℕ → Op
minus n = Imm (pos 0 -ℤ pos n)

abbrev pub address : ℕ → Op
address a = Addr a

-- ── the examples ──

unfoldable pub examples : List Line
examples =
    line 0x00000000 anywhere (reads kind.nop []) ∷
    line 0x00200000 anywhere (encoded kind.sll (zero_register ∷ zero_register ∷ value 0 ∷ []) 0x00200000) ∷
    line 0x00400000 anywhere (encoded kind.sll (zero_register ∷ zero_register ∷ value 0 ∷ []) 0x00200000) ∷
    line 0x08000001 (at 0xfffffffffffffffc) (goes 4) ∷
    line 0x08000000 (at 0x0ffffffc) (goes 0x10000000) ∷
    line 0x1000ffff (at 0x1000) (encoded kind.b (address 0x1000 ∷ []) 0x0401ffff) ∷
    line 0x0401ffff (at 0x1000) (encoded kind.b (address 0x1000 ∷ []) 0x0401ffff) ∷
    line 0x24020005 anywhere (encoded kind.li (v0 ∷ value 5 ∷ []) 0x24020005) ∷
    line 0x64020005 anywhere (encoded kind.li (v0 ∷ value 5 ∷ []) 0x24020005) ∷
    line 0x34020005 anywhere (encoded kind.li (v0 ∷ value 5 ∷ []) 0x24020005) ∷
    line 0x3402ffff anywhere (reads kind.li (v0 ∷ value 65535 ∷ [])) ∷
    line 0x2402ffff anywhere (reads kind.li (v0 ∷ minus 1 ∷ [])) ∷
    line 0x7c821944 anywhere (reads kind.ins (v0 ∷ a0 ∷ value 5 ∷ minus 1 ∷ [])) ∷
    line 0x42000018 anywhere (unmarked kind.eret []) ∷
    line 0x00000035 anywhere (refused 3) ∷
    line 0x7c000001 anywhere (refused 8) ∷
    []

-- ── what `sweep` prints ──

-- a file in hex, eight digits to a number, and what is printed, line by line
pub record Sweep : Type 0 where
  pub file : List ℕ
  pub lines : List String

abbrev pub sweep : List ℕ → List String → Sweep
sweep f ls = record { file = f; lines = ls }

-- the bytes of such a file
unfoldable pub bytes : List ℕ → List ℕ
bytes [] = []
bytes (h ∷ hs) = h / 0x1000000 ∷ h / 0x10000 % 256 ∷ h / 0x100 % 256 ∷ h % 256 ∷ bytes hs

-- the bytes of such lines, each with its newline
unfoldable pub printed : List String → List ℕ
printed [] = []
printed (s ∷ ss) = text_of s ++ (newline ∷ []) ++ printed ss

-- the document's example; the empty file; a section without a word
unfoldable pub sweeps : List Sweep
sweeps =
    sweep
    (0x01000100 ∷ 0x30000000 ∷ 0x00100080 ∷ 0x00000000 ∷ 0x18000000 ∷ 0x18000000 ∷
    0x3c048000 ∷ 0x0c000403 ∷ 0x8c820010 ∷ 0x03e00008 ∷ 0x00000000 ∷ 0x7c000001 ∷ [])
    ("section 0 words 6" ∷
    "0000000080001000 3c048000 lui a0, 32768" ∷
    "0000000080001004 0c000403 jal 0x8000100c" ∷
    "0000000080001008 8c820010 lw v0, 16(a0)" ∷
    "000000008000100c 03e00008 jr ra" ∷
    "0000000080001010 00000000 nop" ∷
    "0000000080001014 7c000001 refused 8" ∷
    "words 6 refused 1" ∷ []) ∷
    sweep [] ("file refused 12" ∷ []) ∷
    sweep (0x01000000 ∷ 0x18000000 ∷ 0x00100080 ∷ 0x00000000 ∷ 0x18000000 ∷ 0x00000000 ∷ []) ("file refused 13" ∷ []) ∷
    []

-- ── every one of them holds ──

abbrev pub HoldsAt : ℕ → Line → Type 0
HoldsAt va l = (wide : Bool) → Answers l.answer (λ w. decoded_of w va wide) l.word

abbrev pub Placed : Place → Line → Type 0
Placed anywhere l = (va : ℕ) → HoldsAt va l
Placed (at a) l = HoldsAt a l

abbrev pub Holds : Line → Type 0
Holds l = Placed l.place l

abbrev pub Prints : Sweep → Type 0
Prints s = swept_of (bytes s.file) ≡ printed s.lines

unfoldable pub Every : {A : Type 0} → (A → Type 0) → List A → Type 0
Every P [] = Unit {0}
Every P (x ∷ xs) = P x × Every P xs

abbrev pub Examples : Type 0
Examples = Every Holds examples × Every Prints sweeps

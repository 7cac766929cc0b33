-- The word that an encoder tries for a reading: the row by the mnemonic, and its least word with the operands put in.
use Rattle.std.specs.Prelude.{ℕ, ◌+◌, ◌^◌, ◌≡◌, Bool, false, not, cond, ◌&&◌, ◌||◌, List, [], ◌∷◌, eqb, ltb, ℤ, pos}
use Rattle.std.specs.Prelude.{negsuc, get_or}
use Rattle.std.proofs.Math.Option.{Option, none, some}
use Rattle.word.specs.Word.{Fields, word}
use Rattle.reading.specs.declared.Op.{Op}
use Rattle.reading.specs.declared.Operand.{Operand}
use Rattle.reading.specs.declared.Insn.{Insn}
use Rattle.reading.specs.Kind as kind
use Rattle.reading.specs.Reading.{unused}
use Rattle.classes.specs.Row.{Pat, is, read, read_but, zeros, extra, skip_but, low, Form, Row, pat_of}
use Rattle.classes.specs.Meaning.{int_of}
use Rattle.classes.specs.Table.{rt_imm, rt_uimm}
use Rattle.classes.specs.Private.Same.{same_form}
use Rattle.inverse.specs.Private.Fill.{filled}

-- ── the row of a reading ──

-- the values that an immediate has, signed and not
abbrev pub in_signed : ℤ → Bool
in_signed (pos n) = ltb n 32768
in_signed (negsuc n) = ltb n 32768

abbrev pub in_unsigned : ℤ → Bool
in_unsigned (pos n) = ltb n 65536
in_unsigned (negsuc n) = false

-- can a row with this form have this value as its second operand?
unfoldable pub holds : Form → ℤ → Bool
holds φ z = (not (same_form φ rt_imm) || in_signed z) && (not (same_form φ rt_uimm) || in_unsigned z)

-- asked of `li` alone, which has rows of both forms
unfoldable pub suits : Row → ℤ → Bool
suits r z = not (eqb r.kind kind.li) || holds r.form z

-- the first of the mnemonic that can have the value as its second operand
unfoldable pub pick : List Row → ℕ → ℤ → Option Row
pick [] k z = none
pick (s ∷ ts) k z = cond (eqb s.kind k && suits s z) (some s) (pick ts k z)

-- the first of the mnemonic
unfoldable pub first : List Row → ℕ → Option Row
first [] k = none
first (s ∷ ts) k = cond (eqb s.kind k) (some s) (first ts k)

-- ── the word that its operands give ──

-- the smallest value for a field that is not read, and 0 for one that is
unfoldable pub least : Pat → ℕ
least (is v) = v
least read = 0
least (read_but v) = 0
least zeros = 0
least extra = 0
least (skip_but v) = 0
least (low v) = v

-- the row's word with nothing put in
abbrev pub base : Row → Fields
base r x = least (pat_of r x)

-- words 0 and 0x40 are left out by some rows: rs is 1 then
abbrev pub is_nop : ℕ → Bool
is_nop w = eqb w 0 || eqb w 64

unfoldable pub after_nops : Bool → ℕ → ℕ
after_nops nops w = cond (nops && is_nop w) (w + 2 ^ 21) w

-- the row's word for this many operands
unfoldable pub candidate : Row → ℕ → ℕ → (ℕ → Op) → ℕ
candidate r va n o = after_nops r.nops (word (base r) + filled r.form va n o)

-- ── what is tried for a reading ──

-- an operand by its place
abbrev pub operand_at : List Operand → ℕ → Op
operand_at xs n = (get_or xs n unused).op

-- what an encoder may try for a reading: the candidate of its row, or anything if it has none
abbrev pub Tries : List Row → ℕ → Insn → ℕ → Type 0
Tries ts va i c =
    (h : Row) → pick ts i.mnemonic (int_of (operand_at i.ops 1)) ≡ some h →
    c ≡ candidate h va i.count (operand_at i.ops)

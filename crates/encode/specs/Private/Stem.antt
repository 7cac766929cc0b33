-- What the encoder's private functions answer.
use Rattle.std.specs.Prelude.{◌≡◌, ℕ, ◌+◌, ◌*◌, ◌^◌, ◌≤◌, Bool, List, ℤ}
use Rattle.std.proofs.Math.Option.{some}
use Rattle.word.specs.Word.{word}
use Rattle.reading.specs.declared.Op.{Op}
use Rattle.reading.specs.declared.Insn.{Insn}
use Rattle.classes.specs.Row.{Form, link, Row}
use Rattle.classes.specs.Table as form
use Rattle.classes.specs.Table.{table}
use Rattle.inverse.specs.Private.Fill.{filled}
use Rattle.inverse.specs.Private.Candidate.{base, pick, first, Tries}
use Rattle.encode.specs.declared.stem.Stem.{Stem}
use Rattle.encode.specs.declared.stem.Form.{Form as StemForm}
use Rattle.encode.specs.declared.stem.Form.TheVariants as stem

-- what is put in, in the table's words
abbrev pub form_of : StemForm → Form
form_of stem.NoOperands = form.no_operands
form_of stem.OneRs = form.one_rs
form_of stem.OneRd = form.one_rd
form_of stem.RdRs = form.rd_rs
form_of stem.RdRt = form.rd_rt
form_of stem.RsRt = form.rs_rt
form_of stem.RdRsRt = form.rd_rs_rt
form_of stem.RdRtRs = form.rd_rt_rs
form_of stem.RdRtSa = form.rd_rt_sa
form_of stem.RtCop0 = form.rt_cop0
form_of stem.FdFs = form.fd_fs
form_of stem.FdFsFt = form.fd_fs_ft
form_of stem.Link = link
form_of stem.InstrIndex = form.instr_index
form_of stem.Offset = form.offset
form_of stem.RsOffset = form.rs_offset
form_of stem.RsRtOffset = form.rs_rt_offset
form_of stem.RtImm = form.rt_imm
form_of stem.RtRsImm = form.rt_rs_imm
form_of stem.RtBase = form.rt_base
form_of stem.ExtPosSize = form.ext_pos_size
form_of stem.InsPosSize = form.ins_pos_size

-- the word with nothing put in, and what is put in
abbrev pub least_of : Stem → ℕ
least_of s = s.1

abbrev pub shape_of : Stem → Form
shape_of s = form_of s.0

-- with the operands put in
abbrev pub word_by : Stem → ℕ → ℕ → (ℕ → Op) → ℕ
word_by s va n o = least_of s + filled (shape_of s) va n o

-- the row's own words are made so
pub record Serves (s : Stem) (h : Row) : Type 0 where
  pub least : least_of s ≡ word (base h)
  pub shape : (va n : ℕ) (o : ℕ → Op) → filled (shape_of s) va n o ≡ filled h.form va n o

-- there is room below 2^32 for the fields below op
abbrev pub Roomy : Stem → Type 0
Roomy s = least_of s ≤ 63 * 2 ^ 26

-- in these tables the mnemonic's first row, if it has one, under each width flag
pub record IsIn (t : Bool → List Row) (s : Stem) (k : ℕ) : Type 0 where
  pub roomy : Roomy s
  pub serves : (wide : Bool) (h : Row) → first (t wide) k ≡ some h → Serves s h

-- the row for a mnemonic and the value of the second operand
pub record ForIn (t : Bool → List Row) (s : Stem) (k : ℕ) (z : ℤ) : Type 0 where
  pub roomy : Roomy s
  pub serves : (wide : Bool) (h : Row) → pick (t wide) k z ≡ some h → Serves s h

-- in those of the definition
abbrev pub Is : Stem → ℕ → Type 0
Is s k = IsIn table s k

abbrev pub For : Stem → ℕ → ℤ → Type 0
For s k z = ForIn table s k z

-- one of the mnemonics from a to b
abbrev pub Between : ℕ → ℕ → ℕ → Type 0
Between a b k = (a ≤ k) × (k ≤ b)

-- what to try for a reading, under each width flag
abbrev pub Candidate : ℕ → Insn → ℕ → Type 0
Candidate va i w = (wide : Bool) → Tries (table wide) va i w

-- WHAT A SHAPE READS of a word at an address: the columns of its rows in the table of classes.
use Rattle.std.specs.Prelude.{ℕ, Bool, true, false, List, [], length, None, Option, Result, Ok, Err}
use Rattle.word.specs.Word.{Fields, fields_of}
use Rattle.reading.specs.declared.Op.{Op}
use Rattle.reading.specs.declared.Operand.{Operand}
use Rattle.reading.specs.declared.Flow.{Flow}
use Rattle.reading.specs.declared.Effect.{Effect}
use Rattle.reading.specs.declared.Effect.TheVariants as effect
use Rattle.reading.specs.declared.Insn.{Insn}
use Rattle.reading.specs.Kind as kind
use Rattle.classes.specs.Row.{Form, link, Manner, memory_only}
use Rattle.classes.specs.Meaning.{outs, slots, target_in, reading}
use Rattle.classes.specs.Table as table
use Rattle.forms.specs.declared.Shape.{Shape}
use Rattle.forms.specs.declared.Shape.TheVariants as shape

-- ── readings ──

-- by its parts: mnemonic, count and slots of the operands, flow, target, delay slot, effect
abbrev pub made : ℕ → ℕ → List Operand → Flow → Option ℕ → Bool → Effect → Insn
made m n os l t d e =
    record {
      mnemonic = m;
      count = n;
      ops = os;
      flow = l;
      target = t;
      delay_slot = d;
      effect = e;
    }

-- the same, with the operands as a list
abbrev pub answer : ℕ → List Op → Flow → Option ℕ → Bool → Effect → Insn
answer m os = made m (length os) (slots os)

-- by the columns of a row: mnemonic, operands, manner
abbrev pub columns : ℕ → Form → Manner → ℕ → Fields → Insn
columns m φ μ va f = reading m μ (outs φ va f)

-- no operands, this flow, and no delay slot
abbrev pub alone : ℕ → Flow → Insn
alone m l = answer m [] l None false effect.None

-- a jump or a branch: these operands, this flow, a delay slot, and no effect
abbrev pub turned : ℕ → List Op → Flow → Insn
turned m os l = answer m os l (target_in os) true effect.None

abbrev pub turns : ℕ → Form → Flow → ℕ → Fields → Insn
turns m φ l va f = turned m (outs φ va f) l

-- ── shapes ──

-- by the fields of a word: its reading, or what refuses it
abbrev pub read_of : {R : Type 0} → Shape R → ℕ → Fields → Result Insn R
read_of (shape.Refused r) = λ va f. Err r
read_of (shape.NoOperands m l) = λ va f. Ok (alone m l)
read_of (shape.InstrIndex m l) = λ va f. Ok (turns m table.instr_index l va f)
read_of (shape.Offset m l) = λ va f. Ok (turns m table.offset l va f)
read_of (shape.RsOffset m l) = λ va f. Ok (turns m table.rs_offset l va f)
read_of (shape.RsRtOffset m l) = λ va f. Ok (turns m table.rs_rt_offset l va f)
read_of shape.Jr = λ va f. Ok (columns kind.jr table.one_rs table.jumps_by_register va f)
read_of shape.Link = λ va f. Ok (columns kind.jalr link table.calls va f)
read_of (shape.RdRsRt m) = λ va f. Ok (columns m table.rd_rs_rt table.computes va f)
read_of (shape.RdRtRs m) = λ va f. Ok (columns m table.rd_rt_rs table.computes va f)
read_of (shape.RdRtSa m) = λ va f. Ok (columns m table.rd_rt_sa table.computes va f)
read_of (shape.RdRs m) = λ va f. Ok (columns m table.rd_rs table.computes va f)
read_of (shape.RdRt m) = λ va f. Ok (columns m table.rd_rt table.computes va f)
read_of (shape.OneRd m) = λ va f. Ok (columns m table.one_rd table.computes va f)
read_of (shape.RtRsImm m) = λ va f. Ok (columns m table.rt_rs_imm table.computes va f)
read_of (shape.RtRsUimm m) = λ va f. Ok (columns m table.rt_rs_uimm table.computes va f)
read_of shape.ExtPosSize = λ va f. Ok (columns kind.ext table.ext_pos_size table.computes va f)
read_of shape.InsPosSize = λ va f. Ok (columns kind.ins table.ins_pos_size table.computes va f)
read_of shape.RtHwr = λ va f. Ok (columns kind.rdhwr table.rt_hwr table.computes va f)
read_of (shape.RsRt m) = λ va f. Ok (columns m table.rs_rt table.acts va f)
read_of (shape.OneRs m) = λ va f. Ok (columns m table.one_rs table.acts va f)
read_of (shape.RtCop0 m) = λ va f. Ok (columns m table.rt_cop0 table.acts va f)
read_of (shape.RtFs m) = λ va f. Ok (columns m table.rt_fs table.acts va f)
read_of (shape.FdFsFt m) = λ va f. Ok (columns m table.fd_fs_ft table.acts va f)
read_of (shape.FdFs m) = λ va f. Ok (columns m table.fd_fs table.acts va f)
read_of (shape.FsFt m) = λ va f. Ok (columns m table.fs_ft table.acts va f)
read_of (shape.HintBase m) = λ va f. Ok (columns m table.hint_base table.acts va f)
read_of (shape.RtCop0Write m) = λ va f. Ok (columns m table.rt_cop0 table.computes va f)
read_of (shape.RtFsWrite m) = λ va f. Ok (columns m table.rt_fs table.computes va f)
read_of (shape.RtBaseWrite m) = λ va f. Ok (columns m table.rt_base table.computes va f)
read_of (shape.RtRsImmAdd m) = λ va f. Ok (columns m table.rt_rs_imm table.adds_immediate va f)
read_of (shape.RtRsUimmAdd m) = λ va f. Ok (columns m table.rt_rs_uimm table.adds_immediate va f)
read_of shape.RtImm = λ va f. Ok (columns kind.li table.rt_imm table.sets_immediate va f)
read_of shape.RtUimm = λ va f. Ok (columns kind.li table.rt_uimm table.sets_immediate va f)
read_of shape.RtUimmUpper = λ va f. Ok (columns kind.lui table.rt_uimm table.sets_upper_half va f)
read_of (shape.RtBaseLoad m n) = λ va f. Ok (columns m table.rt_base (table.loads n) va f)
read_of (shape.RtBaseStore m n) = λ va f. Ok (columns m table.rt_base (table.stores n) va f)
read_of (shape.FtBase m n) = λ va f. Ok (columns m table.ft_base (table.goes_on (memory_only n)) va f)

abbrev pub read_by : {R : Type 0} → Shape R → ℕ → ℕ → Result Insn R
read_by s w va = read_of s va (fields_of w)

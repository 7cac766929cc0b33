-- A row of the table of classes: what each of a word's six fields must be and whether the class reads it, the operands
-- in order, where control goes, and the effect. A page of the manual draws its encoding in the same way.
use Rattle.std.specs.Prelude.{ℕ, Bool}
use Rattle.word.specs.Word.{Field, op, rs, rt, rd, sa, funct}

-- ── a field ──

-- what a class asks of a field
pub data Pat : Type 0 where
  is : ℕ → Pat  -- this value
  read : Pat  -- any value, and it is read
  read_but : ℕ → Pat  -- any value but this, and it is read
  zeros : Pat  -- any value; not read, since the manual has zeros there
  extra : Pat  -- any value; not read, though the manual has something there: a code, a sel, a cc
  skip_but : ℕ → Pat  -- any value but this; not read
  low : ℕ → Pat  -- its two low bits have this value; the others are not read

-- ── the operands ──

-- an operand, by the fields that it is made of
pub data Code : Type 0 where
  reg freg cop0 num : Field → Code  -- a register, or the field as a number
  size : Code  -- rd + 1
  s16 u16 : Code  -- the immediate, signed and not
  mem : Code  -- the signed immediate, and base rs
  br jmp : Code  -- the target of a branch and of a jump
  deriving Discrete as Code-discrete

-- the operands of a class, in the order of the manual's Format line; those of `ins` and `jalr` end in their own way
pub data Form : Type 0 where
  end : Form
  ◌▸◌ : Code → Form → Form
  pos_size : Form  -- sa, and the size of `ins`
  link : Form  -- rd and rs; rs alone for rd 31
  deriving Discrete as Form-discrete

infixr 40 ◌▸◌
-- ── its manner: control and effect ──

-- where control goes: the flow, and with it the mark
pub data Control : Type 0 where
  plain call jump branch return interrupt : Control
  by_register : Control  -- Ret for register 31, else Jump
  deriving Discrete as Control-discrete

-- the effect, made of the operands
pub data Change : Type 0 where
  nothing : Change
  writes : Change  -- Write of the first
  adds : Change  -- AddImm of the first, the second and the third
  sets : Change  -- AddImm of the first, register 0 and the second
  sets_upper : Change  -- SetAddr of the first, with the second as lui leaves it
  memory : ℕ → Change  -- Mem, of this size, with the first
  memory_only : ℕ → Change  -- Mem, of this size, with register 0
  deriving Discrete as Change-discrete

-- what a class does, beside its operands
pub record Manner : Type 0 where
  pub control : Control
  pub change : Change

-- ── a row ──

pub record Row : Type 0 where
  pub kind : ℕ
  pub pop : Pat
  pub prs : Pat
  pub prt : Pat
  pub prd : Pat
  pub psa : Pat
  pub pfunct : Pat
  pub nops : Bool  -- words 0 and 0x40, which are `nop` and `ssnop`, are left out
  pub form : Form
  pub manner : Manner

abbrev pub pat_of : Row → Field → Pat
pat_of r op = r.pop
pat_of r rs = r.prs
pat_of r rt = r.prt
pat_of r rd = r.prd
pat_of r sa = r.psa
pat_of r funct = r.pfunct

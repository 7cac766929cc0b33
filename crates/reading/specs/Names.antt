-- The names of the mnemonic kinds, as the source prints them. A mnemonic is added to this list; tools/name_tables then
-- writes its number (Kind.antt, src/kind.rt) and the arrays and tables of crate `names`.
use Rattle.std.specs.Prelude.{ℕ, List, [], ◌∷◌, get_or}
use Prim.Native.String.{String}

-- in the order of the kinds; the comments are headings there
unfoldable pub mnemonics : List String
mnemonics =
    -- SPECIAL, by funct
    "nop" ∷ "ssnop" ∷ "sll" ∷ "rotr" ∷ "srl" ∷ "sra" ∷ "sllv" ∷ "srlv" ∷ "srav" ∷ "jr" ∷ "jalr" ∷ "movz" ∷ "movn" ∷
    "syscall" ∷ "break" ∷ "sync" ∷ "mfhi" ∷ "mthi" ∷ "mflo" ∷ "mtlo" ∷ "dsllv" ∷ "dsrlv" ∷ "dsrav" ∷ "mult" ∷ "multu" ∷
    "div" ∷ "divu" ∷ "dmult" ∷ "dmultu" ∷ "ddiv" ∷ "ddivu" ∷ "add" ∷ "move" ∷ "addu" ∷ "sub" ∷ "negu" ∷ "subu" ∷ "and" ∷
    "or" ∷ "xor" ∷ "not" ∷ "nor" ∷ "slt" ∷ "sltu" ∷ "dadd" ∷ "daddu" ∷ "dsub" ∷ "dsubu" ∷ "tge" ∷ "tgeu" ∷ "tlt" ∷
    "tltu" ∷ "teq" ∷ "tne" ∷ "dsll" ∷ "dsrl" ∷ "dsra" ∷ "dsll32" ∷ "dsrl32" ∷ "dsra32" ∷
    -- REGIMM, by rt
    "bltz" ∷ "b" ∷ "bgez" ∷ "bltzl" ∷ "bgezl" ∷ "bltzal" ∷ "bal" ∷ "bgezal" ∷
    -- Ops 2 to 15
    "j" ∷ "jal" ∷ "beqz" ∷ "beq" ∷ "bnez" ∷ "bne" ∷ "blez" ∷ "bgtz" ∷ "addi" ∷ "li" ∷ "addiu" ∷ "slti" ∷ "sltiu" ∷
    "andi" ∷ "ori" ∷ "xori" ∷ "lui" ∷
    -- COP0, by rs
    "mfc0" ∷ "mtc0" ∷ "eret" ∷ "wait" ∷
    -- COP1, by fmt and funct
    "mfc1" ∷ "dmfc1" ∷ "cfc1" ∷ "mtc1" ∷ "dmtc1" ∷ "ctc1" ∷ "bc1f" ∷ "bc1t" ∷ "bc1fl" ∷ "bc1tl" ∷ "add.s" ∷ "sub.s" ∷
    "mul.s" ∷ "div.s" ∷ "sqrt.s" ∷ "abs.s" ∷ "mov.s" ∷ "neg.s" ∷ "trunc.w.s" ∷ "cvt.s.s" ∷ "cvt.d.s" ∷ "cvt.w.s" ∷
    "cvt.l.s" ∷ "c.eq.s" ∷ "c.lt.s" ∷ "c.le.s" ∷ "add.d" ∷ "sub.d" ∷ "mul.d" ∷ "div.d" ∷ "sqrt.d" ∷ "abs.d" ∷ "mov.d" ∷
    "neg.d" ∷ "trunc.w.d" ∷ "cvt.s.d" ∷ "cvt.d.d" ∷ "cvt.w.d" ∷ "cvt.l.d" ∷ "c.eq.d" ∷ "c.lt.d" ∷ "c.le.d" ∷ "add.w" ∷
    "sub.w" ∷ "mul.w" ∷ "div.w" ∷ "sqrt.w" ∷ "abs.w" ∷ "mov.w" ∷ "neg.w" ∷ "trunc.w.w" ∷ "cvt.s.w" ∷ "cvt.d.w" ∷
    "cvt.w.w" ∷ "cvt.l.w" ∷ "c.eq.w" ∷ "c.lt.w" ∷ "c.le.w" ∷ "add.l" ∷ "sub.l" ∷ "mul.l" ∷ "div.l" ∷ "sqrt.l" ∷
    "abs.l" ∷ "mov.l" ∷ "neg.l" ∷ "trunc.w.l" ∷ "cvt.s.l" ∷ "cvt.d.l" ∷ "cvt.w.l" ∷ "cvt.l.l" ∷ "c.eq.l" ∷ "c.lt.l" ∷
    "c.le.l" ∷
    -- Ops 20 to 27
    "beqzl" ∷ "beql" ∷ "bnezl" ∷ "bnel" ∷ "blezl" ∷ "bgtzl" ∷ "daddi" ∷ "daddiu" ∷ "ldl" ∷ "ldr" ∷
    -- SPECIAL2, by funct
    "madd" ∷ "maddu" ∷ "mul" ∷ "msub" ∷ "clz" ∷ "clo" ∷
    -- SPECIAL3, by funct
    "ext" ∷ "ins" ∷ "wsbh" ∷ "seb" ∷ "seh" ∷ "rdhwr" ∷
    -- Ops 32 to 63
    "lb" ∷ "lh" ∷ "lwl" ∷ "lw" ∷ "lbu" ∷ "lhu" ∷ "lwr" ∷ "lwu" ∷ "sb" ∷ "sh" ∷ "swl" ∷ "sw" ∷ "sdl" ∷ "sdr" ∷ "swr" ∷
    "cache" ∷ "ll" ∷ "lwc1" ∷ "pref" ∷ "lld" ∷ "ldc1" ∷ "ld" ∷ "sc" ∷ "swc1" ∷ "scd" ∷ "sdc1" ∷ "sd" ∷
    []

-- a kind that does not exist has no name
unfoldable pub name_of : ℕ → String
name_of k = get_or mnemonics k ""

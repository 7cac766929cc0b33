-- THE MANUALS' PAGES: MIPS32 and MIPS64 Architecture for Programmers, Volume II, release 2. A line a page, in the order
-- of the opcode tables; a page that draws several encodings has a line for each. Where two lines have a word, the first
-- one is meant.
use Rattle.std.specs.Prelude.{ℕ, List, [], ◌∷◌}
use Prim.Native.String.{String}
use Rattle.manual.specs.Page.{Name, Rs, Rt, Rd, Sa, Base, Offset, Immediate, InstrIndex, Fs, Ft, Fd, Fr, Index}
use Rattle.manual.specs.Page.{Hint, CacheOp, Cc, Code, Stype}
use Rattle.manual.specs.Page.{Sel, Impl, Cofun, Msbd, Msb, Lsb}
use Rattle.manual.specs.Page.{Column, is, box, over, under, Format, Rules, Isa, MIPS32, MIPS64, Page}
use Rattle.manual.specs.Formats.{no_operands, one_rs, rt_alone, one_rd, rd_rs, rd_rt, rs_rt, rd_rs_rt, rd_rt_rs}
use Rattle.manual.specs.Formats.{rd_rt_sa, rd_rs_cc}
use Rattle.manual.specs.Formats.{branch, rs_offset, rs_rt_offset, target, rs_immediate, rt_zero_immediate}
use Rattle.manual.specs.Formats.{rt_rs_immediate}
use Rattle.manual.specs.Formats.{rt_rs_zero_immediate}
use Rattle.manual.specs.Formats.{offset_of_base, rt_offset_base, ft_offset_base, cp2_offset_base}
use Rattle.manual.specs.Formats.{hint_offset_base, op_offset_base}
use Rattle.manual.specs.Formats.{rt_fs, rt_control, rt_hardware, fd_fs, fd_fs_ft, fd_fs_cc, fd_fs_rt, fd_fr_fs_ft}
use Rattle.manual.specs.Formats.{fd_fs_ft_rs, fd_index_base}
use Rattle.manual.specs.Formats.{fs_index_base, hint_index_base, rt_impl, cofun_alone, code_alone, ext_pos_size}
use Rattle.manual.specs.Formats.{dextm_pos_size, dextu_pos_size}
use Rattle.manual.specs.Formats.{ins_pos_size, dinsm_pos_size, dinsu_pos_size, cc_offset, cc_fs_ft, rt_rd_sel}
use Rattle.manual.specs.Formats.{stype_alone, link_rs}
use Rattle.manual.specs.Formats.{code20, code19, rs_rt_code10, always, rs_not_31, hint_0, hint_16}
use Rattle.manual.specs.Formats.{hint_0_rs_not_rd, hint_16_rs_not_rd, rt_same_as_rd, ends_inside}
use Rattle.manual.specs.Formats.{size_positive, readable_control, writable_control, even_cc_in_rt}
use Rattle.manual.specs.Formats.{even_cc_in_sa, hardware_register}

-- ── columns ──

-- the manual has zeros there
abbrev pub zeros : Column
zeros = is 0

abbrev pub rs : Column
rs = box Rs

abbrev pub rt : Column
rt = box Rt

abbrev pub rd : Column
rd = box Rd

abbrev pub sa : Column
sa = box Sa

abbrev pub base : Column
base = box Base

abbrev pub offset : Column
offset = box Offset

abbrev pub immediate : Column
immediate = box Immediate

abbrev pub instr_index : Column
instr_index = box InstrIndex

abbrev pub fs : Column
fs = box Fs

abbrev pub ft : Column
ft = box Ft

abbrev pub fd : Column
fd = box Fd

abbrev pub fr : Column
fr = box Fr

abbrev pub index : Column
index = box Index

abbrev pub hint : Column
hint = box Hint

abbrev pub cache_op : Column
cache_op = box CacheOp

abbrev pub code : Column
code = box Code

abbrev pub stype : Column
stype = box Stype

abbrev pub impl : Column
impl = box Impl

abbrev pub cofun : Column
cofun = box Cofun

abbrev pub msbd : Column
msbd = box Msbd

abbrev pub msb : Column
msb = box Msb

abbrev pub lsb : Column
lsb = box Lsb

-- cc, and below it two fixed bits: nd and tf of a branch, zeros of a compare
abbrev pub cc : ℕ → Column
cc v = over Cc 2 v

-- the bit of the hazard barrier, and below it the rest of the hint
abbrev pub hb : Column
hb = under 1 4 Hint

-- three zeros and sel
abbrev pub sel : Column
sel = under 0 3 Sel

-- the CO bit, and below it the first four bits of a field
abbrev pub co : Name → Column
co n = under 1 4 n

-- ── pages ──

-- name; MIPS32 or MIPS64 alone; op, rs, rt, rd, sa, funct; Format, Restrictions
abbrev pub page : String → Isa → Column → Column → Column → Column → Column → Column → List Format → Rules → Page
page m i a b c d e g φ u =
    record { name = m; isa = i; pop = a; prs = b; prt = c; prd = d; psa = e; pfunct = g; formats = φ; limit = u }

unfoldable pub pages : List Page
pages =
    -- idioms: words of `sll`, `beq` and `bgezal` that have a page of their own
    page "nop" MIPS32 (is 0) zeros zeros zeros zeros (is 0) no_operands always ∷
    page "ssnop" MIPS32 (is 0) zeros zeros zeros (is 1) (is 0) no_operands always ∷
    page "ehb" MIPS32 (is 0) zeros zeros zeros (is 3) (is 0) no_operands always ∷
    page "pause" MIPS32 (is 0) zeros zeros zeros (is 5) (is 0) no_operands always ∷
    page "b" MIPS32 (is 4) zeros zeros offset offset offset branch always ∷
    page "bal" MIPS32 (is 1) zeros (is 17) offset offset offset branch always ∷
    -- SPECIAL (op 0), by funct
    page "sll" MIPS32 (is 0) zeros rt rd sa (is 0) rd_rt_sa always ∷
    page "movf" MIPS32 (is 0) rs (cc 0) rd zeros (is 1) rd_rs_cc always ∷
    page "movt" MIPS32 (is 0) rs (cc 1) rd zeros (is 1) rd_rs_cc always ∷
    page "srl" MIPS32 (is 0) zeros rt rd sa (is 2) rd_rt_sa always ∷
    page "rotr" MIPS32 (is 0) (is 1) rt rd sa (is 2) rd_rt_sa always ∷
    page "sra" MIPS32 (is 0) zeros rt rd sa (is 3) rd_rt_sa always ∷
    page "sllv" MIPS32 (is 0) rs rt rd zeros (is 4) rd_rt_rs always ∷
    page "srlv" MIPS32 (is 0) rs rt rd zeros (is 6) rd_rt_rs always ∷
    page "rotrv" MIPS32 (is 0) rs rt rd (is 1) (is 6) rd_rt_rs always ∷
    page "srav" MIPS32 (is 0) rs rt rd zeros (is 7) rd_rt_rs always ∷
    page "jr.hb" MIPS32 (is 0) rs zeros zeros hb (is 8) one_rs hint_16 ∷
    page "jr" MIPS32 (is 0) rs zeros zeros hint (is 8) one_rs hint_0 ∷
    page "jalr.hb" MIPS32 (is 0) rs zeros rd hb (is 9) link_rs hint_16_rs_not_rd ∷
    page "jalr" MIPS32 (is 0) rs zeros rd hint (is 9) link_rs hint_0_rs_not_rd ∷
    page "movz" MIPS32 (is 0) rs rt rd zeros (is 10) rd_rs_rt always ∷
    page "movn" MIPS32 (is 0) rs rt rd zeros (is 11) rd_rs_rt always ∷
    page "syscall" MIPS32 (is 0) code code code code (is 12) code20 always ∷
    page "break" MIPS32 (is 0) code code code code (is 13) code20 always ∷
    page "sync" MIPS32 (is 0) zeros zeros zeros stype (is 15) stype_alone always ∷
    page "mfhi" MIPS32 (is 0) zeros zeros rd zeros (is 16) one_rd always ∷
    page "mthi" MIPS32 (is 0) rs zeros zeros zeros (is 17) one_rs always ∷
    page "mflo" MIPS32 (is 0) zeros zeros rd zeros (is 18) one_rd always ∷
    page "mtlo" MIPS32 (is 0) rs zeros zeros zeros (is 19) one_rs always ∷
    page "dsllv" MIPS64 (is 0) rs rt rd zeros (is 20) rd_rt_rs always ∷
    page "dsrlv" MIPS64 (is 0) rs rt rd zeros (is 22) rd_rt_rs always ∷
    page "drotrv" MIPS64 (is 0) rs rt rd (is 1) (is 22) rd_rt_rs always ∷
    page "dsrav" MIPS64 (is 0) rs rt rd zeros (is 23) rd_rt_rs always ∷
    page "mult" MIPS32 (is 0) rs rt zeros zeros (is 24) rs_rt always ∷
    page "multu" MIPS32 (is 0) rs rt zeros zeros (is 25) rs_rt always ∷
    page "div" MIPS32 (is 0) rs rt zeros zeros (is 26) rs_rt always ∷
    page "divu" MIPS32 (is 0) rs rt zeros zeros (is 27) rs_rt always ∷
    page "dmult" MIPS64 (is 0) rs rt zeros zeros (is 28) rs_rt always ∷
    page "dmultu" MIPS64 (is 0) rs rt zeros zeros (is 29) rs_rt always ∷
    page "ddiv" MIPS64 (is 0) rs rt zeros zeros (is 30) rs_rt always ∷
    page "ddivu" MIPS64 (is 0) rs rt zeros zeros (is 31) rs_rt always ∷
    page "add" MIPS32 (is 0) rs rt rd zeros (is 32) rd_rs_rt always ∷
    page "addu" MIPS32 (is 0) rs rt rd zeros (is 33) rd_rs_rt always ∷
    page "sub" MIPS32 (is 0) rs rt rd zeros (is 34) rd_rs_rt always ∷
    page "subu" MIPS32 (is 0) rs rt rd zeros (is 35) rd_rs_rt always ∷
    page "and" MIPS32 (is 0) rs rt rd zeros (is 36) rd_rs_rt always ∷
    page "or" MIPS32 (is 0) rs rt rd zeros (is 37) rd_rs_rt always ∷
    page "xor" MIPS32 (is 0) rs rt rd zeros (is 38) rd_rs_rt always ∷
    page "nor" MIPS32 (is 0) rs rt rd zeros (is 39) rd_rs_rt always ∷
    page "slt" MIPS32 (is 0) rs rt rd zeros (is 42) rd_rs_rt always ∷
    page "sltu" MIPS32 (is 0) rs rt rd zeros (is 43) rd_rs_rt always ∷
    page "dadd" MIPS64 (is 0) rs rt rd zeros (is 44) rd_rs_rt always ∷
    page "daddu" MIPS64 (is 0) rs rt rd zeros (is 45) rd_rs_rt always ∷
    page "dsub" MIPS64 (is 0) rs rt rd zeros (is 46) rd_rs_rt always ∷
    page "dsubu" MIPS64 (is 0) rs rt rd zeros (is 47) rd_rs_rt always ∷
    page "tge" MIPS32 (is 0) rs rt code code (is 48) rs_rt_code10 always ∷
    page "tgeu" MIPS32 (is 0) rs rt code code (is 49) rs_rt_code10 always ∷
    page "tlt" MIPS32 (is 0) rs rt code code (is 50) rs_rt_code10 always ∷
    page "tltu" MIPS32 (is 0) rs rt code code (is 51) rs_rt_code10 always ∷
    page "teq" MIPS32 (is 0) rs rt code code (is 52) rs_rt_code10 always ∷
    page "tne" MIPS32 (is 0) rs rt code code (is 54) rs_rt_code10 always ∷
    page "dsll" MIPS64 (is 0) zeros rt rd sa (is 56) rd_rt_sa always ∷
    page "dsrl" MIPS64 (is 0) zeros rt rd sa (is 58) rd_rt_sa always ∷
    page "drotr" MIPS64 (is 0) (is 1) rt rd sa (is 58) rd_rt_sa always ∷
    page "dsra" MIPS64 (is 0) zeros rt rd sa (is 59) rd_rt_sa always ∷
    page "dsll32" MIPS64 (is 0) zeros rt rd sa (is 60) rd_rt_sa always ∷
    page "dsrl32" MIPS64 (is 0) zeros rt rd sa (is 62) rd_rt_sa always ∷
    page "drotr32" MIPS64 (is 0) (is 1) rt rd sa (is 62) rd_rt_sa always ∷
    page "dsra32" MIPS64 (is 0) zeros rt rd sa (is 63) rd_rt_sa always ∷
    -- REGIMM (op 1), by rt
    page "bltz" MIPS32 (is 1) rs zeros offset offset offset rs_offset always ∷
    page "bgez" MIPS32 (is 1) rs (is 1) offset offset offset rs_offset always ∷
    page "bltzl" MIPS32 (is 1) rs (is 2) offset offset offset rs_offset always ∷
    page "bgezl" MIPS32 (is 1) rs (is 3) offset offset offset rs_offset always ∷
    page "tgei" MIPS32 (is 1) rs (is 8) immediate immediate immediate rs_immediate always ∷
    page "tgeiu" MIPS32 (is 1) rs (is 9) immediate immediate immediate rs_immediate always ∷
    page "tlti" MIPS32 (is 1) rs (is 10) immediate immediate immediate rs_immediate always ∷
    page "tltiu" MIPS32 (is 1) rs (is 11) immediate immediate immediate rs_immediate always ∷
    page "teqi" MIPS32 (is 1) rs (is 12) immediate immediate immediate rs_immediate always ∷
    page "tnei" MIPS32 (is 1) rs (is 14) immediate immediate immediate rs_immediate always ∷
    page "bltzal" MIPS32 (is 1) rs (is 16) offset offset offset rs_offset rs_not_31 ∷
    page "bgezal" MIPS32 (is 1) rs (is 17) offset offset offset rs_offset rs_not_31 ∷
    page "bltzall" MIPS32 (is 1) rs (is 18) offset offset offset rs_offset rs_not_31 ∷
    page "bgezall" MIPS32 (is 1) rs (is 19) offset offset offset rs_offset rs_not_31 ∷
    page "synci" MIPS32 (is 1) base (is 31) offset offset offset offset_of_base always ∷
    -- jumps, branches and immediates: ops 2 to 15
    page "j" MIPS32 (is 2) instr_index instr_index instr_index instr_index instr_index target always ∷
    page "jal" MIPS32 (is 3) instr_index instr_index instr_index instr_index instr_index target always ∷
    page "beq" MIPS32 (is 4) rs rt offset offset offset rs_rt_offset always ∷
    page "bne" MIPS32 (is 5) rs rt offset offset offset rs_rt_offset always ∷
    page "blez" MIPS32 (is 6) rs zeros offset offset offset rs_offset always ∷
    page "bgtz" MIPS32 (is 7) rs zeros offset offset offset rs_offset always ∷
    page "addi" MIPS32 (is 8) rs rt immediate immediate immediate rt_rs_immediate always ∷
    page "addiu" MIPS32 (is 9) rs rt immediate immediate immediate rt_rs_immediate always ∷
    page "slti" MIPS32 (is 10) rs rt immediate immediate immediate rt_rs_immediate always ∷
    page "sltiu" MIPS32 (is 11) rs rt immediate immediate immediate rt_rs_immediate always ∷
    page "andi" MIPS32 (is 12) rs rt immediate immediate immediate rt_rs_zero_immediate always ∷
    page "ori" MIPS32 (is 13) rs rt immediate immediate immediate rt_rs_zero_immediate always ∷
    page "xori" MIPS32 (is 14) rs rt immediate immediate immediate rt_rs_zero_immediate always ∷
    page "lui" MIPS32 (is 15) zeros rt immediate immediate immediate rt_zero_immediate always ∷
    -- COP0 (op 16), by rs; from 16 on by funct
    page "mfc0" MIPS32 (is 16) zeros rt rd zeros sel rt_rd_sel always ∷
    page "dmfc0" MIPS64 (is 16) (is 1) rt rd zeros sel rt_rd_sel always ∷
    page "mtc0" MIPS32 (is 16) (is 4) rt rd zeros sel rt_rd_sel always ∷
    page "dmtc0" MIPS64 (is 16) (is 5) rt rd zeros sel rt_rd_sel always ∷
    page "rdpgpr" MIPS32 (is 16) (is 10) rt rd zeros (is 0) rd_rt always ∷
    page "di" MIPS32 (is 16) (is 11) rt (is 12) zeros (is 0) rt_alone always ∷
    page "ei" MIPS32 (is 16) (is 11) rt (is 12) zeros (is 32) rt_alone always ∷
    page "wrpgpr" MIPS32 (is 16) (is 14) rt rd zeros (is 0) rd_rt always ∷
    page "tlbr" MIPS32 (is 16) (is 16) zeros zeros zeros (is 1) no_operands always ∷
    page "tlbwi" MIPS32 (is 16) (is 16) zeros zeros zeros (is 2) no_operands always ∷
    page "tlbwr" MIPS32 (is 16) (is 16) zeros zeros zeros (is 6) no_operands always ∷
    page "tlbp" MIPS32 (is 16) (is 16) zeros zeros zeros (is 8) no_operands always ∷
    page "eret" MIPS32 (is 16) (is 16) zeros zeros zeros (is 24) no_operands always ∷
    page "deret" MIPS32 (is 16) (is 16) zeros zeros zeros (is 31) no_operands always ∷
    page "wait" MIPS32 (is 16) (co Code) code code code (is 32) code19 always ∷
    -- COP1 (op 17), by fmt, the rs column: moves and branches
    page "mfc1" MIPS32 (is 17) zeros rt fs zeros (is 0) rt_fs always ∷
    page "dmfc1" MIPS64 (is 17) (is 1) rt fs zeros (is 0) rt_fs always ∷
    page "cfc1" MIPS32 (is 17) (is 2) rt fs zeros (is 0) rt_control readable_control ∷
    page "mfhc1" MIPS32 (is 17) (is 3) rt fs zeros (is 0) rt_fs always ∷
    page "mtc1" MIPS32 (is 17) (is 4) rt fs zeros (is 0) rt_fs always ∷
    page "dmtc1" MIPS64 (is 17) (is 5) rt fs zeros (is 0) rt_fs always ∷
    page "ctc1" MIPS32 (is 17) (is 6) rt fs zeros (is 0) rt_control writable_control ∷
    page "mthc1" MIPS32 (is 17) (is 7) rt fs zeros (is 0) rt_fs always ∷
    page "bc1f" MIPS32 (is 17) (is 8) (cc 0) offset offset offset cc_offset always ∷
    page "bc1t" MIPS32 (is 17) (is 8) (cc 1) offset offset offset cc_offset always ∷
    page "bc1fl" MIPS32 (is 17) (is 8) (cc 2) offset offset offset cc_offset always ∷
    page "bc1tl" MIPS32 (is 17) (is 8) (cc 3) offset offset offset cc_offset always ∷
    -- COP1, format s (single), by funct
    page "add.s" MIPS32 (is 17) (is 16) ft fs fd (is 0) fd_fs_ft always ∷
    page "sub.s" MIPS32 (is 17) (is 16) ft fs fd (is 1) fd_fs_ft always ∷
    page "mul.s" MIPS32 (is 17) (is 16) ft fs fd (is 2) fd_fs_ft always ∷
    page "div.s" MIPS32 (is 17) (is 16) ft fs fd (is 3) fd_fs_ft always ∷
    page "sqrt.s" MIPS32 (is 17) (is 16) zeros fs fd (is 4) fd_fs always ∷
    page "abs.s" MIPS32 (is 17) (is 16) zeros fs fd (is 5) fd_fs always ∷
    page "mov.s" MIPS32 (is 17) (is 16) zeros fs fd (is 6) fd_fs always ∷
    page "neg.s" MIPS32 (is 17) (is 16) zeros fs fd (is 7) fd_fs always ∷
    page "round.l.s" MIPS32 (is 17) (is 16) zeros fs fd (is 8) fd_fs always ∷
    page "trunc.l.s" MIPS32 (is 17) (is 16) zeros fs fd (is 9) fd_fs always ∷
    page "ceil.l.s" MIPS32 (is 17) (is 16) zeros fs fd (is 10) fd_fs always ∷
    page "floor.l.s" MIPS32 (is 17) (is 16) zeros fs fd (is 11) fd_fs always ∷
    page "round.w.s" MIPS32 (is 17) (is 16) zeros fs fd (is 12) fd_fs always ∷
    page "trunc.w.s" MIPS32 (is 17) (is 16) zeros fs fd (is 13) fd_fs always ∷
    page "ceil.w.s" MIPS32 (is 17) (is 16) zeros fs fd (is 14) fd_fs always ∷
    page "floor.w.s" MIPS32 (is 17) (is 16) zeros fs fd (is 15) fd_fs always ∷
    page "movf.s" MIPS32 (is 17) (is 16) (cc 0) fs fd (is 17) fd_fs_cc always ∷
    page "movt.s" MIPS32 (is 17) (is 16) (cc 1) fs fd (is 17) fd_fs_cc always ∷
    page "movz.s" MIPS32 (is 17) (is 16) rt fs fd (is 18) fd_fs_rt always ∷
    page "movn.s" MIPS32 (is 17) (is 16) rt fs fd (is 19) fd_fs_rt always ∷
    page "recip.s" MIPS32 (is 17) (is 16) zeros fs fd (is 21) fd_fs always ∷
    page "rsqrt.s" MIPS32 (is 17) (is 16) zeros fs fd (is 22) fd_fs always ∷
    page "cvt.d.s" MIPS32 (is 17) (is 16) zeros fs fd (is 33) fd_fs always ∷
    page "cvt.w.s" MIPS32 (is 17) (is 16) zeros fs fd (is 36) fd_fs always ∷
    page "cvt.l.s" MIPS32 (is 17) (is 16) zeros fs fd (is 37) fd_fs always ∷
    page "cvt.ps.s" MIPS32 (is 17) (is 16) ft fs fd (is 38) fd_fs_ft always ∷
    page "c.f.s" MIPS32 (is 17) (is 16) ft fs (cc 0) (is 48) cc_fs_ft always ∷
    page "c.un.s" MIPS32 (is 17) (is 16) ft fs (cc 0) (is 49) cc_fs_ft always ∷
    page "c.eq.s" MIPS32 (is 17) (is 16) ft fs (cc 0) (is 50) cc_fs_ft always ∷
    page "c.ueq.s" MIPS32 (is 17) (is 16) ft fs (cc 0) (is 51) cc_fs_ft always ∷
    page "c.olt.s" MIPS32 (is 17) (is 16) ft fs (cc 0) (is 52) cc_fs_ft always ∷
    page "c.ult.s" MIPS32 (is 17) (is 16) ft fs (cc 0) (is 53) cc_fs_ft always ∷
    page "c.ole.s" MIPS32 (is 17) (is 16) ft fs (cc 0) (is 54) cc_fs_ft always ∷
    page "c.ule.s" MIPS32 (is 17) (is 16) ft fs (cc 0) (is 55) cc_fs_ft always ∷
    page "c.sf.s" MIPS32 (is 17) (is 16) ft fs (cc 0) (is 56) cc_fs_ft always ∷
    page "c.ngle.s" MIPS32 (is 17) (is 16) ft fs (cc 0) (is 57) cc_fs_ft always ∷
    page "c.seq.s" MIPS32 (is 17) (is 16) ft fs (cc 0) (is 58) cc_fs_ft always ∷
    page "c.ngl.s" MIPS32 (is 17) (is 16) ft fs (cc 0) (is 59) cc_fs_ft always ∷
    page "c.lt.s" MIPS32 (is 17) (is 16) ft fs (cc 0) (is 60) cc_fs_ft always ∷
    page "c.nge.s" MIPS32 (is 17) (is 16) ft fs (cc 0) (is 61) cc_fs_ft always ∷
    page "c.le.s" MIPS32 (is 17) (is 16) ft fs (cc 0) (is 62) cc_fs_ft always ∷
    page "c.ngt.s" MIPS32 (is 17) (is 16) ft fs (cc 0) (is 63) cc_fs_ft always ∷
    -- COP1, format d (double), by funct
    page "add.d" MIPS32 (is 17) (is 17) ft fs fd (is 0) fd_fs_ft always ∷
    page "sub.d" MIPS32 (is 17) (is 17) ft fs fd (is 1) fd_fs_ft always ∷
    page "mul.d" MIPS32 (is 17) (is 17) ft fs fd (is 2) fd_fs_ft always ∷
    page "div.d" MIPS32 (is 17) (is 17) ft fs fd (is 3) fd_fs_ft always ∷
    page "sqrt.d" MIPS32 (is 17) (is 17) zeros fs fd (is 4) fd_fs always ∷
    page "abs.d" MIPS32 (is 17) (is 17) zeros fs fd (is 5) fd_fs always ∷
    page "mov.d" MIPS32 (is 17) (is 17) zeros fs fd (is 6) fd_fs always ∷
    page "neg.d" MIPS32 (is 17) (is 17) zeros fs fd (is 7) fd_fs always ∷
    page "round.l.d" MIPS32 (is 17) (is 17) zeros fs fd (is 8) fd_fs always ∷
    page "trunc.l.d" MIPS32 (is 17) (is 17) zeros fs fd (is 9) fd_fs always ∷
    page "ceil.l.d" MIPS32 (is 17) (is 17) zeros fs fd (is 10) fd_fs always ∷
    page "floor.l.d" MIPS32 (is 17) (is 17) zeros fs fd (is 11) fd_fs always ∷
    page "round.w.d" MIPS32 (is 17) (is 17) zeros fs fd (is 12) fd_fs always ∷
    page "trunc.w.d" MIPS32 (is 17) (is 17) zeros fs fd (is 13) fd_fs always ∷
    page "ceil.w.d" MIPS32 (is 17) (is 17) zeros fs fd (is 14) fd_fs always ∷
    page "floor.w.d" MIPS32 (is 17) (is 17) zeros fs fd (is 15) fd_fs always ∷
    page "movf.d" MIPS32 (is 17) (is 17) (cc 0) fs fd (is 17) fd_fs_cc always ∷
    page "movt.d" MIPS32 (is 17) (is 17) (cc 1) fs fd (is 17) fd_fs_cc always ∷
    page "movz.d" MIPS32 (is 17) (is 17) rt fs fd (is 18) fd_fs_rt always ∷
    page "movn.d" MIPS32 (is 17) (is 17) rt fs fd (is 19) fd_fs_rt always ∷
    page "recip.d" MIPS32 (is 17) (is 17) zeros fs fd (is 21) fd_fs always ∷
    page "rsqrt.d" MIPS32 (is 17) (is 17) zeros fs fd (is 22) fd_fs always ∷
    page "cvt.s.d" MIPS32 (is 17) (is 17) zeros fs fd (is 32) fd_fs always ∷
    page "cvt.w.d" MIPS32 (is 17) (is 17) zeros fs fd (is 36) fd_fs always ∷
    page "cvt.l.d" MIPS32 (is 17) (is 17) zeros fs fd (is 37) fd_fs always ∷
    page "c.f.d" MIPS32 (is 17) (is 17) ft fs (cc 0) (is 48) cc_fs_ft always ∷
    page "c.un.d" MIPS32 (is 17) (is 17) ft fs (cc 0) (is 49) cc_fs_ft always ∷
    page "c.eq.d" MIPS32 (is 17) (is 17) ft fs (cc 0) (is 50) cc_fs_ft always ∷
    page "c.ueq.d" MIPS32 (is 17) (is 17) ft fs (cc 0) (is 51) cc_fs_ft always ∷
    page "c.olt.d" MIPS32 (is 17) (is 17) ft fs (cc 0) (is 52) cc_fs_ft always ∷
    page "c.ult.d" MIPS32 (is 17) (is 17) ft fs (cc 0) (is 53) cc_fs_ft always ∷
    page "c.ole.d" MIPS32 (is 17) (is 17) ft fs (cc 0) (is 54) cc_fs_ft always ∷
    page "c.ule.d" MIPS32 (is 17) (is 17) ft fs (cc 0) (is 55) cc_fs_ft always ∷
    page "c.sf.d" MIPS32 (is 17) (is 17) ft fs (cc 0) (is 56) cc_fs_ft always ∷
    page "c.ngle.d" MIPS32 (is 17) (is 17) ft fs (cc 0) (is 57) cc_fs_ft always ∷
    page "c.seq.d" MIPS32 (is 17) (is 17) ft fs (cc 0) (is 58) cc_fs_ft always ∷
    page "c.ngl.d" MIPS32 (is 17) (is 17) ft fs (cc 0) (is 59) cc_fs_ft always ∷
    page "c.lt.d" MIPS32 (is 17) (is 17) ft fs (cc 0) (is 60) cc_fs_ft always ∷
    page "c.nge.d" MIPS32 (is 17) (is 17) ft fs (cc 0) (is 61) cc_fs_ft always ∷
    page "c.le.d" MIPS32 (is 17) (is 17) ft fs (cc 0) (is 62) cc_fs_ft always ∷
    page "c.ngt.d" MIPS32 (is 17) (is 17) ft fs (cc 0) (is 63) cc_fs_ft always ∷
    -- COP1, format w (word), by funct
    page "cvt.s.w" MIPS32 (is 17) (is 20) zeros fs fd (is 32) fd_fs always ∷
    page "cvt.d.w" MIPS32 (is 17) (is 20) zeros fs fd (is 33) fd_fs always ∷
    -- COP1, format l (long), by funct
    page "cvt.s.l" MIPS32 (is 17) (is 21) zeros fs fd (is 32) fd_fs always ∷
    page "cvt.d.l" MIPS32 (is 17) (is 21) zeros fs fd (is 33) fd_fs always ∷
    -- COP1, format ps (paired single), by funct
    page "add.ps" MIPS32 (is 17) (is 22) ft fs fd (is 0) fd_fs_ft always ∷
    page "sub.ps" MIPS32 (is 17) (is 22) ft fs fd (is 1) fd_fs_ft always ∷
    page "mul.ps" MIPS32 (is 17) (is 22) ft fs fd (is 2) fd_fs_ft always ∷
    page "abs.ps" MIPS32 (is 17) (is 22) zeros fs fd (is 5) fd_fs always ∷
    page "mov.ps" MIPS32 (is 17) (is 22) zeros fs fd (is 6) fd_fs always ∷
    page "neg.ps" MIPS32 (is 17) (is 22) zeros fs fd (is 7) fd_fs always ∷
    page "movf.ps" MIPS32 (is 17) (is 22) (cc 0) fs fd (is 17) fd_fs_cc even_cc_in_rt ∷
    page "movt.ps" MIPS32 (is 17) (is 22) (cc 1) fs fd (is 17) fd_fs_cc even_cc_in_rt ∷
    page "movz.ps" MIPS32 (is 17) (is 22) rt fs fd (is 18) fd_fs_rt always ∷
    page "movn.ps" MIPS32 (is 17) (is 22) rt fs fd (is 19) fd_fs_rt always ∷
    page "cvt.s.pu" MIPS32 (is 17) (is 22) zeros fs fd (is 32) fd_fs always ∷
    page "cvt.s.pl" MIPS32 (is 17) (is 22) zeros fs fd (is 40) fd_fs always ∷
    page "pll.ps" MIPS32 (is 17) (is 22) ft fs fd (is 44) fd_fs_ft always ∷
    page "plu.ps" MIPS32 (is 17) (is 22) ft fs fd (is 45) fd_fs_ft always ∷
    page "pul.ps" MIPS32 (is 17) (is 22) ft fs fd (is 46) fd_fs_ft always ∷
    page "puu.ps" MIPS32 (is 17) (is 22) ft fs fd (is 47) fd_fs_ft always ∷
    page "c.f.ps" MIPS32 (is 17) (is 22) ft fs (cc 0) (is 48) cc_fs_ft even_cc_in_sa ∷
    page "c.un.ps" MIPS32 (is 17) (is 22) ft fs (cc 0) (is 49) cc_fs_ft even_cc_in_sa ∷
    page "c.eq.ps" MIPS32 (is 17) (is 22) ft fs (cc 0) (is 50) cc_fs_ft even_cc_in_sa ∷
    page "c.ueq.ps" MIPS32 (is 17) (is 22) ft fs (cc 0) (is 51) cc_fs_ft even_cc_in_sa ∷
    page "c.olt.ps" MIPS32 (is 17) (is 22) ft fs (cc 0) (is 52) cc_fs_ft even_cc_in_sa ∷
    page "c.ult.ps" MIPS32 (is 17) (is 22) ft fs (cc 0) (is 53) cc_fs_ft even_cc_in_sa ∷
    page "c.ole.ps" MIPS32 (is 17) (is 22) ft fs (cc 0) (is 54) cc_fs_ft even_cc_in_sa ∷
    page "c.ule.ps" MIPS32 (is 17) (is 22) ft fs (cc 0) (is 55) cc_fs_ft even_cc_in_sa ∷
    page "c.sf.ps" MIPS32 (is 17) (is 22) ft fs (cc 0) (is 56) cc_fs_ft even_cc_in_sa ∷
    page "c.ngle.ps" MIPS32 (is 17) (is 22) ft fs (cc 0) (is 57) cc_fs_ft even_cc_in_sa ∷
    page "c.seq.ps" MIPS32 (is 17) (is 22) ft fs (cc 0) (is 58) cc_fs_ft even_cc_in_sa ∷
    page "c.ngl.ps" MIPS32 (is 17) (is 22) ft fs (cc 0) (is 59) cc_fs_ft even_cc_in_sa ∷
    page "c.lt.ps" MIPS32 (is 17) (is 22) ft fs (cc 0) (is 60) cc_fs_ft even_cc_in_sa ∷
    page "c.nge.ps" MIPS32 (is 17) (is 22) ft fs (cc 0) (is 61) cc_fs_ft even_cc_in_sa ∷
    page "c.le.ps" MIPS32 (is 17) (is 22) ft fs (cc 0) (is 62) cc_fs_ft even_cc_in_sa ∷
    page "c.ngt.ps" MIPS32 (is 17) (is 22) ft fs (cc 0) (is 63) cc_fs_ft even_cc_in_sa ∷
    -- COP2 (op 18), by rs
    page "mfc2" MIPS32 (is 18) zeros rt impl impl impl rt_impl always ∷
    page "dmfc2" MIPS64 (is 18) (is 1) rt impl impl impl rt_impl always ∷
    page "cfc2" MIPS32 (is 18) (is 2) rt impl impl impl rt_impl always ∷
    page "mfhc2" MIPS32 (is 18) (is 3) rt impl impl impl rt_impl always ∷
    page "mtc2" MIPS32 (is 18) (is 4) rt impl impl impl rt_impl always ∷
    page "dmtc2" MIPS64 (is 18) (is 5) rt impl impl impl rt_impl always ∷
    page "ctc2" MIPS32 (is 18) (is 6) rt impl impl impl rt_impl always ∷
    page "mthc2" MIPS32 (is 18) (is 7) rt impl impl impl rt_impl always ∷
    page "bc2f" MIPS32 (is 18) (is 8) (cc 0) offset offset offset cc_offset always ∷
    page "bc2t" MIPS32 (is 18) (is 8) (cc 1) offset offset offset cc_offset always ∷
    page "bc2fl" MIPS32 (is 18) (is 8) (cc 2) offset offset offset cc_offset always ∷
    page "bc2tl" MIPS32 (is 18) (is 8) (cc 3) offset offset offset cc_offset always ∷
    page "cop2" MIPS32 (is 18) (co Cofun) cofun cofun cofun cofun cofun_alone always ∷
    -- COP1X (op 19), by funct
    page "lwxc1" MIPS32 (is 19) base index zeros fd (is 0) fd_index_base always ∷
    page "ldxc1" MIPS32 (is 19) base index zeros fd (is 1) fd_index_base always ∷
    page "luxc1" MIPS32 (is 19) base index zeros fd (is 5) fd_index_base always ∷
    page "swxc1" MIPS32 (is 19) base index fs zeros (is 8) fs_index_base always ∷
    page "sdxc1" MIPS32 (is 19) base index fs zeros (is 9) fs_index_base always ∷
    page "suxc1" MIPS32 (is 19) base index fs zeros (is 13) fs_index_base always ∷
    page "prefx" MIPS32 (is 19) base index hint zeros (is 15) hint_index_base always ∷
    page "alnv.ps" MIPS32 (is 19) rs ft fs fd (is 30) fd_fs_ft_rs always ∷
    page "madd.s" MIPS32 (is 19) fr ft fs fd (is 32) fd_fr_fs_ft always ∷
    page "madd.d" MIPS32 (is 19) fr ft fs fd (is 33) fd_fr_fs_ft always ∷
    page "madd.ps" MIPS32 (is 19) fr ft fs fd (is 38) fd_fr_fs_ft always ∷
    page "msub.s" MIPS32 (is 19) fr ft fs fd (is 40) fd_fr_fs_ft always ∷
    page "msub.d" MIPS32 (is 19) fr ft fs fd (is 41) fd_fr_fs_ft always ∷
    page "msub.ps" MIPS32 (is 19) fr ft fs fd (is 46) fd_fr_fs_ft always ∷
    page "nmadd.s" MIPS32 (is 19) fr ft fs fd (is 48) fd_fr_fs_ft always ∷
    page "nmadd.d" MIPS32 (is 19) fr ft fs fd (is 49) fd_fr_fs_ft always ∷
    page "nmadd.ps" MIPS32 (is 19) fr ft fs fd (is 54) fd_fr_fs_ft always ∷
    page "nmsub.s" MIPS32 (is 19) fr ft fs fd (is 56) fd_fr_fs_ft always ∷
    page "nmsub.d" MIPS32 (is 19) fr ft fs fd (is 57) fd_fr_fs_ft always ∷
    page "nmsub.ps" MIPS32 (is 19) fr ft fs fd (is 62) fd_fr_fs_ft always ∷
    -- likely branches, doubleword immediates, ldl and ldr: ops 20 to 27
    page "beql" MIPS32 (is 20) rs rt offset offset offset rs_rt_offset always ∷
    page "bnel" MIPS32 (is 21) rs rt offset offset offset rs_rt_offset always ∷
    page "blezl" MIPS32 (is 22) rs zeros offset offset offset rs_offset always ∷
    page "bgtzl" MIPS32 (is 23) rs zeros offset offset offset rs_offset always ∷
    page "daddi" MIPS64 (is 24) rs rt immediate immediate immediate rt_rs_immediate always ∷
    page "daddiu" MIPS64 (is 25) rs rt immediate immediate immediate rt_rs_immediate always ∷
    page "ldl" MIPS64 (is 26) base rt offset offset offset rt_offset_base always ∷
    page "ldr" MIPS64 (is 27) base rt offset offset offset rt_offset_base always ∷
    -- SPECIAL2 (op 28), by funct
    page "madd" MIPS32 (is 28) rs rt zeros zeros (is 0) rs_rt always ∷
    page "maddu" MIPS32 (is 28) rs rt zeros zeros (is 1) rs_rt always ∷
    page "mul" MIPS32 (is 28) rs rt rd zeros (is 2) rd_rs_rt always ∷
    page "msub" MIPS32 (is 28) rs rt zeros zeros (is 4) rs_rt always ∷
    page "msubu" MIPS32 (is 28) rs rt zeros zeros (is 5) rs_rt always ∷
    page "clz" MIPS32 (is 28) rs rt rd zeros (is 32) rd_rs rt_same_as_rd ∷
    page "clo" MIPS32 (is 28) rs rt rd zeros (is 33) rd_rs rt_same_as_rd ∷
    page "dclz" MIPS64 (is 28) rs rt rd zeros (is 36) rd_rs rt_same_as_rd ∷
    page "dclo" MIPS64 (is 28) rs rt rd zeros (is 37) rd_rs rt_same_as_rd ∷
    page "sdbbp" MIPS32 (is 28) code code code code (is 63) code_alone always ∷
    -- SPECIAL3 (op 31), by funct
    page "ext" MIPS32 (is 31) rs rt msbd lsb (is 0) ext_pos_size ends_inside ∷
    page "dextm" MIPS64 (is 31) rs rt msbd lsb (is 1) dextm_pos_size ends_inside ∷
    page "dextu" MIPS64 (is 31) rs rt msbd lsb (is 2) dextu_pos_size ends_inside ∷
    page "dext" MIPS64 (is 31) rs rt msbd lsb (is 3) ext_pos_size always ∷
    page "ins" MIPS32 (is 31) rs rt msb lsb (is 4) ins_pos_size size_positive ∷
    page "dinsm" MIPS64 (is 31) rs rt msb lsb (is 5) dinsm_pos_size always ∷
    page "dinsu" MIPS64 (is 31) rs rt msb lsb (is 6) dinsu_pos_size size_positive ∷
    page "dins" MIPS64 (is 31) rs rt msb lsb (is 7) ins_pos_size size_positive ∷
    page "wsbh" MIPS32 (is 31) zeros rt rd (is 2) (is 32) rd_rt always ∷
    page "seb" MIPS32 (is 31) zeros rt rd (is 16) (is 32) rd_rt always ∷
    page "seh" MIPS32 (is 31) zeros rt rd (is 24) (is 32) rd_rt always ∷
    page "dsbh" MIPS64 (is 31) zeros rt rd (is 2) (is 36) rd_rt always ∷
    page "dshd" MIPS64 (is 31) zeros rt rd (is 5) (is 36) rd_rt always ∷
    page "rdhwr" MIPS32 (is 31) zeros rt rd zeros (is 59) rt_hardware hardware_register ∷
    -- loads and stores: ops 32 to 63
    page "lb" MIPS32 (is 32) base rt offset offset offset rt_offset_base always ∷
    page "lh" MIPS32 (is 33) base rt offset offset offset rt_offset_base always ∷
    page "lwl" MIPS32 (is 34) base rt offset offset offset rt_offset_base always ∷
    page "lw" MIPS32 (is 35) base rt offset offset offset rt_offset_base always ∷
    page "lbu" MIPS32 (is 36) base rt offset offset offset rt_offset_base always ∷
    page "lhu" MIPS32 (is 37) base rt offset offset offset rt_offset_base always ∷
    page "lwr" MIPS32 (is 38) base rt offset offset offset rt_offset_base always ∷
    page "lwu" MIPS64 (is 39) base rt offset offset offset rt_offset_base always ∷
    page "sb" MIPS32 (is 40) base rt offset offset offset rt_offset_base always ∷
    page "sh" MIPS32 (is 41) base rt offset offset offset rt_offset_base always ∷
    page "swl" MIPS32 (is 42) base rt offset offset offset rt_offset_base always ∷
    page "sw" MIPS32 (is 43) base rt offset offset offset rt_offset_base always ∷
    page "sdl" MIPS64 (is 44) base rt offset offset offset rt_offset_base always ∷
    page "sdr" MIPS64 (is 45) base rt offset offset offset rt_offset_base always ∷
    page "swr" MIPS32 (is 46) base rt offset offset offset rt_offset_base always ∷
    page "cache" MIPS32 (is 47) base cache_op offset offset offset op_offset_base always ∷
    page "ll" MIPS32 (is 48) base rt offset offset offset rt_offset_base always ∷
    page "lwc1" MIPS32 (is 49) base ft offset offset offset ft_offset_base always ∷
    page "lwc2" MIPS32 (is 50) base rt offset offset offset cp2_offset_base always ∷
    page "pref" MIPS32 (is 51) base hint offset offset offset hint_offset_base always ∷
    page "lld" MIPS64 (is 52) base rt offset offset offset rt_offset_base always ∷
    page "ldc1" MIPS32 (is 53) base ft offset offset offset ft_offset_base always ∷
    page "ldc2" MIPS32 (is 54) base rt offset offset offset cp2_offset_base always ∷
    page "ld" MIPS64 (is 55) base rt offset offset offset rt_offset_base always ∷
    page "sc" MIPS32 (is 56) base rt offset offset offset rt_offset_base always ∷
    page "swc1" MIPS32 (is 57) base ft offset offset offset ft_offset_base always ∷
    page "swc2" MIPS32 (is 58) base rt offset offset offset cp2_offset_base always ∷
    page "scd" MIPS64 (is 60) base rt offset offset offset rt_offset_base always ∷
    page "sdc1" MIPS32 (is 61) base ft offset offset offset ft_offset_base always ∷
    page "sdc2" MIPS32 (is 62) base rt offset offset offset cp2_offset_base always ∷
    page "sd" MIPS64 (is 63) base rt offset offset offset rt_offset_base always ∷
    []

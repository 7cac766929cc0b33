-- The table of classes: a row a class, in the order of the manual's opcode tables. A class is one mnemonic under one op
-- and, where the source branches on it, one funct (document 01). `zeros` and `extra` mark fields that the class does
-- not read: the manual has zeros there, or something that the reading leaves out.
use Rattle.std.specs.Prelude.{ℕ, Bool, true, false, List, [], ◌∷◌, ◌++◌}
use Rattle.word.specs.Word.{rs, rt, rd, sa}
use Rattle.reading.specs.Kind as kind
use Rattle.classes.specs.Row.{Pat, is, read, read_but, zeros, extra, skip_but, low, Row}
use Rattle.classes.specs.Row.{reg, freg, cop0, num, size, s16, u16, mem, br, jmp, Form, end, ◌▸◌, pos_size, link}
use Rattle.classes.specs.Row.{Control, plain, call, jump, branch, return, interrupt, by_register, Manner}
use Rattle.classes.specs.Row.{Change, nothing, writes, adds, sets, sets_upper, memory, memory_only}

-- ── operands, by the names of the manual's Format lines ──

abbrev pub no_operands : Form
no_operands = end

abbrev pub one_rs : Form
one_rs = reg rs ▸ end

abbrev pub one_rd : Form
one_rd = reg rd ▸ end

abbrev pub rd_rs : Form
rd_rs = reg rd ▸ reg rs ▸ end

abbrev pub rd_rt : Form
rd_rt = reg rd ▸ reg rt ▸ end

abbrev pub rs_rt : Form
rs_rt = reg rs ▸ reg rt ▸ end

abbrev pub rd_rs_rt : Form
rd_rs_rt = reg rd ▸ reg rs ▸ reg rt ▸ end

abbrev pub rd_rt_rs : Form
rd_rt_rs = reg rd ▸ reg rt ▸ reg rs ▸ end

abbrev pub rd_rt_sa : Form
rd_rt_sa = reg rd ▸ reg rt ▸ num sa ▸ end

abbrev pub offset : Form
offset = br ▸ end

abbrev pub rs_offset : Form
rs_offset = reg rs ▸ br ▸ end

abbrev pub rs_rt_offset : Form
rs_rt_offset = reg rs ▸ reg rt ▸ br ▸ end

abbrev pub instr_index : Form
instr_index = jmp ▸ end

abbrev pub rt_imm : Form
rt_imm = reg rt ▸ s16 ▸ end

abbrev pub rt_uimm : Form
rt_uimm = reg rt ▸ u16 ▸ end

abbrev pub rt_rs_imm : Form
rt_rs_imm = reg rt ▸ reg rs ▸ s16 ▸ end

abbrev pub rt_rs_uimm : Form
rt_rs_uimm = reg rt ▸ reg rs ▸ u16 ▸ end

abbrev pub rt_base : Form
rt_base = reg rt ▸ mem ▸ end

abbrev pub ft_base : Form
ft_base = freg rt ▸ mem ▸ end

abbrev pub hint_base : Form
hint_base = num rt ▸ mem ▸ end

abbrev pub rt_cop0 : Form
rt_cop0 = reg rt ▸ cop0 rd ▸ end

abbrev pub rt_fs : Form
rt_fs = reg rt ▸ freg rd ▸ end

abbrev pub fd_fs_ft : Form
fd_fs_ft = freg sa ▸ freg rd ▸ freg rt ▸ end

abbrev pub fd_fs : Form
fd_fs = freg sa ▸ freg rd ▸ end

abbrev pub fs_ft : Form
fs_ft = freg rd ▸ freg rt ▸ end

abbrev pub ext_pos_size : Form
ext_pos_size = reg rt ▸ reg rs ▸ num sa ▸ size ▸ end

abbrev pub ins_pos_size : Form
ins_pos_size = reg rt ▸ reg rs ▸ pos_size

abbrev pub rt_hwr : Form
rt_hwr = reg rt ▸ num rd ▸ end

-- ── manners, by what the instruction does ──

-- it goes on to the next word, and has this effect
abbrev pub goes_on : Change → Manner
goes_on e = record { control = plain; change = e }

-- the reading tells no effect
abbrev pub acts : Manner
acts = goes_on nothing

-- its first operand is written
abbrev pub computes : Manner
computes = goes_on writes

abbrev pub adds_immediate : Manner
adds_immediate = goes_on adds

abbrev pub sets_immediate : Manner
sets_immediate = goes_on sets

abbrev pub sets_upper_half : Manner
sets_upper_half = goes_on sets_upper

-- this many bytes
abbrev pub loads : ℕ → Manner
loads n = goes_on (memory n)

abbrev pub stores : ℕ → Manner
stores n = goes_on (memory_only n)

-- a load into a floating-point register: the effect names no general register
abbrev pub loads_float : ℕ → Manner
loads_float n = goes_on (memory_only n)

-- a store that writes to its register whether it was done
abbrev pub stores_conditional : Manner
stores_conditional = computes

-- it goes elsewhere, without an effect
abbrev pub goes_to : Control → Manner
goes_to l = record { control = l; change = nothing }

abbrev pub jumps : Manner
jumps = goes_to jump

abbrev pub jumps_by_register : Manner
jumps_by_register = goes_to by_register

abbrev pub branches : Manner
branches = goes_to branch

abbrev pub calls : Manner
calls = goes_to call

abbrev pub returns : Manner
returns = goes_to return

abbrev pub interrupts : Manner
interrupts = goes_to interrupt

-- ── rows ──

-- mnemonic; op, rs, rt, rd, sa, funct; operands, manner
abbrev pub row : ℕ → Pat → Pat → Pat → Pat → Pat → Pat → Form → Manner → Row
row k a b c d e g φ m =
    record { kind = k; pop = a; prs = b; prt = c; prd = d; psa = e; pfunct = g; nops = false; form = φ; manner = m }

-- the same, but for words 0 and 0x40
abbrev pub row_but_nops : ℕ → Pat → Pat → Pat → Pat → Pat → Pat → Form → Manner → Row
row_but_nops k a b c d e g φ m =
    record { kind = k; pop = a; prs = b; prt = c; prd = d; psa = e; pfunct = g; nops = true; form = φ; manner = m }

-- the classes that the width flag leaves alone
unfoldable pub common : List Row
common =
    -- SPECIAL (op 0), by funct
    row kind.nop (is 0) (is 0) (is 0) (is 0) (is 0) (is 0) no_operands acts ∷
    row kind.ssnop (is 0) (is 0) (is 0) (is 0) (is 1) (is 0) no_operands acts ∷
    row_but_nops kind.sll (is 0) zeros read read read (is 0) rd_rt_sa computes ∷
    row kind.rotr (is 0) (is 1) read read read (is 2) rd_rt_sa computes ∷
    row kind.srl (is 0) (skip_but 1) read read read (is 2) rd_rt_sa computes ∷
    row kind.sra (is 0) zeros read read read (is 3) rd_rt_sa computes ∷
    row kind.sllv (is 0) read read read zeros (is 4) rd_rt_rs computes ∷
    row kind.srlv (is 0) read read read zeros (is 6) rd_rt_rs computes ∷
    row kind.srav (is 0) read read read zeros (is 7) rd_rt_rs computes ∷
    row kind.jr (is 0) read zeros zeros extra (is 8) one_rs jumps_by_register ∷
    row kind.jalr (is 0) read zeros read extra (is 9) link calls ∷
    row kind.movz (is 0) read read read zeros (is 10) rd_rs_rt computes ∷
    row kind.movn (is 0) read read read zeros (is 11) rd_rs_rt computes ∷
    row kind.syscall (is 0) extra extra extra extra (is 12) no_operands acts ∷
    row kind.break (is 0) extra extra extra extra (is 13) no_operands interrupts ∷
    row kind.sync (is 0) zeros zeros zeros extra (is 15) no_operands acts ∷
    row kind.mfhi (is 0) zeros zeros read zeros (is 16) one_rd computes ∷
    row kind.mthi (is 0) read zeros zeros zeros (is 17) one_rs acts ∷
    row kind.mflo (is 0) zeros zeros read zeros (is 18) one_rd computes ∷
    row kind.mtlo (is 0) read zeros zeros zeros (is 19) one_rs acts ∷
    row kind.dsllv (is 0) read read read zeros (is 20) rd_rt_rs computes ∷
    row kind.dsrlv (is 0) read read read zeros (is 22) rd_rt_rs computes ∷
    row kind.dsrav (is 0) read read read zeros (is 23) rd_rt_rs computes ∷
    row kind.mult (is 0) read read zeros zeros (is 24) rs_rt acts ∷
    row kind.multu (is 0) read read zeros zeros (is 25) rs_rt acts ∷
    row kind.div (is 0) read read zeros zeros (is 26) rs_rt acts ∷
    row kind.divu (is 0) read read zeros zeros (is 27) rs_rt acts ∷
    row kind.dmult (is 0) read read zeros zeros (is 28) rs_rt acts ∷
    row kind.dmultu (is 0) read read zeros zeros (is 29) rs_rt acts ∷
    row kind.ddiv (is 0) read read zeros zeros (is 30) rs_rt acts ∷
    row kind.ddivu (is 0) read read zeros zeros (is 31) rs_rt acts ∷
    row kind.add (is 0) read read read zeros (is 32) rd_rs_rt computes ∷
    row kind.move (is 0) read (is 0) read zeros (is 33) rd_rs computes ∷
    row kind.addu (is 0) read (read_but 0) read zeros (is 33) rd_rs_rt computes ∷
    row kind.sub (is 0) read read read zeros (is 34) rd_rs_rt computes ∷
    row kind.negu (is 0) (is 0) read read zeros (is 35) rd_rt computes ∷
    row kind.subu (is 0) (read_but 0) read read zeros (is 35) rd_rs_rt computes ∷
    row kind.and (is 0) read read read zeros (is 36) rd_rs_rt computes ∷
    row kind.move (is 0) read (is 0) read zeros (is 37) rd_rs computes ∷
    row kind.or (is 0) read (read_but 0) read zeros (is 37) rd_rs_rt computes ∷
    row kind.xor (is 0) read read read zeros (is 38) rd_rs_rt computes ∷
    row kind.not (is 0) read (is 0) read zeros (is 39) rd_rs computes ∷
    row kind.nor (is 0) read (read_but 0) read zeros (is 39) rd_rs_rt computes ∷
    row kind.slt (is 0) read read read zeros (is 42) rd_rs_rt computes ∷
    row kind.sltu (is 0) read read read zeros (is 43) rd_rs_rt computes ∷
    row kind.dadd (is 0) read read read zeros (is 44) rd_rs_rt computes ∷
    row kind.dsub (is 0) read read read zeros (is 46) rd_rs_rt computes ∷
    row kind.dsubu (is 0) read read read zeros (is 47) rd_rs_rt computes ∷
    row kind.tge (is 0) read read extra extra (is 48) rs_rt acts ∷
    row kind.tgeu (is 0) read read extra extra (is 49) rs_rt acts ∷
    row kind.tlt (is 0) read read extra extra (is 50) rs_rt acts ∷
    row kind.tltu (is 0) read read extra extra (is 51) rs_rt acts ∷
    row kind.teq (is 0) read read extra extra (is 52) rs_rt acts ∷
    row kind.tne (is 0) read read extra extra (is 54) rs_rt acts ∷
    row kind.dsll (is 0) zeros read read read (is 56) rd_rt_sa computes ∷
    row kind.dsrl (is 0) zeros read read read (is 58) rd_rt_sa computes ∷
    row kind.dsra (is 0) zeros read read read (is 59) rd_rt_sa computes ∷
    row kind.dsll32 (is 0) zeros read read read (is 60) rd_rt_sa computes ∷
    row kind.dsrl32 (is 0) zeros read read read (is 62) rd_rt_sa computes ∷
    row kind.dsra32 (is 0) zeros read read read (is 63) rd_rt_sa computes ∷
    -- REGIMM (op 1), by rt
    row kind.bltz (is 1) read (is 0) read read read rs_offset branches ∷
    row kind.b (is 1) (is 0) (is 1) read read read offset jumps ∷
    row kind.bgez (is 1) (read_but 0) (is 1) read read read rs_offset branches ∷
    row kind.bltzl (is 1) read (is 2) read read read rs_offset branches ∷
    row kind.bgezl (is 1) read (is 3) read read read rs_offset branches ∷
    row kind.bltzal (is 1) read (is 16) read read read rs_offset calls ∷
    row kind.bal (is 1) (is 0) (is 17) read read read offset calls ∷
    row kind.bgezal (is 1) (read_but 0) (is 17) read read read rs_offset calls ∷
    -- jumps, branches and immediates: ops 2 to 15
    row kind.j (is 2) read read read read read instr_index jumps ∷
    row kind.jal (is 3) read read read read read instr_index calls ∷
    row kind.b (is 4) (is 0) (is 0) read read read offset jumps ∷
    row kind.beqz (is 4) (read_but 0) (is 0) read read read rs_offset branches ∷
    row kind.beq (is 4) read (read_but 0) read read read rs_rt_offset branches ∷
    row kind.bnez (is 5) read (is 0) read read read rs_offset branches ∷
    row kind.bne (is 5) read (read_but 0) read read read rs_rt_offset branches ∷
    row kind.blez (is 6) read zeros read read read rs_offset branches ∷
    row kind.bgtz (is 7) read zeros read read read rs_offset branches ∷
    row kind.addi (is 8) read read read read read rt_rs_imm adds_immediate ∷
    row kind.li (is 9) (is 0) read read read read rt_imm sets_immediate ∷
    row kind.addiu (is 9) (read_but 0) read read read read rt_rs_imm adds_immediate ∷
    row kind.slti (is 10) read read read read read rt_rs_imm computes ∷
    row kind.sltiu (is 11) read read read read read rt_rs_imm computes ∷
    row kind.andi (is 12) read read read read read rt_rs_uimm computes ∷
    row kind.li (is 13) (is 0) read read read read rt_uimm sets_immediate ∷
    row kind.ori (is 13) (read_but 0) read read read read rt_rs_uimm adds_immediate ∷
    row kind.xori (is 14) read read read read read rt_rs_uimm computes ∷
    row kind.lui (is 15) zeros read read read read rt_uimm sets_upper_half ∷
    -- COP0 (op 16), by rs
    row kind.mfc0 (is 16) (is 0) read read zeros extra rt_cop0 computes ∷
    row kind.mtc0 (is 16) (is 4) read read zeros extra rt_cop0 acts ∷
    row kind.eret (is 16) (is 16) zeros zeros zeros (is 24) no_operands returns ∷
    row kind.wait (is 16) (is 16) extra extra extra (is 32) no_operands acts ∷
    -- COP1 (op 17), by fmt, the rs bits: moves and branches
    row kind.mfc1 (is 17) (is 0) read read zeros zeros rt_fs computes ∷
    row kind.dmfc1 (is 17) (is 1) read read zeros zeros rt_fs computes ∷
    row kind.cfc1 (is 17) (is 2) read read zeros zeros rt_fs computes ∷
    row kind.mtc1 (is 17) (is 4) read read zeros zeros rt_fs acts ∷
    row kind.dmtc1 (is 17) (is 5) read read zeros zeros rt_fs acts ∷
    row kind.ctc1 (is 17) (is 6) read read zeros zeros rt_fs acts ∷
    row kind.bc1f (is 17) (is 8) (low 0) read read read offset branches ∷
    row kind.bc1t (is 17) (is 8) (low 1) read read read offset branches ∷
    row kind.bc1fl (is 17) (is 8) (low 2) read read read offset branches ∷
    row kind.bc1tl (is 17) (is 8) (low 3) read read read offset branches ∷
    -- COP1, format s (single), by funct
    row kind.add_s (is 17) (is 16) read read read (is 0) fd_fs_ft acts ∷
    row kind.sub_s (is 17) (is 16) read read read (is 1) fd_fs_ft acts ∷
    row kind.mul_s (is 17) (is 16) read read read (is 2) fd_fs_ft acts ∷
    row kind.div_s (is 17) (is 16) read read read (is 3) fd_fs_ft acts ∷
    row kind.sqrt_s (is 17) (is 16) zeros read read (is 4) fd_fs acts ∷
    row kind.abs_s (is 17) (is 16) zeros read read (is 5) fd_fs acts ∷
    row kind.mov_s (is 17) (is 16) zeros read read (is 6) fd_fs acts ∷
    row kind.neg_s (is 17) (is 16) zeros read read (is 7) fd_fs acts ∷
    row kind.trunc_w_s (is 17) (is 16) zeros read read (is 13) fd_fs acts ∷
    row kind.cvt_s_s (is 17) (is 16) zeros read read (is 32) fd_fs acts ∷
    row kind.cvt_d_s (is 17) (is 16) zeros read read (is 33) fd_fs acts ∷
    row kind.cvt_w_s (is 17) (is 16) zeros read read (is 36) fd_fs acts ∷
    row kind.cvt_l_s (is 17) (is 16) zeros read read (is 37) fd_fs acts ∷
    row kind.c_eq_s (is 17) (is 16) read read extra (is 50) fs_ft acts ∷
    row kind.c_lt_s (is 17) (is 16) read read extra (is 60) fs_ft acts ∷
    row kind.c_le_s (is 17) (is 16) read read extra (is 62) fs_ft acts ∷
    -- COP1, format d (double)
    row kind.add_d (is 17) (is 17) read read read (is 0) fd_fs_ft acts ∷
    row kind.sub_d (is 17) (is 17) read read read (is 1) fd_fs_ft acts ∷
    row kind.mul_d (is 17) (is 17) read read read (is 2) fd_fs_ft acts ∷
    row kind.div_d (is 17) (is 17) read read read (is 3) fd_fs_ft acts ∷
    row kind.sqrt_d (is 17) (is 17) zeros read read (is 4) fd_fs acts ∷
    row kind.abs_d (is 17) (is 17) zeros read read (is 5) fd_fs acts ∷
    row kind.mov_d (is 17) (is 17) zeros read read (is 6) fd_fs acts ∷
    row kind.neg_d (is 17) (is 17) zeros read read (is 7) fd_fs acts ∷
    row kind.trunc_w_d (is 17) (is 17) zeros read read (is 13) fd_fs acts ∷
    row kind.cvt_s_d (is 17) (is 17) zeros read read (is 32) fd_fs acts ∷
    row kind.cvt_d_d (is 17) (is 17) zeros read read (is 33) fd_fs acts ∷
    row kind.cvt_w_d (is 17) (is 17) zeros read read (is 36) fd_fs acts ∷
    row kind.cvt_l_d (is 17) (is 17) zeros read read (is 37) fd_fs acts ∷
    row kind.c_eq_d (is 17) (is 17) read read extra (is 50) fs_ft acts ∷
    row kind.c_lt_d (is 17) (is 17) read read extra (is 60) fs_ft acts ∷
    row kind.c_le_d (is 17) (is 17) read read extra (is 62) fs_ft acts ∷
    -- COP1, format w (word)
    row kind.add_w (is 17) (is 20) read read read (is 0) fd_fs_ft acts ∷
    row kind.sub_w (is 17) (is 20) read read read (is 1) fd_fs_ft acts ∷
    row kind.mul_w (is 17) (is 20) read read read (is 2) fd_fs_ft acts ∷
    row kind.div_w (is 17) (is 20) read read read (is 3) fd_fs_ft acts ∷
    row kind.sqrt_w (is 17) (is 20) zeros read read (is 4) fd_fs acts ∷
    row kind.abs_w (is 17) (is 20) zeros read read (is 5) fd_fs acts ∷
    row kind.mov_w (is 17) (is 20) zeros read read (is 6) fd_fs acts ∷
    row kind.neg_w (is 17) (is 20) zeros read read (is 7) fd_fs acts ∷
    row kind.trunc_w_w (is 17) (is 20) zeros read read (is 13) fd_fs acts ∷
    row kind.cvt_s_w (is 17) (is 20) zeros read read (is 32) fd_fs acts ∷
    row kind.cvt_d_w (is 17) (is 20) zeros read read (is 33) fd_fs acts ∷
    row kind.cvt_w_w (is 17) (is 20) zeros read read (is 36) fd_fs acts ∷
    row kind.cvt_l_w (is 17) (is 20) zeros read read (is 37) fd_fs acts ∷
    row kind.c_eq_w (is 17) (is 20) read read extra (is 50) fs_ft acts ∷
    row kind.c_lt_w (is 17) (is 20) read read extra (is 60) fs_ft acts ∷
    row kind.c_le_w (is 17) (is 20) read read extra (is 62) fs_ft acts ∷
    -- COP1, format l (long)
    row kind.add_l (is 17) (is 21) read read read (is 0) fd_fs_ft acts ∷
    row kind.sub_l (is 17) (is 21) read read read (is 1) fd_fs_ft acts ∷
    row kind.mul_l (is 17) (is 21) read read read (is 2) fd_fs_ft acts ∷
    row kind.div_l (is 17) (is 21) read read read (is 3) fd_fs_ft acts ∷
    row kind.sqrt_l (is 17) (is 21) zeros read read (is 4) fd_fs acts ∷
    row kind.abs_l (is 17) (is 21) zeros read read (is 5) fd_fs acts ∷
    row kind.mov_l (is 17) (is 21) zeros read read (is 6) fd_fs acts ∷
    row kind.neg_l (is 17) (is 21) zeros read read (is 7) fd_fs acts ∷
    row kind.trunc_w_l (is 17) (is 21) zeros read read (is 13) fd_fs acts ∷
    row kind.cvt_s_l (is 17) (is 21) zeros read read (is 32) fd_fs acts ∷
    row kind.cvt_d_l (is 17) (is 21) zeros read read (is 33) fd_fs acts ∷
    row kind.cvt_w_l (is 17) (is 21) zeros read read (is 36) fd_fs acts ∷
    row kind.cvt_l_l (is 17) (is 21) zeros read read (is 37) fd_fs acts ∷
    row kind.c_eq_l (is 17) (is 21) read read extra (is 50) fs_ft acts ∷
    row kind.c_lt_l (is 17) (is 21) read read extra (is 60) fs_ft acts ∷
    row kind.c_le_l (is 17) (is 21) read read extra (is 62) fs_ft acts ∷
    -- branches likely, doubleword immediates, ldl and ldr: ops 20 to 27
    row kind.beqzl (is 20) read (is 0) read read read rs_offset branches ∷
    row kind.beql (is 20) read (read_but 0) read read read rs_rt_offset branches ∷
    row kind.bnezl (is 21) read (is 0) read read read rs_offset branches ∷
    row kind.bnel (is 21) read (read_but 0) read read read rs_rt_offset branches ∷
    row kind.blezl (is 22) read zeros read read read rs_offset branches ∷
    row kind.bgtzl (is 23) read zeros read read read rs_offset branches ∷
    row kind.daddi (is 24) read read read read read rt_rs_imm adds_immediate ∷
    row kind.li (is 25) (is 0) read read read read rt_imm sets_immediate ∷
    row kind.daddiu (is 25) (read_but 0) read read read read rt_rs_imm adds_immediate ∷
    row kind.ldl (is 26) read read read read read rt_base (loads 8) ∷
    row kind.ldr (is 27) read read read read read rt_base (loads 8) ∷
    -- SPECIAL2 (op 28), by funct
    row kind.madd (is 28) read read zeros zeros (is 0) rs_rt acts ∷
    row kind.maddu (is 28) read read zeros zeros (is 1) rs_rt acts ∷
    row kind.mul (is 28) read read read zeros (is 2) rd_rs_rt computes ∷
    row kind.msub (is 28) read read zeros zeros (is 4) rs_rt acts ∷
    row kind.clz (is 28) read extra read zeros (is 32) rd_rs computes ∷
    row kind.clo (is 28) read extra read zeros (is 33) rd_rs computes ∷
    -- SPECIAL3 (op 31), by funct
    row kind.ext (is 31) read read read read (is 0) ext_pos_size computes ∷
    row kind.ins (is 31) read read read read (is 4) ins_pos_size computes ∷
    row kind.wsbh (is 31) zeros read read (is 2) (is 32) rd_rt computes ∷
    row kind.seb (is 31) zeros read read (is 16) (is 32) rd_rt computes ∷
    row kind.seh (is 31) zeros read read (is 24) (is 32) rd_rt computes ∷
    row kind.rdhwr (is 31) zeros read read zeros (is 59) rt_hwr computes ∷
    -- loads and stores: ops 32 to 63
    row kind.lb (is 32) read read read read read rt_base (loads 1) ∷
    row kind.lh (is 33) read read read read read rt_base (loads 2) ∷
    row kind.lwl (is 34) read read read read read rt_base (loads 4) ∷
    row kind.lw (is 35) read read read read read rt_base (loads 4) ∷
    row kind.lbu (is 36) read read read read read rt_base (loads 1) ∷
    row kind.lhu (is 37) read read read read read rt_base (loads 2) ∷
    row kind.lwr (is 38) read read read read read rt_base (loads 4) ∷
    row kind.lwu (is 39) read read read read read rt_base (loads 4) ∷
    row kind.sb (is 40) read read read read read rt_base (stores 1) ∷
    row kind.sh (is 41) read read read read read rt_base (stores 2) ∷
    row kind.swl (is 42) read read read read read rt_base (stores 4) ∷
    row kind.sw (is 43) read read read read read rt_base (stores 4) ∷
    row kind.sdl (is 44) read read read read read rt_base (stores 8) ∷
    row kind.sdr (is 45) read read read read read rt_base (stores 8) ∷
    row kind.swr (is 46) read read read read read rt_base (stores 4) ∷
    row kind.cache (is 47) read read read read read hint_base acts ∷
    row kind.ll (is 48) read read read read read rt_base (loads 4) ∷
    row kind.lwc1 (is 49) read read read read read ft_base (loads_float 4) ∷
    row kind.pref (is 51) read read read read read hint_base acts ∷
    row kind.lld (is 52) read read read read read rt_base (loads 8) ∷
    row kind.ldc1 (is 53) read read read read read ft_base (loads_float 8) ∷
    row kind.ld (is 55) read read read read read rt_base (loads 8) ∷
    row kind.sc (is 56) read read read read read rt_base stores_conditional ∷
    row kind.swc1 (is 57) read read read read read ft_base (stores 4) ∷
    row kind.scd (is 60) read read read read read rt_base stores_conditional ∷
    row kind.sdc1 (is 61) read read read read read ft_base (stores 8) ∷
    row kind.sd (is 63) read read read read read rt_base (stores 8) ∷
    []

-- SPECIAL 45, which it does not: `move` if it is set and rt is zero
unfoldable pub by_width : Bool → List Row
by_width true =
    row kind.move (is 0) read (is 0) read zeros (is 45) rd_rs computes ∷
    row kind.daddu (is 0) read (read_but 0) read zeros (is 45) rd_rs_rt computes ∷
    []
by_width false =
    row kind.daddu (is 0) read read read zeros (is 45) rd_rs_rt computes ∷
    []

-- the table under a width flag
unfoldable pub table : Bool → List Row
table wide = common ++ by_width wide

-- The Format lines and the Restrictions of the manual's pages, under the names that the table of pages calls them by.
use Rattle.std.specs.Prelude.{List, [], ◌∷◌}
use Rattle.word.specs.Word.{rs, rt, rd, sa, funct}
use Rattle.classes.specs.Refusals.{Test, ◌one_of◌, ◌none_of◌, ◌to◌, only}
use Rattle.manual.specs.Page.{Rs, Rt, Rd, Sa, Immediate, Fs, Ft, Fd, Fr, Hint, CacheOp, Cc, Code, Stype, Sel}
use Rattle.manual.specs.Page.{Impl, Cofun, Msbd, Msb, Lsb}
use Rattle.manual.specs.Page.{Arg, gpr, fpr, fcr, hwr, cp0, cp2, unsigned, signed16, plus, span, offset_base}
use Rattle.manual.specs.Page.{index_base, pc_relative}
use Rattle.manual.specs.Page.{in_region}
use Rattle.manual.specs.Page.{Format, rs_is_rd, rt_is_rd, inside, ordered, Claim, holds, fails, Rules}

-- ── Format lines ──

-- a line for the words that meet the tests
abbrev pub line_for : List Test → List Arg → Format
line_for ts xs = record { when = ts; args = xs }

-- the only line of a page
abbrev pub single : List Arg → List Format
single xs = line_for [] xs ∷ []

-- two lines: the first for words that meet the tests, the second for others
abbrev pub two : List Test → List Arg → List Arg → List Format
two ts xs ys = line_for ts xs ∷ line_for [] ys ∷ []

abbrev pub no_operands : List Format
no_operands = single []

abbrev pub one_rs : List Format
one_rs = single (gpr Rs ∷ [])

abbrev pub one_rd : List Format
one_rd = single (gpr Rd ∷ [])

abbrev pub rd_rs : List Format
rd_rs = single (gpr Rd ∷ gpr Rs ∷ [])

abbrev pub rd_rt : List Format
rd_rt = single (gpr Rd ∷ gpr Rt ∷ [])

abbrev pub rs_rt : List Format
rs_rt = single (gpr Rs ∷ gpr Rt ∷ [])

abbrev pub rd_rs_rt : List Format
rd_rs_rt = single (gpr Rd ∷ gpr Rs ∷ gpr Rt ∷ [])

abbrev pub rd_rt_rs : List Format
rd_rt_rs = single (gpr Rd ∷ gpr Rt ∷ gpr Rs ∷ [])

abbrev pub rd_rt_sa : List Format
rd_rt_sa = single (gpr Rd ∷ gpr Rt ∷ unsigned Sa ∷ [])

abbrev pub rd_rs_cc : List Format
rd_rs_cc = single (gpr Rd ∷ gpr Rs ∷ unsigned Cc ∷ [])

abbrev pub branch : List Format
branch = single (pc_relative ∷ [])

abbrev pub rs_offset : List Format
rs_offset = single (gpr Rs ∷ pc_relative ∷ [])

abbrev pub rs_rt_offset : List Format
rs_rt_offset = single (gpr Rs ∷ gpr Rt ∷ pc_relative ∷ [])

abbrev pub target : List Format
target = single (in_region ∷ [])

abbrev pub rs_immediate : List Format
rs_immediate = single (gpr Rs ∷ signed16 Immediate ∷ [])

abbrev pub rt_zero_immediate : List Format
rt_zero_immediate = single (gpr Rt ∷ unsigned Immediate ∷ [])

abbrev pub rt_rs_immediate : List Format
rt_rs_immediate = single (gpr Rt ∷ gpr Rs ∷ signed16 Immediate ∷ [])

abbrev pub rt_rs_zero_immediate : List Format
rt_rs_zero_immediate = single (gpr Rt ∷ gpr Rs ∷ unsigned Immediate ∷ [])

abbrev pub offset_of_base : List Format
offset_of_base = single (offset_base ∷ [])

abbrev pub rt_offset_base : List Format
rt_offset_base = single (gpr Rt ∷ offset_base ∷ [])

abbrev pub ft_offset_base : List Format
ft_offset_base = single (fpr Ft ∷ offset_base ∷ [])

abbrev pub cp2_offset_base : List Format
cp2_offset_base = single (cp2 Rt ∷ offset_base ∷ [])

abbrev pub hint_offset_base : List Format
hint_offset_base = single (unsigned Hint ∷ offset_base ∷ [])

abbrev pub op_offset_base : List Format
op_offset_base = single (unsigned CacheOp ∷ offset_base ∷ [])

abbrev pub rt_fs : List Format
rt_fs = single (gpr Rt ∷ fpr Fs ∷ [])

abbrev pub rt_control : List Format
rt_control = single (gpr Rt ∷ fcr Fs ∷ [])

abbrev pub rt_hardware : List Format
rt_hardware = single (gpr Rt ∷ hwr Rd ∷ [])

abbrev pub fd_fs : List Format
fd_fs = single (fpr Fd ∷ fpr Fs ∷ [])

abbrev pub fd_fs_ft : List Format
fd_fs_ft = single (fpr Fd ∷ fpr Fs ∷ fpr Ft ∷ [])

abbrev pub fd_fs_cc : List Format
fd_fs_cc = single (fpr Fd ∷ fpr Fs ∷ unsigned Cc ∷ [])

abbrev pub fd_fs_rt : List Format
fd_fs_rt = single (fpr Fd ∷ fpr Fs ∷ gpr Rt ∷ [])

abbrev pub fd_fr_fs_ft : List Format
fd_fr_fs_ft = single (fpr Fd ∷ fpr Fr ∷ fpr Fs ∷ fpr Ft ∷ [])

abbrev pub fd_fs_ft_rs : List Format
fd_fs_ft_rs = single (fpr Fd ∷ fpr Fs ∷ fpr Ft ∷ gpr Rs ∷ [])

abbrev pub fd_index_base : List Format
fd_index_base = single (fpr Fd ∷ index_base ∷ [])

abbrev pub fs_index_base : List Format
fs_index_base = single (fpr Fs ∷ index_base ∷ [])

abbrev pub hint_index_base : List Format
hint_index_base = single (unsigned Hint ∷ index_base ∷ [])

abbrev pub rt_impl : List Format
rt_impl = single (gpr Rt ∷ unsigned Impl ∷ [])

abbrev pub cofun_alone : List Format
cofun_alone = single (unsigned Cofun ∷ [])

abbrev pub code_alone : List Format
code_alone = single (unsigned Code ∷ [])

-- the position and the size of a bit field
abbrev pub ext_pos_size : List Format
ext_pos_size = single (gpr Rt ∷ gpr Rs ∷ unsigned Lsb ∷ plus 1 Msbd ∷ [])

abbrev pub dextm_pos_size : List Format
dextm_pos_size = single (gpr Rt ∷ gpr Rs ∷ unsigned Lsb ∷ plus 33 Msbd ∷ [])

abbrev pub dextu_pos_size : List Format
dextu_pos_size = single (gpr Rt ∷ gpr Rs ∷ plus 32 Lsb ∷ plus 1 Msbd ∷ [])

abbrev pub ins_pos_size : List Format
ins_pos_size = single (gpr Rt ∷ gpr Rs ∷ unsigned Lsb ∷ span 0 Msb Lsb ∷ [])

abbrev pub dinsm_pos_size : List Format
dinsm_pos_size = single (gpr Rt ∷ gpr Rs ∷ unsigned Lsb ∷ span 32 Msb Lsb ∷ [])

abbrev pub dinsu_pos_size : List Format
dinsu_pos_size = single (gpr Rt ∷ gpr Rs ∷ plus 32 Lsb ∷ span 0 Msb Lsb ∷ [])

-- two lines, of which the shorter implies a value: rt, cc, sel, stype 0, rd 31
abbrev pub rt_alone : List Format
rt_alone = two (rt one_of only 0 ∷ []) [] (gpr Rt ∷ [])

abbrev pub cc_offset : List Format
cc_offset = two (rt one_of (0 to 3) ∷ []) (pc_relative ∷ []) (unsigned Cc ∷ pc_relative ∷ [])

abbrev pub cc_fs_ft : List Format
cc_fs_ft = two (sa one_of only 0 ∷ []) (fpr Fs ∷ fpr Ft ∷ []) (unsigned Cc ∷ fpr Fs ∷ fpr Ft ∷ [])

abbrev pub rt_rd_sel : List Format
rt_rd_sel = two (funct one_of only 0 ∷ []) (gpr Rt ∷ cp0 Rd ∷ []) (gpr Rt ∷ cp0 Rd ∷ unsigned Sel ∷ [])

abbrev pub stype_alone : List Format
stype_alone = two (sa one_of only 0 ∷ []) [] (unsigned Stype ∷ [])

abbrev pub link_rs : List Format
link_rs = line_for (rd one_of only 31 ∷ []) (gpr Rs ∷ []) ∷ line_for (rd none_of only 31 ∷ []) (gpr Rd ∷ gpr Rs ∷ []) ∷
    []

-- the page has a code that its Format line does not: zero if nothing is to be left out
abbrev pub code20 : List Format
code20 = two (rs one_of only 0 ∷ rt one_of only 0 ∷ rd one_of only 0 ∷ sa one_of only 0 ∷ []) [] []

-- rs is then the CO bit alone
abbrev pub code19 : List Format
code19 = two (rs one_of only 16 ∷ rt one_of only 0 ∷ rd one_of only 0 ∷ sa one_of only 0 ∷ []) [] []

abbrev pub rs_rt_code10 : List Format
rs_rt_code10 = two (rd one_of only 0 ∷ sa one_of only 0 ∷ []) (gpr Rs ∷ gpr Rt ∷ []) (gpr Rs ∷ gpr Rt ∷ [])

-- ── Restrictions ──

abbrev rules : List Test → List Claim → Rules
rules ts cs = record { tests = ts; claims = cs }

abbrev pub always : Rules
always = rules [] []

-- register 31 must not be used for rs: the branch could not be restarted
abbrev pub rs_not_31 : Rules
rs_not_31 = rules (rs none_of only 31 ∷ []) []

-- the hint is 0, or 16 with the hazard barrier; other values have no meaning in release 2
abbrev pub hint_0 : Rules
hint_0 = rules (sa one_of only 0 ∷ []) []

abbrev pub hint_16 : Rules
hint_16 = rules (sa one_of only 16 ∷ []) []

-- and rs and rd must not be equal: the jump could not be restarted
abbrev pub hint_0_rs_not_rd : Rules
hint_0_rs_not_rd = rules (sa one_of only 0 ∷ []) (fails rs_is_rd ∷ [])

abbrev pub hint_16_rs_not_rd : Rules
hint_16_rs_not_rd = rules (sa one_of only 16 ∷ []) (fails rs_is_rd ∷ [])

-- the number in rd must be placed in rt too
abbrev pub rt_same_as_rd : Rules
rt_same_as_rd = rules [] (holds rt_is_rd ∷ [])

-- the sum of position and size is at most 32 (or 64)
abbrev pub ends_inside : Rules
ends_inside = rules [] (holds inside ∷ [])

-- the size is at least 1
abbrev pub size_positive : Rules
size_positive = rules [] (holds ordered ∷ [])

-- fs is a control register that can be read: FIR, FCCR, FEXR, FENR, FCSR
abbrev pub readable_control : Rules
readable_control = rules (rd one_of (0 ∷ 25 ∷ 26 ∷ 28 ∷ 31 ∷ []) ∷ []) []

-- or written: FIR cannot be
abbrev pub writable_control : Rules
writable_control = rules (rd one_of (25 ∷ 26 ∷ 28 ∷ 31 ∷ []) ∷ []) []

-- in the paired-single format cc is even: two conditions are tested or set. Its column has two bits more below it
abbrev pub even_cc_in_rt : Rules
even_cc_in_rt = rules (rt one_of (0 ∷ 1 ∷ 8 ∷ 9 ∷ 16 ∷ 17 ∷ 24 ∷ 25 ∷ []) ∷ []) []

abbrev pub even_cc_in_sa : Rules
even_cc_in_sa = rules (sa one_of (0 ∷ 8 ∷ 16 ∷ 24 ∷ []) ∷ []) []

-- rd is one of the hardware registers: CPUNum, SYNCI_Step, CC, CCRes, and from 29 on those of the system and the
-- implementation
abbrev pub hardware_register : Rules
hardware_register = rules (rd none_of (4 to 28) ∷ []) []

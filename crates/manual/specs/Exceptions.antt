-- THE DIFFERENCES between the manuals and the source, each under a name: the words that it covers, and what the source
-- answers there. One more, which depends on a word's address, is `target_past_pc` in Agreement.antt.
-- docs/DIFFERENCES.md has them under the same names, with an example and the manual's words.
use Rattle.std.specs.Prelude.{ℕ, ◌+◌, Bool, true, false, ◌&&◌, ◌||◌, not, List, [], ◌∷◌, ◌++◌}
use Rattle.word.specs.Word.{Field, op, rs, rt, rd, sa, funct, Fields}
use Rattle.refusal.specs.Numbers as numbers
use Rattle.reading.specs.Kind as kind
use Rattle.classes.specs.Row.{Form, link}
use Rattle.classes.specs.Table.{no_operands, one_rs, one_rd, rd_rs, rd_rt, rs_rt, rd_rs_rt, rd_rt_rs, rd_rt_sa, offset}
use Rattle.classes.specs.Table.{rs_offset, rt_imm, rt_uimm}
use Rattle.classes.specs.Table.{rt_rs_imm, rt_base, rt_cop0, rt_fs, fd_fs_ft, fd_fs, fs_ft, ext_pos_size, ins_pos_size}
use Rattle.classes.specs.Table.{rt_hwr}
use Rattle.classes.specs.Refusals.{Test, ◌one_of◌, ◌none_of◌, ◌to◌, only}
use Rattle.classes.specs.Unread.{shifts_by_constant, variable_shifts, multiply_divide, moves_cop1}
use Rattle.manual.specs.Page.{Name, Cc, Code, Stype, Sel}
use Rattle.manual.specs.Page.{Claim, holds, fails, rs_is_rd, rt_is_rd, inside, ordered, Rules, obeys}

-- ── the names ──

pub data Exception : Type 0 where
  -- the manual defines the word, the source refuses it
  movf_movt trap_immediates branch_and_link_likely synci dmfc0_dmtc0 rdpgpr_wrpgpr di_ei tlb_words deret : Exception
  wait_with_high_code mfhc1_mthc1 : Exception
  to_long_rounded to_word_rounded float_moves_on_condition recip_rsqrt cvt_ps_s other_conditions : Exception
  paired_single cop2 cop1x msubu dclz_dclo : Exception
  sdbbp dext_words dins_words dsbh_dshd cop2_loads_and_stores : Exception
  -- both define it, the reading differs or leaves a field out
  rotrv_as_srlv drotrv_as_dsrlv drotr_as_dsrl drotr32_as_dsrl32 ehb_as_sll pause_as_sll jr_hb_as_jr : Exception
  jalr_hb_as_jalr sync_stype : Exception
  cop0_sel branch_cc compare_cc control_register_as_float hardware_register_as_number syscall_break_code : Exception
  trap_code wait_code bgez_zero_as_b : Exception
  -- the source reads it, the manual reserves it or calls it unpredictable
  shift_with_rs variable_shift_with_sa three_registers_with_sa jr_with_zero_bits_set jalr_with_zero_bits_set : Exception
  jalr_same_register : Exception
  sync_with_zero_bits_set mfhi_with_zero_bits_set mthi_with_zero_bits_set multiply_with_zero_bits_set : Exception
  link_branch_on_31 blez_with_rt lui_with_rs : Exception
  cop0_move_with_zero_bits_set eret_with_zero_bits_set cop1_move_with_zero_bits_set no_such_control_register : Exception
  one_source_with_ft : Exception
  compare_with_zero_bits_set reserved_format madd_with_zero_bits_set mul_with_sa clz_with_sa clz_rt_not_rd : Exception
  ext_past_32 ins_size_below_1 : Exception
  swap_extend_with_rs rdhwr_with_zero_bits_set no_such_hardware_register mips64_without_flag : Exception

-- ── what an exception says ──

-- under which width flag: the pages of MIPS64 alone count where it is set
pub data Flag : Type 0 where
  either on off : Flag

pub record Words : Type 0 where
  pub flag : Flag
  pub rules : Rules

-- mnemonics that have the same operands
pub record Sort : Type 0 where
  pub kinds : List ℕ
  pub form : Form

pub data Answer : Type 0 where
  refused : ℕ → Answer  -- refuses with this number
  reads : List Sort → Answer  -- reads one of these mnemonics, with its operands
  drops : Name → Answer  -- reads what the manual has, but leaves this field out

-- a word that shows the difference, and a width flag under which it does
pub record Example : Type 0 where
  pub wide : Bool
  pub word : ℕ

pub record Difference : Type 0 where
  pub exception : Exception
  pub example : Example
  pub words : List Words
  pub answer : Answer

unfoldable pub flagged : Flag → Bool → Bool
flagged either wide = true
flagged on wide = wide
flagged off wide = not wide

unfoldable pub among : List Words → Bool → Fields → Bool
among [] wide f = false
among (u ∷ us) wide f = (flagged u.flag wide && obeys u.rules f) || among us wide f

unfoldable pub covers : Difference → Bool → Fields → Bool
covers d wide f = among d.words wide f

-- ── words, by the manual's opcode tables ──

abbrev pub words : Flag → List Test → List Claim → Words
words m ts cs = record { flag = m; rules = record { tests = ts; claims = cs } }

-- words with these fields, under either flag
abbrev pub all_with : List Test → Words
all_with ts = words either ts []

abbrev pub wide_with : List Test → Words
wide_with ts = words on ts []

abbrev pub narrow_with : List Test → Words
narrow_with ts = words off ts []

-- SPECIAL, SPECIAL2, SPECIAL3, COP1X by funct
abbrev pub special : List ℕ → List Test → List Test
special fs ts = op one_of only 0 ∷ funct one_of fs ∷ ts

abbrev pub special2 : List ℕ → List Test → List Test
special2 fs ts = op one_of only 28 ∷ funct one_of fs ∷ ts

abbrev pub special3 : List ℕ → List Test → List Test
special3 fs ts = op one_of only 31 ∷ funct one_of fs ∷ ts

abbrev pub cop1x_funct : List ℕ → List Test → List Test
cop1x_funct fs ts = op one_of only 19 ∷ funct one_of fs ∷ ts

-- REGIMM by rt
abbrev pub regimm : List ℕ → List Test → List Test
regimm vs ts = op one_of only 1 ∷ rt one_of vs ∷ ts

-- COP0 and COP1 by rs, COP1 formats by rs and funct
abbrev pub cop0_rs : List ℕ → List Test → List Test
cop0_rs vs ts = op one_of only 16 ∷ rs one_of vs ∷ ts

abbrev pub cop1_rs : List ℕ → List Test → List Test
cop1_rs vs ts = op one_of only 17 ∷ rs one_of vs ∷ ts

abbrev pub float : List ℕ → List ℕ → List Test → List Test
float vs fs ts = op one_of only 17 ∷ rs one_of vs ∷ funct one_of fs ∷ ts

abbrev pub single_double : List ℕ
single_double = 16 ∷ 17 ∷ []

-- the field is zero; it is not
abbrev pub clear : Field → Test
clear x = x one_of only 0

abbrev pub set : Field → Test
set x = x none_of only 0

-- the values of five bits whose two low bits are v
abbrev pub ending_in : ℕ → List ℕ
ending_in v = v ∷ (v + 4) ∷ (v + 8) ∷ (v + 12) ∷ (v + 16) ∷ (v + 20) ∷ (v + 24) ∷ (v + 28) ∷ []

-- ── answers and examples ──

abbrev pub sort : List ℕ → Form → Sort
sort ks φ = record { kinds = ks; form = φ }

abbrev pub reading_as : List ℕ → Form → Answer
reading_as ks φ = reads (sort ks φ ∷ [])

-- the smallest word; with the flag on where the manual's page is one of MIPS64 alone
abbrev pub narrow : ℕ → Example
narrow w = record { wide = false; word = w }

abbrev pub wide : ℕ → Example
wide w = record { wide = true; word = w }

abbrev pub difference : Exception → Example → List Words → Answer → Difference
difference e x us a = record { exception = e; example = x; words = us; answer = a }

-- ── the manual defines the word, the source refuses it ──

unfoldable pub refused_words : List Difference
refused_words =
    difference movf_movt (narrow 0x00000001)
    (all_with (special (only 1) (rt one_of (ending_in 0 ++ ending_in 1) ∷ clear sa ∷ [])) ∷ [])
    (refused numbers.special) ∷
    difference trap_immediates (narrow 0x04080000)
    (all_with (regimm (8 ∷ 9 ∷ 10 ∷ 11 ∷ 12 ∷ 14 ∷ []) []) ∷ []) (refused numbers.regimm) ∷
    difference branch_and_link_likely (narrow 0x04120000)
    (all_with (regimm (18 ∷ 19 ∷ []) (rs none_of only 31 ∷ [])) ∷ []) (refused numbers.regimm) ∷
    difference synci (narrow 0x041f0000) (all_with (regimm (only 31) []) ∷ []) (refused numbers.regimm) ∷
    difference dmfc0_dmtc0 (wide 0x40200000)
    (wide_with (cop0_rs (1 ∷ 5 ∷ []) (clear sa ∷ funct one_of (0 to 7) ∷ [])) ∷ []) (refused numbers.cop0) ∷
    difference rdpgpr_wrpgpr (narrow 0x41400000)
    (all_with (cop0_rs (10 ∷ 14 ∷ []) (clear sa ∷ clear funct ∷ [])) ∷ []) (refused numbers.cop0) ∷
    difference di_ei (narrow 0x41606000)
    (all_with (cop0_rs (only 11) (rd one_of only 12 ∷ clear sa ∷ funct one_of (0 ∷ 32 ∷ []) ∷ [])) ∷ [])
    (refused numbers.cop0) ∷
    difference tlb_words (narrow 0x42000001) (all_with (cop0_rs (only 16) (clear rt ∷ clear rd ∷ clear sa ∷
    funct one_of (1 ∷ 2 ∷ 6 ∷ 8 ∷ []) ∷ [])) ∷ []) (refused numbers.cop0) ∷
    difference deret (narrow 0x4200001f)
    (all_with (cop0_rs (only 16) (clear rt ∷ clear rd ∷ clear sa ∷ funct one_of only 31 ∷ [])) ∷ [])
    (refused numbers.cop0) ∷
    difference wait_with_high_code (narrow 0x42200020)
    (all_with (cop0_rs (17 to 31) (funct one_of only 32 ∷ [])) ∷ []) (refused numbers.cop0) ∷
    difference mfhc1_mthc1 (narrow 0x44600000)
    (all_with (cop1_rs (3 ∷ 7 ∷ []) (clear sa ∷ clear funct ∷ [])) ∷ []) (refused numbers.cop1) ∷
    difference to_long_rounded (narrow 0x46000008)
    (all_with (float single_double (8 to 11) (clear rt ∷ [])) ∷ []) (refused numbers.cop1) ∷
    difference to_word_rounded (narrow 0x4600000c)
    (all_with (float single_double (12 ∷ 14 ∷ 15 ∷ []) (clear rt ∷ [])) ∷ []) (refused numbers.cop1) ∷
    difference float_moves_on_condition (narrow 0x46000011)
    (all_with (float single_double (only 17) (rt one_of (ending_in 0 ++ ending_in 1) ∷ [])) ∷
    all_with (float single_double (18 ∷ 19 ∷ []) []) ∷ [])
    (refused numbers.cop1) ∷
    difference recip_rsqrt (narrow 0x46000015)
    (all_with (float single_double (21 ∷ 22 ∷ []) (clear rt ∷ [])) ∷ []) (refused numbers.cop1) ∷
    difference cvt_ps_s (narrow 0x46000026) (all_with (float (only 16) (only 38) []) ∷ []) (refused numbers.cop1) ∷
    difference other_conditions (narrow 0x46000030)
    (all_with (float single_double (48 ∷ 49 ∷ 51 to 59 ++ 61 ∷ 63 ∷ []) (sa one_of ending_in 0 ∷ [])) ∷ [])
    (refused numbers.cop1) ∷
    difference paired_single (narrow 0x46c00000)
    (all_with (float (only 22) (0 ∷ 1 ∷ 2 ∷ 18 ∷ 19 ∷ 44 to 47) []) ∷
    all_with (float (only 22) (5 ∷ 6 ∷ 7 ∷ 32 ∷ 40 ∷ []) (clear rt ∷ [])) ∷
    all_with (float (only 22) (only 17) (rt one_of (0 ∷ 1 ∷ 8 ∷ 9 ∷ 16 ∷ 17 ∷ 24 ∷ 25 ∷ []) ∷ [])) ∷
    all_with (float (only 22) (48 to 63) (sa one_of (0 ∷ 8 ∷ 16 ∷ 24 ∷ []) ∷ [])) ∷
    [])
    (refused numbers.cop1) ∷
    difference cop2 (narrow 0x48000000)
    (all_with (op one_of only 18 ∷ rs one_of (0 ∷ 2 ∷ 3 ∷ 4 ∷ 6 ∷ 7 ∷ 8 ∷ 16 to 31) ∷ []) ∷
    wide_with (op one_of only 18 ∷ rs one_of (1 ∷ 5 ∷ []) ∷ []) ∷ [])
    (refused numbers.op) ∷
    difference cop1x (narrow 0x4c000000)
    (all_with (cop1x_funct (0 ∷ 1 ∷ 5 ∷ []) (clear rd ∷ [])) ∷
    all_with (cop1x_funct (8 ∷ 9 ∷ 13 ∷ 15 ∷ []) (clear sa ∷ [])) ∷
    all_with (cop1x_funct (30 ∷ 32 ∷ 33 ∷ 38 ∷ 40 ∷ 41 ∷ 46 ∷ 48 ∷ 49 ∷ 54 ∷ 56 ∷ 57 ∷ 62 ∷ []) []) ∷
    [])
    (refused numbers.op) ∷
    difference msubu (narrow 0x70000005) (all_with (special2 (only 5) (clear rd ∷ clear sa ∷ [])) ∷ [])
    (refused numbers.special2) ∷
    difference dclz_dclo (wide 0x70000024)
    (words on (special2 (36 ∷ 37 ∷ []) (clear sa ∷ [])) (holds rt_is_rd ∷ []) ∷ []) (refused numbers.special2) ∷
    difference sdbbp (narrow 0x7000003f) (all_with (special2 (only 63) []) ∷ []) (refused numbers.special2) ∷
    difference dext_words (wide 0x7c000001)
    (words on (special3 (1 ∷ 2 ∷ []) []) (holds inside ∷ []) ∷ wide_with (special3 (only 3) []) ∷ [])
    (refused numbers.special3) ∷
    difference dins_words (wide 0x7c000005)
    (wide_with (special3 (only 5) []) ∷ words on (special3 (6 ∷ 7 ∷ []) []) (holds ordered ∷ []) ∷ [])
    (refused numbers.special3) ∷
    difference dsbh_dshd (wide 0x7c0000a4)
    (wide_with (special3 (only 36) (clear rs ∷ sa one_of (2 ∷ 5 ∷ []) ∷ [])) ∷ []) (refused numbers.special3) ∷
    difference cop2_loads_and_stores (narrow 0xc8000000)
    (all_with (op one_of (50 ∷ 54 ∷ 58 ∷ 62 ∷ []) ∷ []) ∷ []) (refused numbers.op) ∷
    []

-- ── both define it, the reading differs or leaves a field out ──

unfoldable pub other_readings : List Difference
other_readings =
    difference rotrv_as_srlv (narrow 0x00000046)
    (all_with (special (only 6) (sa one_of only 1 ∷ [])) ∷ []) (reading_as (only kind.srlv) rd_rt_rs) ∷
    difference drotrv_as_dsrlv (wide 0x00000056)
    (all_with (special (only 22) (sa one_of only 1 ∷ [])) ∷ []) (reading_as (only kind.dsrlv) rd_rt_rs) ∷
    difference drotr_as_dsrl (wide 0x0020003a)
    (all_with (special (only 58) (rs one_of only 1 ∷ [])) ∷ []) (reading_as (only kind.dsrl) rd_rt_sa) ∷
    difference drotr32_as_dsrl32 (wide 0x0020003e)
    (all_with (special (only 62) (rs one_of only 1 ∷ [])) ∷ []) (reading_as (only kind.dsrl32) rd_rt_sa) ∷
    difference ehb_as_sll (narrow 0x000000c0)
    (all_with (special (only 0) (clear rs ∷ clear rt ∷ clear rd ∷ sa one_of only 3 ∷ [])) ∷ [])
    (reading_as (only kind.sll) rd_rt_sa) ∷
    difference pause_as_sll (narrow 0x00000140)
    (all_with (special (only 0) (clear rs ∷ clear rt ∷ clear rd ∷ sa one_of only 5 ∷ [])) ∷ [])
    (reading_as (only kind.sll) rd_rt_sa) ∷
    difference jr_hb_as_jr (narrow 0x00000408) (all_with (special (only 8) (clear rt ∷ clear rd ∷ sa one_of only 16 ∷
    [])) ∷ []) (reading_as (only kind.jr) one_rs) ∷
    difference jalr_hb_as_jalr (narrow 0x00000c09)
    (words either (special (only 9) (clear rt ∷ sa one_of only 16 ∷ [])) (fails rs_is_rd ∷ []) ∷ [])
    (reading_as (only kind.jalr) link) ∷
    difference sync_stype (narrow 0x0000004f)
    (all_with (special (only 15) (clear rs ∷ clear rt ∷ clear rd ∷ set sa ∷ [])) ∷ [])
    (drops Stype) ∷
    difference cop0_sel (narrow 0x40000001)
    (all_with (cop0_rs (0 ∷ 4 ∷ []) (clear sa ∷ funct one_of (1 to 7) ∷ [])) ∷ [])
    (drops Sel) ∷
    difference branch_cc (narrow 0x45040000) (all_with (cop1_rs (only 8) (rt one_of (4 to 31) ∷ [])) ∷ []) (drops Cc) ∷
    difference compare_cc (narrow 0x46000132)
    (all_with (float single_double (50 ∷ 60 ∷ 62 ∷ []) (sa one_of ending_in 0 ∷ set sa ∷ [])) ∷ [])
    (drops Cc) ∷
    difference control_register_as_float (narrow 0x44400000)
    (all_with (cop1_rs (only 2) (rd one_of (0 ∷ 25 ∷ 26 ∷ 28 ∷ 31 ∷ []) ∷ clear sa ∷ clear funct ∷ [])) ∷
    all_with (cop1_rs (only 6) (rd one_of (25 ∷ 26 ∷ 28 ∷ 31 ∷ []) ∷ clear sa ∷ clear funct ∷ [])) ∷
    [])
    (reading_as (kind.cfc1 ∷ kind.ctc1 ∷ []) rt_fs) ∷
    difference hardware_register_as_number (narrow 0x7c00003b)
    (all_with (special3 (only 59) (clear rs ∷ rd none_of (4 to 28) ∷ clear sa ∷ [])) ∷ [])
    (reading_as (only kind.rdhwr) rt_hwr) ∷
    difference syscall_break_code (narrow 0x0000004c)
    (all_with (special (12 ∷ 13 ∷ []) (set rs ∷ [])) ∷
    all_with (special (12 ∷ 13 ∷ []) (set rt ∷ [])) ∷
    all_with (special (12 ∷ 13 ∷ []) (set rd ∷ [])) ∷
    all_with (special (12 ∷ 13 ∷ []) (set sa ∷ [])) ∷
    [])
    (drops Code) ∷
    difference trap_code (narrow 0x00000070)
    (all_with (special (48 to 52 ++ 54 ∷ []) (set rd ∷ [])) ∷ all_with (special (48 to 52 ++ 54 ∷ []) (set sa ∷ [])) ∷
    [])
    (drops Code) ∷
    difference wait_code (narrow 0x42000060)
    (all_with (cop0_rs (only 16) (funct one_of only 32 ∷ set rt ∷ [])) ∷
    all_with (cop0_rs (only 16) (funct one_of only 32 ∷ set rd ∷ [])) ∷
    all_with (cop0_rs (only 16) (funct one_of only 32 ∷ set sa ∷ [])) ∷
    [])
    (drops Code) ∷
    difference bgez_zero_as_b (narrow 0x04010000)
    (all_with (regimm (only 1) (clear rs ∷ [])) ∷ []) (reading_as (only kind.b) offset) ∷
    []

-- ── the source reads it, the manual reserves it or calls it unpredictable ──

-- mnemonics in formats that the manual reserves: with three operands, with two, compares
abbrev pub reserved_three : List ℕ
reserved_three =
    kind.add_w ∷ kind.sub_w ∷ kind.mul_w ∷ kind.div_w ∷ kind.add_l ∷ kind.sub_l ∷ kind.mul_l ∷ kind.div_l ∷ []

abbrev pub reserved_two : List ℕ
reserved_two =
    kind.cvt_s_s ∷ kind.cvt_d_d ∷ kind.sqrt_w ∷ kind.abs_w ∷ kind.mov_w ∷ kind.neg_w ∷ kind.trunc_w_w ∷ kind.cvt_w_w ∷
    kind.cvt_l_w ∷ kind.sqrt_l ∷ kind.abs_l ∷ kind.mov_l ∷ kind.neg_l ∷ kind.trunc_w_l ∷ kind.cvt_w_l ∷ kind.cvt_l_l ∷
    []

abbrev pub reserved_compares : List ℕ
reserved_compares = kind.c_eq_w ∷ kind.c_lt_w ∷ kind.c_le_w ∷ kind.c_eq_l ∷ kind.c_lt_l ∷ kind.c_le_l ∷ []

unfoldable pub reserved_words : List Difference
reserved_words =
    difference shift_with_rs (narrow 0x00200000)
    (all_with (special (0 ∷ 3 ∷ 56 ∷ 59 ∷ 60 ∷ 63 ∷ []) (set rs ∷ [])) ∷ all_with (special (2 ∷ 58 ∷ 62 ∷
    []) (rs one_of (2 to 31) ∷ [])) ∷ [])
    (reading_as shifts_by_constant rd_rt_sa) ∷
    difference variable_shift_with_sa (narrow 0x00000044)
    (all_with (special (4 ∷ 7 ∷ 20 ∷ 23 ∷ []) (set sa ∷ [])) ∷ all_with (special (6 ∷ 22 ∷ []) (sa one_of (2 to 31) ∷
    [])) ∷ [])
    (reading_as variable_shifts rd_rt_rs) ∷
    difference three_registers_with_sa (narrow 0x0000004a)
    (all_with (special (10 ∷ 11 ∷ 32 to 39 ++ 42 to 47) (set sa ∷ [])) ∷ [])
    (reads
    (sort
    (kind.movz ∷ kind.movn ∷ kind.add ∷ kind.addu ∷ kind.sub ∷ kind.subu ∷ kind.and ∷ kind.or ∷ kind.xor ∷ kind.nor ∷
    kind.slt ∷ kind.sltu ∷
    kind.dadd ∷ kind.daddu ∷ kind.dsub ∷ kind.dsubu ∷ [])
    rd_rs_rt ∷
    sort (kind.move ∷ kind.not ∷ []) rd_rs ∷
    sort (only kind.negu) rd_rt ∷
    [])) ∷
    difference jr_with_zero_bits_set (narrow 0x00000048)
    (all_with (special (only 8) (set rt ∷ [])) ∷
    all_with (special (only 8) (set rd ∷ [])) ∷
    all_with (special (only 8) (sa none_of (0 ∷ 16 ∷ []) ∷ [])) ∷
    [])
    (reading_as (only kind.jr) one_rs) ∷
    difference jalr_with_zero_bits_set (narrow 0x00000049)
    (all_with (special (only 9) (set rt ∷ [])) ∷ all_with (special (only 9) (sa none_of (0 ∷ 16 ∷ []) ∷ [])) ∷ [])
    (reading_as (only kind.jalr) link) ∷
    difference jalr_same_register (narrow 0x00000009)
    (words either (special (only 9) (clear rt ∷ sa one_of (0 ∷ 16 ∷ []) ∷ [])) (holds rs_is_rd ∷ []) ∷ [])
    (reading_as (only kind.jalr) link) ∷
    difference sync_with_zero_bits_set (narrow 0x0000080f)
    (all_with (special (only 15) (set rs ∷ [])) ∷ all_with (special (only 15) (set rt ∷ [])) ∷
    all_with (special (only 15) (set rd ∷ [])) ∷ [])
    (reading_as (only kind.sync) no_operands) ∷
    difference mfhi_with_zero_bits_set (narrow 0x00000050)
    (all_with (special (16 ∷ 18 ∷ []) (set rs ∷ [])) ∷
    all_with (special (16 ∷ 18 ∷ []) (set rt ∷ [])) ∷
    all_with (special (16 ∷ 18 ∷ []) (set sa ∷ [])) ∷
    [])
    (reading_as (kind.mfhi ∷ kind.mflo ∷ []) one_rd) ∷
    difference mthi_with_zero_bits_set (narrow 0x00000051)
    (all_with (special (17 ∷ 19 ∷ []) (set rt ∷ [])) ∷
    all_with (special (17 ∷ 19 ∷ []) (set rd ∷ [])) ∷
    all_with (special (17 ∷ 19 ∷ []) (set sa ∷ [])) ∷
    [])
    (reading_as (kind.mthi ∷ kind.mtlo ∷ []) one_rs) ∷
    difference multiply_with_zero_bits_set (narrow 0x00000058)
    (all_with (special (24 to 31) (set rd ∷ [])) ∷ all_with (special (24 to 31) (set sa ∷ [])) ∷ [])
    (reading_as multiply_divide rs_rt) ∷
    difference link_branch_on_31 (narrow 0x07f00000)
    (all_with (regimm (16 ∷ 17 ∷ []) (rs one_of only 31 ∷ [])) ∷ [])
    (reading_as (kind.bltzal ∷ kind.bgezal ∷ []) rs_offset) ∷
    difference blez_with_rt (narrow 0x18010000)
    (all_with (op one_of (6 ∷ 7 ∷ 22 ∷ 23 ∷ []) ∷ set rt ∷ []) ∷ [])
    (reading_as (kind.blez ∷ kind.bgtz ∷ kind.blezl ∷ kind.bgtzl ∷ []) rs_offset) ∷
    difference lui_with_rs (narrow 0x3c200000)
    (all_with (op one_of only 15 ∷ set rs ∷ []) ∷ []) (reading_as (only kind.lui) rt_uimm) ∷
    difference cop0_move_with_zero_bits_set (narrow 0x40000008)
    (all_with (cop0_rs (0 ∷ 4 ∷ []) (set sa ∷ [])) ∷ all_with (cop0_rs (0 ∷ 4 ∷ []) (funct none_of (0 to 7) ∷ [])) ∷ [])
    (reading_as (kind.mfc0 ∷ kind.mtc0 ∷ []) rt_cop0) ∷
    difference eret_with_zero_bits_set (narrow 0x42000058)
    (all_with (cop0_rs (only 16) (funct one_of only 24 ∷ set rt ∷ [])) ∷
    all_with (cop0_rs (only 16) (funct one_of only 24 ∷ set rd ∷ [])) ∷
    all_with (cop0_rs (only 16) (funct one_of only 24 ∷ set sa ∷ [])) ∷
    [])
    (reading_as (only kind.eret) no_operands) ∷
    difference cop1_move_with_zero_bits_set (narrow 0x44000001)
    (all_with (cop1_rs (0 ∷ 1 ∷ 2 ∷ 4 ∷ 5 ∷ 6 ∷ []) (set sa ∷ [])) ∷ all_with (cop1_rs (0 ∷ 1 ∷ 2 ∷ 4 ∷ 5 ∷ 6 ∷
    []) (set funct ∷ [])) ∷ [])
    (reading_as moves_cop1 rt_fs) ∷
    difference no_such_control_register (narrow 0x44400800)
    (all_with (cop1_rs (only 2) (rd none_of (0 ∷ 25 ∷ 26 ∷ 28 ∷ 31 ∷ []) ∷ clear sa ∷ clear funct ∷ [])) ∷
    all_with (cop1_rs (only 6) (rd none_of (25 ∷ 26 ∷ 28 ∷ 31 ∷ []) ∷ clear sa ∷ clear funct ∷ [])) ∷
    [])
    (reading_as (kind.cfc1 ∷ kind.ctc1 ∷ []) rt_fs) ∷
    difference one_source_with_ft (narrow 0x46010004)
    (all_with (float single_double (4 to 7 ++ 13 ∷ 36 ∷ 37 ∷ []) (set rt ∷ [])) ∷
    all_with (float (17 ∷ 20 ∷ 21 ∷ []) (only 32) (set rt ∷ [])) ∷
    all_with (float (16 ∷ 20 ∷ 21 ∷ []) (only 33) (set rt ∷ [])) ∷
    [])
    (reading_as
    (kind.sqrt_s ∷ kind.abs_s ∷ kind.mov_s ∷ kind.neg_s ∷ kind.trunc_w_s ∷ kind.cvt_d_s ∷ kind.cvt_w_s ∷ kind.cvt_l_s ∷
    kind.sqrt_d ∷
    kind.abs_d ∷ kind.mov_d ∷ kind.neg_d ∷ kind.trunc_w_d ∷ kind.cvt_s_d ∷ kind.cvt_w_d ∷ kind.cvt_l_d ∷ kind.cvt_s_w ∷
    kind.cvt_d_w ∷
    kind.cvt_s_l ∷ kind.cvt_d_l ∷ [])
    fd_fs) ∷
    difference compare_with_zero_bits_set (narrow 0x46000072)
    (all_with (float single_double (50 ∷ 60 ∷ 62 ∷ []) (sa none_of ending_in 0 ∷ [])) ∷ [])
    (reading_as (kind.c_eq_s ∷ kind.c_lt_s ∷ kind.c_le_s ∷ kind.c_eq_d ∷ kind.c_lt_d ∷ kind.c_le_d ∷ []) fs_ft) ∷
    difference reserved_format (narrow 0x46000020)
    (all_with (float (only 16) (only 32) []) ∷
    all_with (float (only 17) (only 33) []) ∷
    all_with (float (20 ∷ 21 ∷ []) (0 to 7 ++ 13 ∷ 36 ∷ 37 ∷ 50 ∷ 60 ∷ 62 ∷ []) []) ∷
    [])
    (reads (sort reserved_three fd_fs_ft ∷ sort reserved_two fd_fs ∷ sort reserved_compares fs_ft ∷ [])) ∷
    difference madd_with_zero_bits_set (narrow 0x70000040)
    (all_with (special2 (0 ∷ 1 ∷ 4 ∷ []) (set rd ∷ [])) ∷ all_with (special2 (0 ∷ 1 ∷ 4 ∷ []) (set sa ∷ [])) ∷ [])
    (reading_as (kind.madd ∷ kind.maddu ∷ kind.msub ∷ []) rs_rt) ∷
    difference mul_with_sa (narrow 0x70000042)
    (all_with (special2 (only 2) (set sa ∷ [])) ∷ []) (reading_as (only kind.mul) rd_rs_rt) ∷
    difference clz_with_sa (narrow 0x70000060)
    (all_with (special2 (32 ∷ 33 ∷ []) (set sa ∷ [])) ∷ []) (reading_as (kind.clz ∷ kind.clo ∷ []) rd_rs) ∷
    difference clz_rt_not_rd (narrow 0x70000820)
    (words either (special2 (32 ∷ 33 ∷ []) (clear sa ∷ [])) (fails rt_is_rd ∷ []) ∷ [])
    (reading_as (kind.clz ∷ kind.clo ∷ []) rd_rs) ∷
    difference ext_past_32 (narrow 0x7c000fc0)
    (words either (special3 (only 0) []) (fails inside ∷ []) ∷ []) (reading_as (only kind.ext) ext_pos_size) ∷
    difference ins_size_below_1 (narrow 0x7c000044)
    (words either (special3 (only 4) []) (fails ordered ∷ []) ∷ []) (reading_as (only kind.ins) ins_pos_size) ∷
    difference swap_extend_with_rs (narrow 0x7c2000a0)
    (all_with (special3 (only 32) (set rs ∷ sa one_of (2 ∷ 16 ∷ 24 ∷ []) ∷ [])) ∷ [])
    (reading_as (kind.wsbh ∷ kind.seb ∷ kind.seh ∷ []) rd_rt) ∷
    difference rdhwr_with_zero_bits_set (narrow 0x7c00007b)
    (all_with (special3 (only 59) (set rs ∷ [])) ∷ all_with (special3 (only 59) (set sa ∷ [])) ∷ [])
    (reading_as (only kind.rdhwr) rt_hwr) ∷
    difference no_such_hardware_register (narrow 0x7c00203b)
    (all_with (special3 (only 59) (clear rs ∷ rd one_of (4 to 28) ∷ clear sa ∷ [])) ∷ [])
    (reading_as (only kind.rdhwr) rt_hwr) ∷
    difference mips64_without_flag (narrow 0x00000014)
    (narrow_with (special (20 ∷ 22 ∷ 23 ∷ 44 to 47) (clear sa ∷ [])) ∷
    narrow_with (special (28 to 31) (clear rd ∷ clear sa ∷ [])) ∷
    narrow_with (special (56 ∷ 58 ∷ 59 ∷ 60 ∷ 62 ∷ 63 ∷ []) (clear rs ∷ [])) ∷
    narrow_with (cop1_rs (1 ∷ 5 ∷ []) (clear sa ∷ clear funct ∷ [])) ∷
    narrow_with (op one_of (24 to 27 ++ 39 ∷ 44 ∷ 45 ∷ 52 ∷ 55 ∷ 60 ∷ 63 ∷ []) ∷ []) ∷
    [])
    (reads
    (sort (kind.dsllv ∷ kind.dsrlv ∷ kind.dsrav ∷ []) rd_rt_rs ∷
    sort (kind.dmult ∷ kind.dmultu ∷ kind.ddiv ∷ kind.ddivu ∷ []) rs_rt ∷
    sort (kind.dadd ∷ kind.daddu ∷ kind.dsub ∷ kind.dsubu ∷ []) rd_rs_rt ∷
    sort (kind.dsll ∷ kind.dsrl ∷ kind.dsra ∷ kind.dsll32 ∷ kind.dsrl32 ∷ kind.dsra32 ∷ []) rd_rt_sa ∷
    sort (kind.dmfc1 ∷ kind.dmtc1 ∷ []) rt_fs ∷
    sort (kind.daddi ∷ kind.daddiu ∷ []) rt_rs_imm ∷
    sort (only kind.li) rt_imm ∷
    sort (kind.ldl ∷ kind.ldr ∷ kind.lwu ∷ kind.sdl ∷ kind.sdr ∷ kind.lld ∷ kind.ld ∷ kind.scd ∷ kind.sd ∷ []) rt_base ∷
    [])) ∷
    []

unfoldable pub differences : List Difference
differences = refused_words ++ other_readings ++ reserved_words

-- The fields that a class does not read, a second time: document 01's list in its own words, and what the table's
-- columns say.
use Rattle.std.specs.Prelude.{ℕ, ◌+◌, ◌-◌, ◌^◌, cond, List, [], ◌∷◌, ◌++◌}
use Rattle.reading.specs.Kind as kind
use Rattle.classes.specs.Row.{Pat, is, read, read_but, zeros, extra, skip_but, low, Row}
use Rattle.laws.specs.Lists.{elem}

-- bits hi..lo of a word, as the number that has them set
abbrev pub run : ℕ → ℕ → ℕ
run hi lo = 2 ^ (hi + 1) - 2 ^ lo

-- ── document 01's list ──

abbrev pub RS : ℕ
RS = run 25 21

abbrev pub RT : ℕ
RT = run 20 16

abbrev pub RD : ℕ
RD = run 15 11

abbrev pub SA : ℕ
SA = run 10 6

-- without `rotr`, which has rs 1
abbrev pub shifts_by_constant : List ℕ
shifts_by_constant =
    kind.sll ∷ kind.srl ∷ kind.sra ∷ kind.dsll ∷ kind.dsrl ∷ kind.dsra ∷ kind.dsll32 ∷ kind.dsrl32 ∷ kind.dsra32 ∷ []

abbrev pub variable_shifts : List ℕ
variable_shifts = kind.sllv ∷ kind.srlv ∷ kind.srav ∷ kind.dsllv ∷ kind.dsrlv ∷ kind.dsrav ∷ []

abbrev pub three_register_words : List ℕ
three_register_words =
    kind.movz ∷ kind.movn ∷ kind.add ∷ kind.addu ∷ kind.sub ∷ kind.subu ∷ kind.and ∷ kind.or ∷ kind.xor ∷ kind.nor ∷
    kind.slt ∷ kind.sltu ∷ kind.dadd ∷ kind.daddu ∷ kind.dsub ∷ kind.dsubu ∷ kind.mul ∷ []

abbrev pub multiply_divide : List ℕ
multiply_divide =
    kind.mult ∷ kind.multu ∷ kind.div ∷ kind.divu ∷ kind.dmult ∷ kind.dmultu ∷ kind.ddiv ∷ kind.ddivu ∷ []

abbrev pub traps : List ℕ
traps = kind.tge ∷ kind.tgeu ∷ kind.tlt ∷ kind.tltu ∷ kind.teq ∷ kind.tne ∷ []

abbrev pub moves_cop1 : List ℕ
moves_cop1 = kind.mfc1 ∷ kind.dmfc1 ∷ kind.cfc1 ∷ kind.mtc1 ∷ kind.dmtc1 ∷ kind.ctc1 ∷ []

abbrev pub bc1_words : List ℕ
bc1_words = kind.bc1f ∷ kind.bc1t ∷ kind.bc1fl ∷ kind.bc1tl ∷ []

-- COP1 funct 4 to 7, 13, 32, 33, 36, 37, in the four formats
abbrev pub one_source_cop1 : List ℕ
one_source_cop1 =
    kind.sqrt_s ∷ kind.abs_s ∷ kind.mov_s ∷ kind.neg_s ∷
    kind.trunc_w_s ∷ kind.cvt_s_s ∷ kind.cvt_d_s ∷ kind.cvt_w_s ∷ kind.cvt_l_s ∷
    kind.sqrt_d ∷ kind.abs_d ∷ kind.mov_d ∷ kind.neg_d ∷
    kind.trunc_w_d ∷ kind.cvt_s_d ∷ kind.cvt_d_d ∷ kind.cvt_w_d ∷ kind.cvt_l_d ∷
    kind.sqrt_w ∷ kind.abs_w ∷ kind.mov_w ∷ kind.neg_w ∷
    kind.trunc_w_w ∷ kind.cvt_s_w ∷ kind.cvt_d_w ∷ kind.cvt_w_w ∷ kind.cvt_l_w ∷
    kind.sqrt_l ∷ kind.abs_l ∷ kind.mov_l ∷ kind.neg_l ∷
    kind.trunc_w_l ∷ kind.cvt_s_l ∷ kind.cvt_d_l ∷ kind.cvt_w_l ∷ kind.cvt_l_l ∷
    []

abbrev pub compares_cop1 : List ℕ
compares_cop1 =
    kind.c_eq_s ∷ kind.c_lt_s ∷ kind.c_le_s ∷ kind.c_eq_d ∷ kind.c_lt_d ∷ kind.c_le_d ∷
    kind.c_eq_w ∷ kind.c_lt_w ∷ kind.c_le_w ∷ kind.c_eq_l ∷ kind.c_lt_l ∷ kind.c_le_l ∷
    []

-- some mnemonics and the bits that they do not read
pub record Entry : Type 0 where
  pub kinds : List ℕ
  pub unread : ℕ

abbrev pub entry : List ℕ → ℕ → Entry
entry ks u = record { kinds = ks; unread = u }

unfoldable pub list : List Entry
list =
    entry shifts_by_constant RS ∷
    entry (variable_shifts ++ three_register_words ++ kind.move ∷ kind.negu ∷ kind.not ∷ []) SA ∷
    entry (kind.jr ∷ kind.mthi ∷ kind.mtlo ∷ []) (RT + RD + SA) ∷
    entry (kind.jalr ∷ []) (RT + SA) ∷
    entry (kind.mfhi ∷ kind.mflo ∷ []) (RS + RT + SA) ∷
    entry (kind.syscall ∷ kind.break ∷ kind.sync ∷ []) (run 25 6) ∷
    entry (multiply_divide ++ traps ++ kind.madd ∷ kind.maddu ∷ kind.msub ∷ []) (RD + SA) ∷
    entry (kind.lui ∷ []) RS ∷
    entry (kind.blez ∷ kind.bgtz ∷ kind.blezl ∷ kind.bgtzl ∷ []) RT ∷
    entry (kind.clz ∷ kind.clo ∷ []) (RT + SA) ∷
    entry (kind.wsbh ∷ kind.seb ∷ kind.seh ∷ []) RS ∷
    entry (kind.rdhwr ∷ []) (RS + SA) ∷
    entry (kind.mfc0 ∷ kind.mtc0 ∷ moves_cop1) (run 10 0) ∷
    entry (kind.eret ∷ kind.wait ∷ []) (run 20 6) ∷
    entry bc1_words (run 20 18) ∷
    entry one_source_cop1 RT ∷
    entry compares_cop1 SA ∷
    []

-- what the list says of a mnemonic; one that it does not name reads every field
unfoldable pub listed_in : List Entry → ℕ → ℕ
listed_in [] k = 0
listed_in (e ∷ es) k = cond (elem k e.kinds) e.unread (listed_in es k)

abbrev pub listed : ℕ → ℕ
listed k = listed_in list k

-- ── what a row's columns say ──

-- the bits of a field at hi..lo that are not read
unfoldable pub unread_at : Pat → ℕ → ℕ → ℕ
unread_at (is v) hi lo = 0
unread_at read hi lo = 0
unread_at (read_but v) hi lo = 0
unread_at zeros hi lo = run hi lo
unread_at extra hi lo = run hi lo
unread_at (skip_but v) hi lo = run hi lo
unread_at (low v) hi lo = run hi (lo + 2)

unfoldable pub unread_by : Row → ℕ
unread_by r =
    unread_at r.pop 31 26 + unread_at r.prs 25 21 + unread_at r.prt 20 16 + unread_at r.prd 15 11
    + unread_at r.psa 10 6
    + unread_at r.pfunct 5 0

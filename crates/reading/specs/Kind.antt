-- The mnemonic kinds: a number for each mnemonic, in the order of the manual's opcode tables. A point in a mnemonic is
-- an underscore here: `add_s` is add.s. They follow from the list in Names.antt, which is where a mnemonic is added.
use Rattle.std.specs.Prelude.{ℕ, zero, suc, ◌+◌, ◌≡◌, List, [], ◌∷◌}

-- ── written by tools/name_tables ──

-- SPECIAL, by funct

abbrev pub nop : ℕ
nop = 0

abbrev pub ssnop : ℕ
ssnop = 1

abbrev pub sll : ℕ
sll = 2

abbrev pub rotr : ℕ
rotr = 3

abbrev pub srl : ℕ
srl = 4

abbrev pub sra : ℕ
sra = 5

abbrev pub sllv : ℕ
sllv = 6

abbrev pub srlv : ℕ
srlv = 7

abbrev pub srav : ℕ
srav = 8

abbrev pub jr : ℕ
jr = 9

abbrev pub jalr : ℕ
jalr = 10

abbrev pub movz : ℕ
movz = 11

abbrev pub movn : ℕ
movn = 12

abbrev pub syscall : ℕ
syscall = 13

abbrev pub break : ℕ
break = 14

abbrev pub sync : ℕ
sync = 15

abbrev pub mfhi : ℕ
mfhi = 16

abbrev pub mthi : ℕ
mthi = 17

abbrev pub mflo : ℕ
mflo = 18

abbrev pub mtlo : ℕ
mtlo = 19

abbrev pub dsllv : ℕ
dsllv = 20

abbrev pub dsrlv : ℕ
dsrlv = 21

abbrev pub dsrav : ℕ
dsrav = 22

abbrev pub mult : ℕ
mult = 23

abbrev pub multu : ℕ
multu = 24

abbrev pub div : ℕ
div = 25

abbrev pub divu : ℕ
divu = 26

abbrev pub dmult : ℕ
dmult = 27

abbrev pub dmultu : ℕ
dmultu = 28

abbrev pub ddiv : ℕ
ddiv = 29

abbrev pub ddivu : ℕ
ddivu = 30

abbrev pub add : ℕ
add = 31

abbrev pub move : ℕ
move = 32

abbrev pub addu : ℕ
addu = 33

abbrev pub sub : ℕ
sub = 34

abbrev pub negu : ℕ
negu = 35

abbrev pub subu : ℕ
subu = 36

abbrev pub and : ℕ
and = 37

abbrev pub or : ℕ
or = 38

abbrev pub xor : ℕ
xor = 39

abbrev pub not : ℕ
not = 40

abbrev pub nor : ℕ
nor = 41

abbrev pub slt : ℕ
slt = 42

abbrev pub sltu : ℕ
sltu = 43

abbrev pub dadd : ℕ
dadd = 44

abbrev pub daddu : ℕ
daddu = 45

abbrev pub dsub : ℕ
dsub = 46

abbrev pub dsubu : ℕ
dsubu = 47

abbrev pub tge : ℕ
tge = 48

abbrev pub tgeu : ℕ
tgeu = 49

abbrev pub tlt : ℕ
tlt = 50

abbrev pub tltu : ℕ
tltu = 51

abbrev pub teq : ℕ
teq = 52

abbrev pub tne : ℕ
tne = 53

abbrev pub dsll : ℕ
dsll = 54

abbrev pub dsrl : ℕ
dsrl = 55

abbrev pub dsra : ℕ
dsra = 56

abbrev pub dsll32 : ℕ
dsll32 = 57

abbrev pub dsrl32 : ℕ
dsrl32 = 58

abbrev pub dsra32 : ℕ
dsra32 = 59

-- REGIMM, by rt

abbrev pub bltz : ℕ
bltz = 60

abbrev pub b : ℕ
b = 61

abbrev pub bgez : ℕ
bgez = 62

abbrev pub bltzl : ℕ
bltzl = 63

abbrev pub bgezl : ℕ
bgezl = 64

abbrev pub bltzal : ℕ
bltzal = 65

abbrev pub bal : ℕ
bal = 66

abbrev pub bgezal : ℕ
bgezal = 67

-- Ops 2 to 15

abbrev pub j : ℕ
j = 68

abbrev pub jal : ℕ
jal = 69

abbrev pub beqz : ℕ
beqz = 70

abbrev pub beq : ℕ
beq = 71

abbrev pub bnez : ℕ
bnez = 72

abbrev pub bne : ℕ
bne = 73

abbrev pub blez : ℕ
blez = 74

abbrev pub bgtz : ℕ
bgtz = 75

abbrev pub addi : ℕ
addi = 76

abbrev pub li : ℕ
li = 77

abbrev pub addiu : ℕ
addiu = 78

abbrev pub slti : ℕ
slti = 79

abbrev pub sltiu : ℕ
sltiu = 80

abbrev pub andi : ℕ
andi = 81

abbrev pub ori : ℕ
ori = 82

abbrev pub xori : ℕ
xori = 83

abbrev pub lui : ℕ
lui = 84

-- COP0, by rs

abbrev pub mfc0 : ℕ
mfc0 = 85

abbrev pub mtc0 : ℕ
mtc0 = 86

abbrev pub eret : ℕ
eret = 87

abbrev pub wait : ℕ
wait = 88

-- COP1, by fmt and funct

abbrev pub mfc1 : ℕ
mfc1 = 89

abbrev pub dmfc1 : ℕ
dmfc1 = 90

abbrev pub cfc1 : ℕ
cfc1 = 91

abbrev pub mtc1 : ℕ
mtc1 = 92

abbrev pub dmtc1 : ℕ
dmtc1 = 93

abbrev pub ctc1 : ℕ
ctc1 = 94

abbrev pub bc1f : ℕ
bc1f = 95

abbrev pub bc1t : ℕ
bc1t = 96

abbrev pub bc1fl : ℕ
bc1fl = 97

abbrev pub bc1tl : ℕ
bc1tl = 98

abbrev pub add_s : ℕ
add_s = 99

abbrev pub sub_s : ℕ
sub_s = 100

abbrev pub mul_s : ℕ
mul_s = 101

abbrev pub div_s : ℕ
div_s = 102

abbrev pub sqrt_s : ℕ
sqrt_s = 103

abbrev pub abs_s : ℕ
abs_s = 104

abbrev pub mov_s : ℕ
mov_s = 105

abbrev pub neg_s : ℕ
neg_s = 106

abbrev pub trunc_w_s : ℕ
trunc_w_s = 107

abbrev pub cvt_s_s : ℕ
cvt_s_s = 108

abbrev pub cvt_d_s : ℕ
cvt_d_s = 109

abbrev pub cvt_w_s : ℕ
cvt_w_s = 110

abbrev pub cvt_l_s : ℕ
cvt_l_s = 111

abbrev pub c_eq_s : ℕ
c_eq_s = 112

abbrev pub c_lt_s : ℕ
c_lt_s = 113

abbrev pub c_le_s : ℕ
c_le_s = 114

abbrev pub add_d : ℕ
add_d = 115

abbrev pub sub_d : ℕ
sub_d = 116

abbrev pub mul_d : ℕ
mul_d = 117

abbrev pub div_d : ℕ
div_d = 118

abbrev pub sqrt_d : ℕ
sqrt_d = 119

abbrev pub abs_d : ℕ
abs_d = 120

abbrev pub mov_d : ℕ
mov_d = 121

abbrev pub neg_d : ℕ
neg_d = 122

abbrev pub trunc_w_d : ℕ
trunc_w_d = 123

abbrev pub cvt_s_d : ℕ
cvt_s_d = 124

abbrev pub cvt_d_d : ℕ
cvt_d_d = 125

abbrev pub cvt_w_d : ℕ
cvt_w_d = 126

abbrev pub cvt_l_d : ℕ
cvt_l_d = 127

abbrev pub c_eq_d : ℕ
c_eq_d = 128

abbrev pub c_lt_d : ℕ
c_lt_d = 129

abbrev pub c_le_d : ℕ
c_le_d = 130

abbrev pub add_w : ℕ
add_w = 131

abbrev pub sub_w : ℕ
sub_w = 132

abbrev pub mul_w : ℕ
mul_w = 133

abbrev pub div_w : ℕ
div_w = 134

abbrev pub sqrt_w : ℕ
sqrt_w = 135

abbrev pub abs_w : ℕ
abs_w = 136

abbrev pub mov_w : ℕ
mov_w = 137

abbrev pub neg_w : ℕ
neg_w = 138

abbrev pub trunc_w_w : ℕ
trunc_w_w = 139

abbrev pub cvt_s_w : ℕ
cvt_s_w = 140

abbrev pub cvt_d_w : ℕ
cvt_d_w = 141

abbrev pub cvt_w_w : ℕ
cvt_w_w = 142

abbrev pub cvt_l_w : ℕ
cvt_l_w = 143

abbrev pub c_eq_w : ℕ
c_eq_w = 144

abbrev pub c_lt_w : ℕ
c_lt_w = 145

abbrev pub c_le_w : ℕ
c_le_w = 146

abbrev pub add_l : ℕ
add_l = 147

abbrev pub sub_l : ℕ
sub_l = 148

abbrev pub mul_l : ℕ
mul_l = 149

abbrev pub div_l : ℕ
div_l = 150

abbrev pub sqrt_l : ℕ
sqrt_l = 151

abbrev pub abs_l : ℕ
abs_l = 152

abbrev pub mov_l : ℕ
mov_l = 153

abbrev pub neg_l : ℕ
neg_l = 154

abbrev pub trunc_w_l : ℕ
trunc_w_l = 155

abbrev pub cvt_s_l : ℕ
cvt_s_l = 156

abbrev pub cvt_d_l : ℕ
cvt_d_l = 157

abbrev pub cvt_w_l : ℕ
cvt_w_l = 158

abbrev pub cvt_l_l : ℕ
cvt_l_l = 159

abbrev pub c_eq_l : ℕ
c_eq_l = 160

abbrev pub c_lt_l : ℕ
c_lt_l = 161

abbrev pub c_le_l : ℕ
c_le_l = 162

-- Ops 20 to 27

abbrev pub beqzl : ℕ
beqzl = 163

abbrev pub beql : ℕ
beql = 164

abbrev pub bnezl : ℕ
bnezl = 165

abbrev pub bnel : ℕ
bnel = 166

abbrev pub blezl : ℕ
blezl = 167

abbrev pub bgtzl : ℕ
bgtzl = 168

abbrev pub daddi : ℕ
daddi = 169

abbrev pub daddiu : ℕ
daddiu = 170

abbrev pub ldl : ℕ
ldl = 171

abbrev pub ldr : ℕ
ldr = 172

-- SPECIAL2, by funct

abbrev pub madd : ℕ
madd = 173

abbrev pub maddu : ℕ
maddu = 174

abbrev pub mul : ℕ
mul = 175

abbrev pub msub : ℕ
msub = 176

abbrev pub clz : ℕ
clz = 177

abbrev pub clo : ℕ
clo = 178

-- SPECIAL3, by funct

abbrev pub ext : ℕ
ext = 179

abbrev pub ins : ℕ
ins = 180

abbrev pub wsbh : ℕ
wsbh = 181

abbrev pub seb : ℕ
seb = 182

abbrev pub seh : ℕ
seh = 183

abbrev pub rdhwr : ℕ
rdhwr = 184

-- Ops 32 to 63

abbrev pub lb : ℕ
lb = 185

abbrev pub lh : ℕ
lh = 186

abbrev pub lwl : ℕ
lwl = 187

abbrev pub lw : ℕ
lw = 188

abbrev pub lbu : ℕ
lbu = 189

abbrev pub lhu : ℕ
lhu = 190

abbrev pub lwr : ℕ
lwr = 191

abbrev pub lwu : ℕ
lwu = 192

abbrev pub sb : ℕ
sb = 193

abbrev pub sh : ℕ
sh = 194

abbrev pub swl : ℕ
swl = 195

abbrev pub sw : ℕ
sw = 196

abbrev pub sdl : ℕ
sdl = 197

abbrev pub sdr : ℕ
sdr = 198

abbrev pub swr : ℕ
swr = 199

abbrev pub cache : ℕ
cache = 200

abbrev pub ll : ℕ
ll = 201

abbrev pub lwc1 : ℕ
lwc1 = 202

abbrev pub pref : ℕ
pref = 203

abbrev pub lld : ℕ
lld = 204

abbrev pub ldc1 : ℕ
ldc1 = 205

abbrev pub ld : ℕ
ld = 206

abbrev pub sc : ℕ
sc = 207

abbrev pub swc1 : ℕ
swc1 = 208

abbrev pub scd : ℕ
scd = 209

abbrev pub sdc1 : ℕ
sdc1 = 210

abbrev pub sd : ℕ
sd = 211

-- how many there are
abbrev pub many : ℕ
many = 212

-- all of them, in order
unfoldable pub kinds : List ℕ
kinds =
    nop ∷ ssnop ∷ sll ∷ rotr ∷ srl ∷ sra ∷ sllv ∷ srlv ∷ srav ∷ jr ∷ jalr ∷ movz ∷
    movn ∷ syscall ∷ break ∷ sync ∷ mfhi ∷ mthi ∷ mflo ∷ mtlo ∷ dsllv ∷ dsrlv ∷ dsrav ∷ mult ∷
    multu ∷ div ∷ divu ∷ dmult ∷ dmultu ∷ ddiv ∷ ddivu ∷ add ∷ move ∷ addu ∷ sub ∷ negu ∷
    subu ∷ and ∷ or ∷ xor ∷ not ∷ nor ∷ slt ∷ sltu ∷ dadd ∷ daddu ∷ dsub ∷ dsubu ∷
    tge ∷ tgeu ∷ tlt ∷ tltu ∷ teq ∷ tne ∷ dsll ∷ dsrl ∷ dsra ∷ dsll32 ∷ dsrl32 ∷ dsra32 ∷
    bltz ∷ b ∷ bgez ∷ bltzl ∷ bgezl ∷ bltzal ∷ bal ∷ bgezal ∷
    j ∷ jal ∷ beqz ∷ beq ∷ bnez ∷ bne ∷ blez ∷ bgtz ∷ addi ∷ li ∷ addiu ∷ slti ∷
    sltiu ∷ andi ∷ ori ∷ xori ∷ lui ∷
    mfc0 ∷ mtc0 ∷ eret ∷ wait ∷
    mfc1 ∷ dmfc1 ∷ cfc1 ∷ mtc1 ∷ dmtc1 ∷ ctc1 ∷ bc1f ∷ bc1t ∷ bc1fl ∷ bc1tl ∷ add_s ∷ sub_s ∷
    mul_s ∷ div_s ∷ sqrt_s ∷ abs_s ∷ mov_s ∷ neg_s ∷ trunc_w_s ∷ cvt_s_s ∷ cvt_d_s ∷ cvt_w_s ∷ cvt_l_s ∷ c_eq_s ∷
    c_lt_s ∷ c_le_s ∷ add_d ∷ sub_d ∷ mul_d ∷ div_d ∷ sqrt_d ∷ abs_d ∷ mov_d ∷ neg_d ∷ trunc_w_d ∷ cvt_s_d ∷
    cvt_d_d ∷ cvt_w_d ∷ cvt_l_d ∷ c_eq_d ∷ c_lt_d ∷ c_le_d ∷ add_w ∷ sub_w ∷ mul_w ∷ div_w ∷ sqrt_w ∷ abs_w ∷
    mov_w ∷ neg_w ∷ trunc_w_w ∷ cvt_s_w ∷ cvt_d_w ∷ cvt_w_w ∷ cvt_l_w ∷ c_eq_w ∷ c_lt_w ∷ c_le_w ∷ add_l ∷ sub_l ∷
    mul_l ∷ div_l ∷ sqrt_l ∷ abs_l ∷ mov_l ∷ neg_l ∷ trunc_w_l ∷ cvt_s_l ∷ cvt_d_l ∷ cvt_w_l ∷ cvt_l_l ∷ c_eq_l ∷
    c_lt_l ∷ c_le_l ∷
    beqzl ∷ beql ∷ bnezl ∷ bnel ∷ blezl ∷ bgtzl ∷ daddi ∷ daddiu ∷ ldl ∷ ldr ∷
    madd ∷ maddu ∷ mul ∷ msub ∷ clz ∷ clo ∷
    ext ∷ ins ∷ wsbh ∷ seb ∷ seh ∷ rdhwr ∷
    lb ∷ lh ∷ lwl ∷ lw ∷ lbu ∷ lhu ∷ lwr ∷ lwu ∷ sb ∷ sh ∷ swl ∷ sw ∷
    sdl ∷ sdr ∷ swr ∷ cache ∷ ll ∷ lwc1 ∷ pref ∷ lld ∷ ldc1 ∷ ld ∷ sc ∷ swc1 ∷
    scd ∷ sdc1 ∷ sd ∷
    []

-- ── written by hand ──

-- n numbers from a on
unfoldable pub from : ℕ → ℕ → List ℕ
from a zero = []
from a (suc n) = a ∷ from (a + 1) n

-- what is proved of the kinds, in proofs/Numbered.antt: they are the numbers from 0 on, each once
abbrev pub Numbered : Type 0
Numbered = kinds ≡ from 0 many

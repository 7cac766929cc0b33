-- From operands back to bits: what each operand puts into a word.
use Rattle.std.specs.Prelude.{ℕ, zero, suc, ◌+◌, ◌*◌, ◌-◌, ◌/◌, ◌%◌, ◌^◌, cond, eqb}
use Rattle.word.specs.Word.{Field, op, rs, rt, rd, sa, funct, room}
use Rattle.word.specs.Numbers.{modulo64}
use Rattle.reading.specs.declared.Op.{Op}
use Rattle.reading.specs.declared.Op.TheVariants.{Reg, FReg, Imm, Mem, Addr, Cop0}
use Rattle.classes.specs.Row.{Code, reg, freg, cop0, num, size, s16, u16, mem, br, jmp, Form, end, ◌▸◌, pos_size, link}

-- what a one in the field adds to the word
abbrev pub place : Field → ℕ
place op = 2 ^ 26
place rs = 2 ^ 21
place rt = 2 ^ 16
place rd = 2 ^ 11
place sa = 2 ^ 6
place funct = 1

-- the number in an operand, whatever its kind; and the base of a Mem
abbrev pub number_of : Op → ℕ
number_of (Reg n) = n
number_of (FReg n) = n
number_of (Imm z) = modulo64 z
number_of (Mem z n) = modulo64 z
number_of (Addr a) = a
number_of (Cop0 n) = n

abbrev pub base_of : Op → ℕ
base_of (Reg n) = 0
base_of (FReg n) = 0
base_of (Imm z) = 0
base_of (Mem z n) = n
base_of (Addr a) = 0
base_of (Cop0 n) = 0

-- a register or number in a field
abbrev pub at : Field → Op → ℕ
at x o = number_of o % room x * place x

-- the immediate of a branch at va that goes to t
unfoldable pub branch_back : ℕ → ℕ → ℕ
branch_back va t = (t + (2 ^ 64 - (va + 4) % 2 ^ 64)) % 2 ^ 64 / 4 % 2 ^ 16

-- the last bit of `ins`, from its size and its first bit
abbrev pub last_bit : ℕ → ℕ → ℕ
last_bit n lsb = (n % 32 + lsb + 31) % 32

unfoldable pub part : Code → ℕ → Op → ℕ
part (reg x) va o = at x o
part (freg x) va o = at x o
part (cop0 x) va o = at x o
part (num x) va o = at x o
part size va o = last_bit (number_of o) 0 * 2 ^ 11
part s16 va o = number_of o % 2 ^ 16
part u16 va o = number_of o % 2 ^ 16
part mem va o = base_of o % 2 ^ 5 * 2 ^ 21 + number_of o % 2 ^ 16
part br va o = branch_back va (number_of o)
part jmp va o = number_of o / 4 % 2 ^ 26

abbrev pub one_less : ℕ → ℕ
one_less zero = zero
one_less (suc n) = n

-- how many operands there are, and each by its place
unfoldable pub filled : Form → ℕ → ℕ → (ℕ → Op) → ℕ
filled end va n o = 0
filled (c ▸ φ) va n o = part c va (o 0) + filled φ va (one_less n) (λ k. o (suc k))
filled pos_size va n o = at sa (o 0) + last_bit (number_of (o 1)) (number_of (o 0) % 2 ^ 5) * 2 ^ 11
filled link va n o = cond (eqb n 1) (at rs (o 0) + 31 * 2 ^ 11) (at rd (o 0) + at rs (o 1))

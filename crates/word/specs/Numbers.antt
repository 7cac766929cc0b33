-- The numbers that the manual works out of a word's fields.
use Rattle.std.specs.Prelude.{ℕ, ◌+◌, ◌-◌, ◌*◌, ◌/◌, ◌%◌, ◌^◌, Bool, true, false, cond, List, ℤ, pos, negsuc, ◌+ℤ◌}
use Rattle.std.specs.Prelude.{◌-ℤ◌, ◌*ℤ◌, nat_lt, slice_index}
use Rattle.word.specs.Word.{Fields, rs, rt, rd, sa, funct}

-- the 16-bit immediate, bits 15..0: rd, sa and funct side by side
unfoldable pub imm : Fields → ℕ
imm f = f rd * 2 ^ 11 + f sa * 2 ^ 6 + f funct

-- the 26-bit index of a jump, bits 25..0: all fields but op
unfoldable pub index : Fields → ℕ
index f = f rs * 2 ^ 21 + f rt * 2 ^ 16 + f rd * 2 ^ 11 + f sa * 2 ^ 6 + f funct

-- n bits as a two's complement number: u, or u - 2^n if the top bit is set
unfoldable pub signed : ℕ → ℕ → ℤ
signed n u = cond (nat_lt u (2 ^ (n - 1))) (pos u) (pos u -ℤ pos (2 ^ n))

-- a number modulo 2^64
abbrev pub modulo64 : ℤ → ℕ
modulo64 (pos n) = n % 2 ^ 64
modulo64 (negsuc n) = 2 ^ 64 - 1 - n % 2 ^ 64

-- a branch at address va with immediate u goes to va + 4 + 4 × the signed immediate, modulo 2^64
unfoldable pub branch_to : ℕ → ℕ → ℕ
branch_to va u = modulo64 (pos (va + 4) +ℤ pos 4 *ℤ signed 16 u)

-- a jump at address va with index i goes to va + 4 modulo 2^64, its low 28 bits replaced by 4 × the index
unfoldable pub jump_to : ℕ → ℕ → ℕ
jump_to va i = (va + 4) % 2 ^ 64 / 2 ^ 28 * 2 ^ 28 + 4 * i

-- what lui leaves in its register: the immediate times 65,536, sign-extended from 32 bits to 64
unfoldable pub upper : ℕ → ℕ
upper u = modulo64 (signed 32 (u * 65536))

-- the size of `ins`, from its last bit (rd) and its first (sa): below 1 too
unfoldable pub size_of : ℕ → ℕ → ℤ
size_of msb lsb = pos msb -ℤ pos lsb +ℤ pos 1

-- four bytes as a word, the first the lowest, or the first the highest
abbrev pub little_endian : List ℕ → ℕ
little_endian b = slice_index b 0 + slice_index b 1 * 2 ^ 8 + slice_index b 2 * 2 ^ 16 + slice_index b 3 * 2 ^ 24

abbrev pub big_endian : List ℕ → ℕ
big_endian b = slice_index b 3 + slice_index b 2 * 2 ^ 8 + slice_index b 1 * 2 ^ 16 + slice_index b 0 * 2 ^ 24

-- the first byte is the highest, or the lowest
abbrev pub word_in : Bool → List ℕ → ℕ
word_in true b = big_endian b
word_in false b = little_endian b

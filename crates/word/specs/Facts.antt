-- What is proved of words, fields and signed numbers, for every value. The proofs are in proofs/Proved.antt.
use Rattle.std.specs.Prelude.{◌≡◌, ℕ, ◌+◌, ◌-◌, ◌^◌, ◌<◌, pos, negsuc}
use Rattle.word.specs.Word.{bits, Fields, fields_of, Fit, word, words}
use Rattle.word.specs.Numbers.{imm, index, signed, upper, size_of}

-- a word below 2^32 and its six fields determine each other
pub record Bijection : Type 0 where
  pub fit : (w : ℕ) → Fit (fields_of w)
  pub small : (f : Fields) → Fit f → word f < words
  pub back : (w : ℕ) → w < words → word (fields_of w) ≡ w
  pub forth : (f : Fields) → Fit f → fields_of (word f) ≡ f

-- the immediate and the index are runs of the word's bits
pub record Runs : Type 0 where
  pub imm_bits : (w : ℕ) → imm (fields_of w) ≡ bits 15 0 w
  pub index_bits : (w : ℕ) → index (fields_of w) ≡ bits 25 0 w

-- n bits hold each number from -2^(n-1) to 2^(n-1) - 1 once: 0 and up in order, and -(k + 1) as 2^n - (k + 1)
pub record TwosComplement (n : ℕ) : Type 0 where
  pub upward : (k : ℕ) → k < 2 ^ (n - 1) → signed n k ≡ pos k
  pub downward : (k : ℕ) → k < 2 ^ (n - 1) → signed n (2 ^ n - (k + 1)) ≡ negsuc k

-- the signed numbers of a word, at their ends
pub record Ends : Type 0 where
  pub last_imm : signed 16 0x7fff ≡ pos 32767
  pub first_imm : signed 16 0x8000 ≡ negsuc 32767
  pub minus_one_imm : signed 16 0xffff ≡ negsuc 0
  pub last_upper : upper 0x7fff ≡ 0x000000007fff0000
  pub first_upper : upper 0x8000 ≡ 0xffffffff80000000
  pub minus_one_upper : upper 0xffff ≡ 0xffffffffffff0000
  pub largest_size : size_of 31 0 ≡ pos 32
  pub least_size : size_of 0 31 ≡ negsuc 29

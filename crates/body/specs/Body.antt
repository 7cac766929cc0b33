-- The words of a body: how many there are, where each stands, and what it is read as.
use Rattle.std.specs.Prelude.{ℕ, zero, suc, ◌+◌, ◌*◌, ◌/◌, ◌%◌, ◌^◌, Bool, cond, not, List, length, take, drop, ◌==◌}
use Rattle.std.specs.Prelude.{nat_lt}
use Rattle.word.specs.Numbers.{word_in}
use Rattle.reading.specs.declared.Decoded.{Decoded}
use Rattle.decode.specs.Bytes.{decoded_in}
use Rattle.body.specs.declared.View.{View}

-- ── how they are read ──

-- a flag of a section file is on if its bit is, whatever the others are
abbrev pub bit_on : ℕ → ℕ → Bool
bit_on bit flags = flags / bit % 2 == 1

-- 1 big-endian words, 2 wide; no other bit has a meaning
abbrev pub view_of : ℕ → ℕ → View
view_of va flags = record { va = va; big_endian = bit_on 1 flags; wide = bit_on 2 flags }

-- ── the words ──

-- a rest of fewer than four bytes is not read
abbrev pub words_in : List ℕ → ℕ
words_in body = length body / 4

-- word n stands 4 × n bytes after the first
abbrev pub address_at : View → ℕ → ℕ
address_at v n = (v.va + 4 * n) % 2 ^ 64

abbrev pub word_at : View → List ℕ → ℕ → ℕ
word_at v body n = word_in v.big_endian (take 4 (drop (4 * n) body))

-- the same, and 0 past the last word
unfoldable pub word_or_zero : View → List ℕ → ℕ → ℕ
word_or_zero v body n = cond (nat_lt n (words_in body)) (word_at v body n) 0

unfoldable pub decoded_at : View → List ℕ → ℕ → Decoded
decoded_at v body n = decoded_in (drop (4 * n) body) (address_at v n) v.big_endian v.wide

abbrev pub is_refused : Decoded → Bool
is_refused d = not (d.number == 0)

-- ── how many are refused ──

-- of k words from word n on
unfoldable pub refused_from : View → List ℕ → ℕ → ℕ → ℕ
refused_from v body zero n = 0
refused_from v body (suc k) n = cond (is_refused (decoded_at v body n)) 1 0 + refused_from v body k (n + 1)

unfoldable pub refused_in : View → List ℕ → ℕ
refused_in v body = refused_from v body (words_in body) 0

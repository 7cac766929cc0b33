-- A word and its six fields determine each other; how words compare; the immediate and the index as runs of bits, and how large they are.
use Rattle.std.proofs.Common.{◌≡◌, ℕ, ◌+◌, ◌*◌, ◌%◌, ◌^◌, ◌<◌, ◌≤◌, arith}
use mathlib.Core.Path.{fun_ext}
use Rattle.word.specs.Word.{bits, Field, op, rs, rt, rd, sa, funct, Fields, fields_of, Fit, word, words}
use Rattle.word.specs.Numbers.{imm, index}

pub fields_fit : (w : ℕ) → Fit (fields_of w)
unfolding fields_of
fields_fit w op = omega arith
fields_fit w rs = omega arith
fields_fit w rt = omega arith
fields_fit w rd = omega arith
fields_fit w sa = omega arith
fields_fit w funct = omega arith

pub word_small : (f : Fields) → Fit f → word f < words
unfolding word
word_small f h = omega (arith, h op, h rs, h rt, h rd, h sa, h funct)

-- the immediate: bits 15..0, from 15..11, 10..6 and 5..0
pub imm_is : (w : ℕ) → imm (fields_of w) ≡ bits 15 0 w
unfolding imm fields_of
imm_is w = omega arith

-- bits 25..0 are 25..21, 20..16 and the immediate
index_cut : (w : ℕ) → bits 25 21 w * 2 ^ 21 + bits 20 16 w * 2 ^ 16 + bits 15 0 w ≡ bits 25 0 w
index_cut w = omega arith

sides : (f : Fields) → index f ≡ f rs * 2 ^ 21 + f rt * 2 ^ 16 + imm f
unfolding index imm
sides f = omega arith

pub index_is : (w : ℕ) → index (fields_of w) ≡ bits 25 0 w
unfolding fields_of
index_is w = omega (arith, sides (fields_of w), imm_is w, index_cut w)

whole : (f : Fields) → word f ≡ f op * 2 ^ 26 + index f
unfolding word index
whole f = omega arith

word_cut : (w : ℕ) → w < words → bits 31 26 w * 2 ^ 26 + bits 25 0 w ≡ w
word_cut w h = omega arith

pub word_fields : (w : ℕ) → w < words → word (fields_of w) ≡ w
unfolding fields_of
word_fields w h = omega (arith, whole (fields_of w), index_is w, word_cut w h)

field_word : (f : Fields) → Fit f → (x : Field) → fields_of (word f) x ≡ f x
unfolding word fields_of
field_word f h op = omega (arith, h op, h rs, h rt, h rd, h sa, h funct)
field_word f h rs = omega (arith, h op, h rs, h rt, h rd, h sa, h funct)
field_word f h rt = omega (arith, h op, h rs, h rt, h rd, h sa, h funct)
field_word f h rd = omega (arith, h op, h rs, h rt, h rd, h sa, h funct)
field_word f h sa = omega (arith, h op, h rs, h rt, h rd, h sa, h funct)
field_word f h funct = omega (arith, h op, h rs, h rt, h rd, h sa, h funct)

pub fields_word : (f : Fields) → Fit f → fields_of (word f) ≡ f
fields_word f h = fun_ext (field_word f h)

-- ── how words compare ──

-- a word with no field larger than another's is no larger
pub word_mono : (f g : Fields) → ((x : Field) → f x ≤ g x) → word f ≤ word g
unfolding word
word_mono f g h = omega (arith, h op, h rs, h rt, h rd, h sa, h funct)

-- and so is one with a smaller op
pub word_op : (f g : Fields) → Fit f → f op < g op → word f ≤ word g
unfolding word
word_op f g h l = omega (arith, h rs, h rt, h rd, h sa, h funct)

-- the two runs as the code works them out
pub imm_low : (w : ℕ) → imm (fields_of w) ≡ w % 65536
imm_low w = omega (arith, imm_is w)

pub index_low : (w : ℕ) → index (fields_of w) ≡ w % 67108864
index_low w = omega (arith, index_is w)

-- ── how large they are ──

pub field_small : (f : Fields) → Fit f → (x : Field) → f x < 64
field_small f h op = omega (arith, h op)
field_small f h rs = omega (arith, h rs)
field_small f h rt = omega (arith, h rt)
field_small f h rd = omega (arith, h rd)
field_small f h sa = omega (arith, h sa)
field_small f h funct = omega (arith, h funct)

pub imm_small : (f : Fields) → Fit f → imm f < 65536
unfolding imm
imm_small f h = omega (arith, h rd, h sa, h funct)

pub index_small : (f : Fields) → Fit f → index f < 67108864
unfolding index
index_small f h = omega (arith, h rs, h rt, h rd, h sa, h funct)

pub imm_fits : (w : ℕ) → imm (fields_of w) < 65536
imm_fits w = imm_small (fields_of w) (fields_fit w)

pub index_fits : (w : ℕ) → index (fields_of w) < 67108864
index_fits w = index_small (fields_of w) (fields_fit w)

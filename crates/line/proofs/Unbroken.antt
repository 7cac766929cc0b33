-- No line has a newline in it, in every spelling that writes none.
use Prim.Native.Nat.{ℕ}
use mathlib.Core.Path.{◌≡◌, refl}
use mathlib.Core.Bool.{true}
use mathlib.Core.List.{List, [], ◌∷◌}
use native.Mathlib.Omega.{arith}
use lib.IntN.{ℤ}
use Rattle.reading.specs.declared.Op.{Op}
use Rattle.reading.specs.declared.Op.TheVariants.{Reg, FReg, Imm, Mem, Addr, Cop0}
use Rattle.reading.specs.declared.Operand.{Operand}
use Rattle.reading.specs.declared.Insn.{Insn}
use Rattle.text.specs.Text.{letter, letters, text_of, numeral_of, decimal_of, newline, without}
use Rattle.text.proofs.Rows.{without_append, numeral_without, decimal_without, address_without}
use Rattle.line.specs.Line.{Spelling, plain, op_text, listed, used, line_of, Unbroken}
use Rattle.line.proofs.Names.{register_without, mnemonic_without}

-- document 01's spelling writes none
pub plain_unbroken : Unbroken plain
plain_unbroken = record { register = register_without; address = address_without newline (omega arith) }

count_without : (n : ℕ) → without newline (numeral_of 10 n) ≡ true
count_without n = numeral_without newline (omega arith) 10 n

signed_without : (z : ℤ) → without newline (decimal_of z) ≡ true
signed_without z = decimal_without newline (omega arith) z

module _ {σ : Spelling} (s : Unbroken σ) where
  op_without : (o : Op) → without newline (op_text σ o) ≡ true
  unfolding op_text without text_of letters letter
  op_without (Reg r) = s.register r
  op_without (FReg r) = count_without r
  op_without (Imm z) = signed_without z
  op_without (Mem z r) = simp (without_append, signed_without, s.register r)
  op_without (Addr a) = s.address a
  op_without (Cop0 r) = count_without r

  listed_without : (before : List ℕ) → without newline before ≡ true → (os : List Operand) →
      without newline (listed σ before os) ≡ true
  unfolding listed without text_of letters letter
  listed_without before b [] = refl
  listed_without before b (o ∷ os) = simp (without_append, b, op_without, listed_without (text_of ", ") refl os)

  pub unbroken : (i : Insn) → without newline (line_of σ i) ≡ true
  unfolding line_of without text_of letters letter
  unbroken i = simp (without_append, mnemonic_without, listed_without (text_of " ") refl (used i))

-- The line of every word is short, in every spelling within its limits: an operand has at most 26 bytes, and there are
-- at most four.
use Prim.Native.Nat.{ℕ, ◌+◌, ◌*◌, ◌-◌, ◌^◌, ◌≤◌, ◌<◌}
use mathlib.Core.Bool.{Bool, true}
use mathlib.Core.List.{List, [], ◌∷◌, map}
use native.Mathlib.Omega.{arith}
use lib.Dec.{T}
use lib.IntN.{ℤ}
use lib.Signed.{nat_abs-le}
use lib.ListN.{length, length-append}
use borrow.Author.Tests.{ltb-true}
use mir.Syntax.{w64}
use mir.Val.{SFits}
use Rattle.word.specs.Word.{fields_of, rd, sa}
use Rattle.word.specs.Numbers.{imm, index}
use Rattle.word.proofs.Fields.{fields_fit, field_small, imm_small, index_small}
use Rattle.word.proofs.Signed.{signed_fits, size_fits, branch_small, jump_small}
use Rattle.reading.specs.declared.Op.{Op}
use Rattle.reading.specs.declared.Op.TheVariants.{Reg, FReg, Imm, Mem, Addr, Cop0}
use Rattle.reading.specs.Reading.{operand, blank_insn}
use Rattle.classes.specs.Row.{Code, reg, freg, cop0, num, size, s16, u16, mem, br, jmp, Form, Row}
use Rattle.classes.specs.Meaning.{out, outs, reading, meaning}
use Rattle.classes.specs.Table.{table}
use Rattle.classes.specs.Refusals.{Refusal, refusals}
use Rattle.classes.specs.Decoded.{decoded_by, decoded_of}
use Rattle.classes.proofs.Find.{every, reading_by_lem}
use Rattle.classes.proofs.Operands.{known_most, Each, outs_each, any_code, in_use}
use Rattle.text.specs.Text.{letters, text_of, decimal_of}
use Rattle.text.proofs.Lengths.{numeral_most, decimal_short, address_short}
use Rattle.line.specs.Line.{Spelling, plain, op_text, listed, line_of}
use Rattle.line.specs.Line.{longest_mnemonic, longest_operand, longest, Within}
use Rattle.line.proofs.Names.{register_most, mnemonic_most}
use Rattle.line.proofs.Readable.{Registered, good_row, good_rows, good_known, outs_registered}

-- document 01's spelling keeps to the limits
pub within : Within plain
within = record { register = λ r h. register_most r; address = address_short }

-- ── what the operands of a word hold: signed numbers and addresses of 64 bits ──

abbrev Held : Op → Type 0
Held (Reg r) = Unit {0}
Held (FReg r) = Unit {0}
Held (Imm z) = SFits w64 z
Held (Mem z r) = SFits w64 z
Held (Addr a) = a < 2 ^ 64
Held (Cop0 r) = Unit {0}

module _ (w va : ℕ) where
  out_held : (c : Code) → Held (out c va (fields_of w))
  unfolding out
  out_held (reg x) = tt
  out_held (freg x) = tt
  out_held (cop0 x) = tt
  out_held (num x) = record { sfits = omega (arith, field_small (fields_of w) (fields_fit w) x) }
  out_held size = record { sfits = omega (arith, fields_fit w rd) }
  out_held s16 = signed_fits (imm (fields_of w)) (imm_small (fields_of w) (fields_fit w))
  out_held u16 = record { sfits = omega (arith, imm_small (fields_of w) (fields_fit w)) }
  out_held mem = signed_fits (imm (fields_of w)) (imm_small (fields_of w) (fields_fit w))
  out_held br = branch_small va (imm (fields_of w))
  out_held jmp = jump_small va (index (fields_of w)) (index_small (fields_of w) (fields_fit w))

  outs_held : (φ : Form) → Each Held (outs φ va (fields_of w))
  outs_held φ =
      outs_each Held (λ c. true) va (fields_of w) (λ c t. out_held c)
      (size_fits (fields_of w rd) (fields_of w sa) (omega (arith, fields_fit w rd)) (omega (arith, fields_fit w sa)))
      φ (any_code φ)

signed_most : (z : ℤ) → SFits w64 z → length (decimal_of z) ≤ 20
signed_most z f = decimal_short z (nat_abs-le z f.sfits)

module _ {σ : Spelling} (limits : Within σ) where
  -- ── an operand ──

  op_most : (o : Op) → Registered o → Held o → length (op_text σ o) ≤ longest_operand
  unfolding op_text text_of letters
  op_most (Reg r) e h = omega (arith, limits.register r (ltb-true r 32 e))
  op_most (FReg r) e h = simp length-append (omega (arith, numeral_most 10 r))
  op_most (Imm z) e h = omega (arith, signed_most z h)
  op_most (Mem z r) e h = simp length-append (omega (arith, signed_most z h, limits.register r (ltb-true r 32 e)))
  op_most (Addr a) e h = omega (arith, limits.address a h)
  op_most (Cop0 r) e h = simp length-append (omega (arith, numeral_most 10 r))

  -- ── a row of operands ──

  next_most : (os : List Op) → Each Registered os → Each Held os →
      length (listed σ (text_of ", ") (map operand os)) ≤ (2 + longest_operand) * length os
  unfolding listed text_of letters
  next_most [] rs hs = omega arith
  next_most (o ∷ os) (r, rs) (h, hs) = simp length-append (omega (arith, op_most o r h, next_most os rs hs))

  -- the first has a space alone before it
  first_most : (os : List Op) → Each Registered os → Each Held os → length os ≤ 4 →
      length (listed σ (text_of " ") (map operand os)) ≤ longest - longest_mnemonic
  unfolding listed text_of letters
  first_most [] rs hs l = omega arith
  first_most (o ∷ os) (r, rs) (h, hs) l = simp length-append (omega (arith, op_most o r h, next_most os rs hs))

  -- ── the line ──

  row_short : (w va : ℕ) (r : Row) → T (good_row r) → length (line_of σ (meaning r va (fields_of w))) ≤ longest
  unfolding line_of meaning reading
  row_short w va r t =
      let os = outs r.form va (fields_of w) in
      let l = known_most r (good_known r w va t) va (fields_of w) in
      let most = first_most os (outs_registered r w va t) (outs_held w va r.form) l in
      rw (in_use operand os l) (simp length-append (omega (arith, mnemonic_most r.kind, most)))

pub blank_short : (σ : Spelling) → length (line_of σ blank_insn) ≤ longest
unfolding line_of listed
blank_short σ = simp length-append (omega (arith, mnemonic_most 0))

-- THE LAW for any table whose rows pass the test
pub short_by : {σ : Spelling} → Within σ → (ts : List Row) (es : List Refusal) → T (every good_row ts) → (w va : ℕ) →
    length (line_of σ (decoded_by ts es va (fields_of w)).insn) ≤ longest
short_by {σ} s ts es t w va =
    reading_by_lem (λ i. length (line_of σ i) ≤ longest) good_row (blank_short σ) ts es t va (fields_of w)
    (row_short s w va)

pub short : {σ : Spelling} → Within σ → (w va : ℕ) (wide : Bool) →
    length (line_of σ (decoded_of w va wide).insn) ≤ longest
unfolding decoded_of
short s w va wide = short_by s (table wide) refusals (good_rows wide) w va

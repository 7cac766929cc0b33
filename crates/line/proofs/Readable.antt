-- The reading of every word has a line: its registers are fields of five bits, it has at most four operands, and its
-- mnemonic a name.
use Prim.Native.Nat.{ℕ, ◌≤◌}
use mathlib.Core.Path.{◌≡◌, refl}
use mathlib.Core.Bool.{Bool, true, false, ◌&&◌}
use mathlib.Core.List.{List, [], ◌∷◌, map}
use native.Mathlib.Omega.{arith}
use lib.Dec.{T, ltb, leb, leb→le}
use lib.ListN.{length}
use borrow.Author.Tests.{lt-ltb, le-leb}
use Rattle.word.specs.Word.{Field, room, rs, fields_of}
use Rattle.word.proofs.Fields.{fields_fit}
use Rattle.reading.specs.declared.Op.{Op}
use Rattle.reading.specs.Kind.{many}
use Rattle.reading.specs.Reading.{operand, blank_insn}
use Rattle.classes.specs.Row.{Code, reg, freg, cop0, num, size, s16, u16, mem, br, jmp, Row}
use Rattle.classes.specs.Meaning.{out, outs, reading, meaning}
use Rattle.classes.specs.Table.{table, common, by_width}
use Rattle.classes.specs.Refusals.{Refusal, refusals}
use Rattle.classes.specs.Decoded.{decoded_by, decoded_of}
use Rattle.laws.proofs.Tests.{and_l, and_r}
use Rattle.classes.proofs.Find.{every, reading_by_lem}
use Rattle.classes.proofs.Operands.{operands_in, known, known_kind, known_most, Each, each_code, outs_each, in_use}
use Rattle.line.specs.Line.{registered, all_registered, printable}

-- ── a row's operands have registers ──

-- op and funct have six bits: no row has a register there
abbrev register_field : Field → Bool
register_field x = leb (room x) 32

unfoldable pub good_code : Code → Bool
good_code (reg x) = register_field x
good_code (freg x) = register_field x
good_code (cop0 x) = register_field x
good_code (num x) = true
good_code size = true
good_code s16 = true
good_code u16 = true
good_code mem = true
good_code br = true
good_code jmp = true

abbrev pub Registered : Op → Type 0
Registered o = registered o ≡ true

module _ (w va : ℕ) where
  field_below : (x : Field) → T (register_field x) → ltb (fields_of w x) 32 ≡ true
  field_below x t = lt-ltb (fields_of w x) 32 (omega (arith, fields_fit w x, leb→le (room x) 32 t))

  out_registered : (c : Code) → T (good_code c) → Registered (out c va (fields_of w))
  unfolding out good_code
  out_registered (reg x) t = field_below x t
  out_registered (freg x) t = field_below x t
  out_registered (cop0 x) t = field_below x t
  out_registered (num x) t = refl
  out_registered size t = refl
  out_registered s16 t = refl
  out_registered u16 t = refl
  out_registered mem t = field_below rs tt
  out_registered br t = refl
  out_registered jmp t = refl

-- operands that have registers, in their slots
all_registered_lem : (os : List Op) → Each Registered os → all_registered (map operand os) ≡ true
unfolding all_registered
all_registered_lem [] h = refl
all_registered_lem (o ∷ os) h = rw h.0 (all_registered_lem os h.1)

-- ── a word's reading ──

unfoldable pub good_row : Row → Bool
good_row r = known r && each_code good_code r.form

pub good_rows : (wide : Bool) → T (every good_row (table wide))
unfolding every good_row known operands_in each_code good_code table common by_width
good_rows true = tt
good_rows false = tt

module _ (r : Row) (w va : ℕ) (t : T (good_row r)) where
  pub good_known : T (known r)
  unfolding good_row
  good_known = and_l (known r) _ t

  pub outs_registered : Each Registered (outs r.form va (fields_of w))
  unfolding good_row
  outs_registered =
      outs_each Registered good_code va (fields_of w) (out_registered w va) refl r.form (and_r (known r) _ t)

  row_printable : printable (meaning r va (fields_of w)) ≡ true
  unfolding printable meaning reading
  row_printable =
      let os : List Op = outs r.form va (fields_of w) in
      let h : length os ≤ 4 = known_most r good_known va (fields_of w) in
      rw (lt-ltb r.kind many (known_kind r good_known), le-leb (length os) 4 h, in_use operand os h)
      (all_registered_lem os outs_registered)

pub blank_printable : printable blank_insn ≡ true
unfolding printable all_registered
blank_printable = refl

-- THE LAW for any table whose rows pass the test
pub readable_by : (ts : List Row) (es : List Refusal) → T (every good_row ts) → (w va : ℕ) →
    printable (decoded_by ts es va (fields_of w)).insn ≡ true
readable_by ts es t w va =
    reading_by_lem (λ i. printable i ≡ true) good_row blank_printable ts es t va (fields_of w)
    (λ r. row_printable r w va)

pub readable : (w va : ℕ) (wide : Bool) → printable (decoded_of w va wide).insn ≡ true
unfolding decoded_of
readable w va wide = readable_by (table wide) refusals (good_rows wide) w va

-- Every word's reading can be packed and unpacked: what its operands, effect and target hold fits.
use Rattle.std.proofs.Common.{ℕ, ◌^◌, ◌<◌, ◌≤◌, Bool, true, T, List, [], ◌∷◌, length, get_or, ℤ, pos, negsuc, refl, arith, w64, SFits}
use Rattle.word.specs.Word.{Fields, fields_of, rd, sa}
use Rattle.word.specs.Numbers.{imm, index, signed, size_of}
use Rattle.word.proofs.Fields.{fields_fit, field_small, imm_small, index_small}
use Rattle.word.proofs.Signed.{signed_fits, size_fits, branch_small, jump_small, upper_small}
use Rattle.reading.specs.declared.Op.{Op}
use Rattle.reading.specs.declared.Op.TheVariants.{Reg, FReg, Imm, Mem, Addr, Cop0}
use Rattle.reading.specs.Reading.{unused, blank_insn}
use Rattle.reading.specs.Numbers.{parts, op_parts, effect_parts, target_parts}
use Rattle.classes.specs.Row.{Code, reg, freg, cop0, num, size, s16, u16, mem, br, jmp, Form, Row}
use Rattle.classes.specs.Row.{Change, nothing, writes, adds, sets, sets_upper, memory, memory_only}
use Rattle.classes.specs.Meaning.{out, outs, second, third, slots, int_of, nat_of, effect_of, target_in, reading, meaning}
use Rattle.classes.specs.Table.{table}
use Rattle.classes.specs.Refusals.{Refusal, refusals}
use Rattle.classes.specs.Decoded.{decoded_by, decoded_of}
use Rattle.classes.proofs.Find.{every, reading_by_lem}
use Rattle.classes.proofs.Operands.{known, known_table, known_kind, known_most}
use Rattle.classes.proofs.Operands.{Each, outs_each, any_code, slot_past, each_slot}
use Rattle.record.specs.Theorems.{I64, Fits, Proper}

-- ── parts without a value, with a value, with an address ──

none_fits : {n a b s : ℕ} → Fits (parts n a b s (pos 0) 0)
none_fits = record { value = omega arith; address = omega arith }

value_fits : {n a b s : ℕ} {z : ℤ} → I64 z → Fits (parts n a b s z 0)
value_fits h = record { value = h; address = omega arith }

address_fits : {n a b s d : ℕ} → d < 2 ^ 64 → Fits (parts n a b s (pos 0) d)
address_fits h = record { value = omega arith; address = h }

-- what an i64 holds
i64 : (z : ℤ) → SFits w64 z → I64 z
i64 (pos n) f = f.sfits
i64 (negsuc n) f = f.sfits

-- ── operands ──

abbrev OpFits : Op → Type 0
OpFits o = Fits (op_parts o)

module _ (w va : ℕ) where
  abbrev f : Fields
  f = fields_of w

  immediate : I64 (signed 16 (imm f))
  immediate = i64 (signed 16 (imm f)) (signed_fits (imm f) (imm_small f (fields_fit w)))

  out_fits : (c : Code) → OpFits (out c va f)
  unfolding out
  out_fits (reg x) = none_fits
  out_fits (freg x) = none_fits
  out_fits (cop0 x) = none_fits
  out_fits (num x) = value_fits (omega (arith, field_small f (fields_fit w) x))
  out_fits size = value_fits (omega (arith, fields_fit w rd))
  out_fits s16 = value_fits immediate
  out_fits u16 = value_fits (omega (arith, imm_small f (fields_fit w)))
  out_fits mem = value_fits immediate
  out_fits br = address_fits (branch_small va (imm f))
  out_fits jmp = address_fits (jump_small va (index f) (index_small f (fields_fit w)))

  outs_fit : (φ : Form) → Each OpFits (outs φ va f)
  outs_fit φ =
      outs_each OpFits (λ c. true) va f (λ c t. out_fits c)
      (value_fits
      (i64 (size_of (f rd) (f sa))
      (size_fits (f rd) (f sa) (omega (arith, fields_fit w rd)) (omega (arith, fields_fit w sa)))))
      φ (any_code φ)

-- ── what is made of operands ──

int_fits : (o : Op) → OpFits o → I64 (int_of o)
int_fits (Reg n) f = f.value
int_fits (FReg n) f = f.value
int_fits (Imm z) f = f.value
int_fits (Mem z n) f = f.value
int_fits (Addr a) f = f.value
int_fits (Cop0 n) f = f.value

slots_fit : (os : List Op) → length os ≤ 4 → Each OpFits os → (k : ℕ) → OpFits (get_or (slots os) k unused).op
slots_fit os l h k = each_slot os l OpFits none_fits h k

effect_fits : (e : Change) (os : List Op) → length os ≤ 4 → Each OpFits os → Fits (effect_parts (effect_of e os))
unfolding effect_of
effect_fits nothing os l h = none_fits
effect_fits writes os l h = none_fits
effect_fits adds os l h = value_fits (int_fits (third os) (slots_fit os l h 2))
effect_fits sets os l h = value_fits (int_fits (second os) (slots_fit os l h 1))
effect_fits sets_upper os l h = address_fits (upper_small (nat_of (int_of (second os))))
effect_fits (memory n) os l h = value_fits (int_fits (second os) (slots_fit os l h 1))
effect_fits (memory_only n) os l h = value_fits (int_fits (second os) (slots_fit os l h 1))

target_fits : (os : List Op) → Each OpFits os → Fits (target_parts (target_in os))
unfolding target_in
target_fits [] h = none_fits
target_fits (Reg n ∷ os) h = target_fits os h.1
target_fits (FReg n ∷ os) h = target_fits os h.1
target_fits (Imm z ∷ os) h = target_fits os h.1
target_fits (Mem z n ∷ os) h = target_fits os h.1
target_fits (Addr a ∷ os) h = address_fits h.0.address
target_fits (Cop0 n ∷ os) h = target_fits os h.1

-- ── a word's reading ──

row_proper : (r : Row) (w va : ℕ) → T (known r) → Proper (meaning r va (fields_of w))
unfolding meaning reading
row_proper r w va t =
    let os : List Op = outs r.form va (fields_of w) in
    let l : length os ≤ 4 = known_most r t va (fields_of w) in
    let h : Each OpFits os = outs_fit w va r.form in
    record {
      known = known_kind r t;
      four = refl;
      rest = slot_past os l;
      operands = slots_fit os l h;
      effect = effect_fits r.manner.change os l h;
      target = target_fits os h;
    }

blank_proper : Proper blank_insn
blank_proper =
    record {
      known = omega arith;
      four = refl;
      rest = slot_past [] (omega arith);
      operands = slots_fit [] (omega arith) tt;
      effect = none_fits;
      target = none_fits;
    }

-- THE LAW for any table whose rows pass the test
pub proper_by : (ts : List Row) (es : List Refusal) → T (every known ts) → (w va : ℕ) →
    Proper (decoded_by ts es va (fields_of w)).insn
proper_by ts es t w va = reading_by_lem Proper known blank_proper ts es t va (fields_of w) (λ r. row_proper r w va)

pub proper : (w va : ℕ) (wide : Bool) → Proper (decoded_of w va wide).insn
unfolding decoded_of
proper w va wide = proper_by (table wide) refusals (known_table wide) w va

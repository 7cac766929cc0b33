-- Each part of a reading comes back from the bytes that it was packed into.
use Rattle.std.specs.Prelude.{None, Option, Some}
use Rattle.std.proofs.Common.{◌≡◌, ℕ, ◌+◌, ◌*◌, ◌%◌, ◌^◌, ◌<◌, ◌≤◌, Bool, true, false, eqb, ltb, List, [], ◌∷◌, ◌++◌, length, get_or, take, drop, ℤ, pos, negsuc, sym, refl, ap, ◌∙◌, add-zero, arith, length-append, take_at, w64, SFits, ltb-false}
use Rattle.word.specs.Numbers.{signed, modulo64}
use Rattle.word.proofs.Signed.{modulo_small, modulo_back}
use Rattle.reading.specs.declared.Op.{Op}
use Rattle.reading.specs.declared.Op.TheVariants.{Reg, FReg, Imm, Mem, Addr, Cop0}
use Rattle.reading.specs.declared.Operand.{Operand}
use Rattle.reading.specs.declared.Flow.{Flow}
use Rattle.reading.specs.declared.Flow.TheVariants as flow
use Rattle.reading.specs.declared.Effect.{Effect}
use Rattle.reading.specs.declared.Effect.TheVariants as effect
use Rattle.reading.specs.declared.Insn.{Insn}
use Rattle.reading.specs.declared.Parts.{Parts}
use Rattle.reading.specs.Reading.{operand, unused}
use Rattle.reading.specs.Numbers.{op_parts, effect_parts, target_parts, value_of, flow_number}
use Rattle.reading.proofs.Same.{four_slots}
use Rattle.buffers.specs.Bytes.{low_bytes, num, num_at}
use Rattle.buffers.proofs.Numbers.{num_le, in_reach}
use Rattle.text.specs.Text.{letters, padded}
use Rattle.names.specs.Names.{name_bytes, kind_of}
use Rattle.names.proofs.Proved.{theorems}
use Rattle.record.specs.Record.{size, bit, slot_parts, slot_of, head_bytes, effect_bytes, operand_bytes, insn_bytes}
use Rattle.record.specs.Unpacked.{op_by, effect_by, flow_by, target_by, insn_in}
use Rattle.record.specs.Theorems.{I64, Fits, Proper}

-- ── values ──

-- a signed value, beside an address that is 0
pub value_back : (z : ℤ) → I64 z → signed 64 (num (low_bytes 8 (modulo64 z + 0))) ≡ z
value_back z h = rw (add-zero (modulo64 z), num_le 8 (modulo64 z) (modulo_small z)) (modulo_back z (held z h))
  where
    held : (y : ℤ) → I64 y → SFits w64 y
    held (pos n) k = record { sfits = k }
    held (negsuc n) k = record { sfits = k }

-- an address, beside a value that is 0
pub address_back : (a : ℕ) → a < 2 ^ 64 → num (low_bytes 8 (modulo64 (pos 0) + a)) ≡ a
address_back a h =
    let e : 0 % 2 ^ 64 + a ≡ a = omega arith in
    ap (λ (v : ℕ). num (low_bytes 8 v)) e ∙ num_le 8 a h

-- ── cases by their numbers ──

abbrev value_in : Parts → ℕ
value_in p = num (low_bytes 8 (value_of p))

op_back : (o : Op) → Fits (op_parts o) → op_by (op_parts o).number (op_parts o).first (value_in (op_parts o)) ≡ o
op_back (Reg n) f = refl
op_back (FReg n) f = refl
op_back (Imm z) f = ap Imm (value_back z f.value)
op_back (Mem z n) f = ap (λ (x : ℤ). Mem x n) (value_back z f.value)
op_back (Addr a) f = ap Addr (address_back a f.address)
op_back (Cop0 n) f = refl

pub effect_back : (e : Effect) → Fits (effect_parts e) →
    (let p : Parts = effect_parts e in effect_by p.number p.first p.second p.size (value_in p) ≡ e)
effect_back effect.None f = refl
effect_back (effect.SetAddr t a) f = ap (effect.SetAddr t) (address_back a f.address)
effect_back (effect.AddImm t s z) f = ap (effect.AddImm t s) (value_back z f.value)
effect_back (effect.Mem t s z n) f = ap (λ (x : ℤ). effect.Mem t s x n) (value_back z f.value)
effect_back (effect.Write t) f = refl

pub flow_back : (f : Flow) → flow_by (flow_number f) ≡ f
flow_back flow.None = refl
flow_back flow.Call = refl
flow_back flow.Jump = refl
flow_back flow.CondJump = refl
flow_back flow.Ret = refl
flow_back flow.Interrupt = refl

pub target_back : (b : Bool) (t : Option ℕ) → Fits (target_parts t) →
    target_by (bit b + 2 * (target_parts t).number) (value_in (target_parts t)) ≡ t
target_back true None f = refl
target_back false None f = refl
target_back true (Some a) f = ap Some (address_back a f.address)
target_back false (Some a) f = ap Some (address_back a f.address)

pub mark_back : (b : Bool) (t : Option ℕ) → eqb ((bit b + 2 * (target_parts t).number) % 2) 1 ≡ b
mark_back true None = refl
mark_back false None = refl
mark_back true (Some a) = refl
mark_back false (Some a) = refl

-- ── the four slots ──

-- the operand of ten bytes
abbrev slot_by : Parts → Operand
slot_by p = operand (op_by p.number p.first (value_in p))

pub slot_back : (i : Insn) (k : ℕ) → Proper i → slot_by (slot_of i k) ≡ get_or i.ops k unused
slot_back i k q = go (ltb k i.count) refl
  where
    o : Op
    o = (get_or i.ops k unused).op

    go : (b : Bool) → ltb k i.count ≡ b → slot_by (slot_parts b o) ≡ get_or i.ops k unused
    go true e = ap operand (op_back o (q.operands k))
    go false e = sym (q.rest k (ltb-false k i.count e))

-- ── the whole ──

pub name_long : (k : ℕ) → length (name_bytes k) ≡ 16
unfolding name_bytes padded letters
name_long k = refl

pub insn_long : (i : Insn) → length (insn_bytes i) ≡ size
insn_long i =
    rw (
      length-append (head_bytes i ++ effect_bytes i.effect ++ operand_bytes i) (name_bytes i.mnemonic),
      name_long i.mnemonic,
    )

module _ (i : Insn) (q : Proper i) (after : List ℕ) where
  -- a number that is there
  number : (at v : ℕ) → at + 8 ≤ size → num (take 8 (drop at (insn_bytes i ++ after))) ≡ v →
      num_at 8 at (insn_bytes i ++ after) ≡ v
  number at v h e =
      in_reach 8 at (insn_bytes i ++ after) (rw (length-append (insn_bytes i) after) (omega (arith, insn_long i))) ∙ e

  slot : (k at : ℕ) → at + 8 ≤ size → num (take 8 (drop at (insn_bytes i ++ after))) ≡ value_in (slot_of i k) →
      (let p : Parts = slot_of i k in operand (op_by p.number p.first (num_at 8 at (insn_bytes i ++ after)))) ≡
      get_or i.ops k unused
  slot k at h e =
      let p : Parts = slot_of i k in
      ap (λ (v : ℕ). operand (op_by p.number p.first v)) (number at (value_in p) h e) ∙ slot_back i k q

  pub insn_back : insn_in (insn_bytes i ++ after) ≡ i
  unfolding insn_in
  insn_back =
      let t : Parts = target_parts i.target in
      let e : Parts = effect_parts i.effect in
      λ s.
      record {
        mnemonic =
            (ap kind_of (take_at (name_bytes i.mnemonic) after 16 (name_long i.mnemonic))
            ∙ theorems.back i.mnemonic q.known) s;
        count = i.count;
        ops =
            ((λ s. slot 0 26 (omega arith) refl s ∷ slot 1 36 (omega arith) refl s ∷ slot 2 46 (omega arith) refl s ∷
            slot 3 56 (omega arith) refl s ∷ []) ∙ four_slots i.ops q.four) s;
        flow = flow_back i.flow s;
        target =
            (ap (target_by (bit i.delay_slot + 2 * t.number)) (number 4 (value_in t) (omega arith) refl)
            ∙ target_back i.delay_slot i.target q.target) s;
        delay_slot = mark_back i.delay_slot i.target s;
        effect =
            (ap (effect_by e.number e.first e.second e.size) (number 16 (value_in e) (omega arith) refl)
            ∙ effect_back i.effect q.effect) s;
      }

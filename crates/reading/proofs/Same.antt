-- The derived `==` of readings is equality of every part.
use Rattle.std.proofs.Common.{◌≡◌, true, false, ℕ, Bool, Option, ◌&&◌, arith, refl, ◌∷◌, [], List}
use Rattle.std.proofs.lemmas.Grind.{common_steps}
use Rattle.reading.specs.declared.Op.{Op}
use lib.Pointwise.{pointwise}
use lib.ListN.{length, get_or}
use Rattle.reading.specs.Reading.{unused}
use Rattle.reading.specs.declared.Operand.{Operand}
use Rattle.reading.specs.declared.Insn.{Insn}
use Rattle.reading.specs.declared.Flow.{Flow}
use Rattle.reading.specs.declared.Effect.{Effect}
use Rattle.reading.specs.contracts.OpPartialEq.TheImpl as op_impl
use Rattle.reading.specs.contracts.FlowPartialEq.TheImpl as flow_impl
use Rattle.reading.specs.contracts.EffectPartialEq.TheImpl as effect_impl
use Rattle.std.specs.contracts.prelude.OptionPartialEq.TheImpl as target_impl
use Rattle.std.specs.contracts.prelude.U64PartialEq.TheImpl as u64_impl
use Rattle.std.specs.contracts.prelude.U8PartialEq.TheImpl as u8_impl
use Rattle.std.specs.contracts.prelude.BoolPartialEq.TheImpl as bool_impl
use denote.Builtin.{u64}
use Rattle.reading.specs.contracts.OperandPartialEq.TheImpl as operand_impl
use Rattle.reading.specs.contracts.InsnEq.TheImpl.Laws as insn_laws
use Rattle.reading.specs.contracts.InsnPartialEq.TheImpl as insn_impl

pub op_one : (a b : Op) → (op_impl.ghosts).eq a b ≡ true → a ≡ b
op_one a b e = grind (arith, common_steps)

pub flow_one : (a b : Flow) → (flow_impl.ghosts).eq a b ≡ true → a ≡ b
flow_one a b e = grind (arith, common_steps)

pub effect_one : (a b : Effect) → (effect_impl.ghosts).eq a b ≡ true → a ≡ b
effect_one a b e = grind (arith, common_steps)

-- the operands of two readings
pub ops_one : (xs ys : List Operand) → pointwise (operand_impl.ghosts).eq xs ys ≡ true → xs ≡ ys
ops_one [] [] e = refl
ops_one [] (y ∷ ys) e = grind (arith, common_steps)
ops_one (x ∷ xs) [] e = grind (arith, common_steps)
ops_one (x ∷ xs) (y ∷ ys) e = grind (arith, common_steps, op_one x.op y.op, ops_one xs ys)

-- both tests hold where both together do
left : (s t : Bool) → s && t ≡ true → s ≡ true
left false t e = e
left true t e = refl

right : (s t : Bool) → s && t ≡ true → t ≡ true
right false t e = grind arith
right true t e = e

target_one : (a b : Option ℕ) → (target_impl.ghosts u64 u64_impl.ghosts u64_impl.dict).eq a b ≡ true → a ≡ b
target_one a b e = grind (arith, common_steps)

byte_one : (a b : ℕ) → (u8_impl.ghosts).eq a b ≡ true → a ≡ b
byte_one a b e = grind (arith, common_steps)

mark_one : (a b : Bool) → (bool_impl.ghosts).eq a b ≡ true → a ≡ b
mark_one a b e = grind (arith, common_steps)

pub insn_by : (a b : Insn) →
    a.mnemonic ≡ b.mnemonic → a.count ≡ b.count → a.ops ≡ b.ops → a.flow ≡ b.flow → a.target ≡ b.target →
    a.delay_slot ≡ b.delay_slot → a.effect ≡ b.effect → a ≡ b
insn_by a b p q r s t u v =
    λ i.
    record {
      mnemonic = p i;
      count = q i;
      ops = r i;
      flow = s i;
      target = t i;
      delay_slot = u i;
      effect = v i;
    }

pub insn_one : (a b : Insn) → (insn_impl.ghosts).eq a b ≡ true → a ≡ b
insn_one a b e =
    let after_mnemonic = right _ _ e in
    let after_count = right _ _ after_mnemonic in
    let after_ops = right _ _ after_count in
    let after_flow = right _ _ after_ops in
    let after_target = right _ _ after_flow in
    insn_by a b (byte_one _ _ (left _ _ e)) (byte_one _ _ (left _ _ after_mnemonic)) (ops_one _ _ (left _ _ after_count))
    (flow_one _ _ (left _ _ after_ops)) (target_one _ _ (left _ _ after_flow)) (mark_one _ _ (left _ _ after_target))
    (effect_one _ _ (right _ _ after_target))

pub insn_same : (a : Insn) → (insn_impl.ghosts).eq a a ≡ true
insn_same a = insn_laws.laws-law.refl a

-- four operands, each by its place
pub four_slots : (xs : List Operand) → length xs ≡ 4 →
    get_or xs 0 unused ∷ get_or xs 1 unused ∷ get_or xs 2 unused ∷ get_or xs 3 unused ∷ [] ≡ xs
four_slots [] h = absurd (omega arith)
four_slots (a ∷ []) h = absurd (omega arith)
four_slots (a ∷ b ∷ []) h = absurd (omega arith)
four_slots (a ∷ b ∷ c ∷ []) h = absurd (omega arith)
four_slots (a ∷ b ∷ c ∷ d ∷ []) h = refl
four_slots (a ∷ b ∷ c ∷ d ∷ e ∷ xs) h = absurd (omega arith)

-- The numbers that the packed record has for an operand, an effect, a target or a flow determine it.
use Rattle.std.specs.Prelude.{None, Option, Some}
use Rattle.std.proofs.Common.{◌≡◌, ℕ, zero, suc, refl, sym, ◌∙◌, ap}
use Rattle.reading.specs.declared.Op.{Op}
use Rattle.reading.specs.declared.Op.TheVariants.{Reg, FReg, Imm, Mem, Addr, Cop0}
use Rattle.reading.specs.declared.Flow.{Flow}
use Rattle.reading.specs.declared.Flow.TheVariants as flow
use Rattle.reading.specs.declared.Effect.{Effect}
use Rattle.reading.specs.declared.Effect.TheVariants as effect
use Rattle.reading.specs.declared.Parts.{Parts}
use Rattle.reading.specs.Numbers.{op_parts, effect_parts, target_parts, flow_number}

-- ── each is put back from its numbers ──

op_from : Parts → Op
op_from p = pick p.number
  where
    pick : ℕ → Op
    pick zero = Reg 0
    pick (suc zero) = Reg p.first
    pick (suc (suc zero)) = FReg p.first
    pick (suc (suc (suc zero))) = Imm p.value
    pick (suc (suc (suc (suc zero)))) = Mem p.value p.first
    pick (suc (suc (suc (suc (suc zero))))) = Addr p.address
    pick (suc (suc (suc (suc (suc (suc n)))))) = Cop0 p.first

op_back : (o : Op) → op_from (op_parts o) ≡ o
unfolding op_from
op_back (Reg n) = refl
op_back (FReg n) = refl
op_back (Imm z) = refl
op_back (Mem z n) = refl
op_back (Addr a) = refl
op_back (Cop0 n) = refl

effect_from : Parts → Effect
effect_from p = pick p.number
  where
    pick : ℕ → Effect
    pick zero = effect.None
    pick (suc zero) = effect.SetAddr p.first p.address
    pick (suc (suc zero)) = effect.AddImm p.first p.second p.value
    pick (suc (suc (suc zero))) = effect.Mem p.first p.second p.value p.size
    pick (suc (suc (suc (suc n)))) = effect.Write p.first

effect_back : (e : Effect) → effect_from (effect_parts e) ≡ e
unfolding effect_from
effect_back effect.None = refl
effect_back (effect.SetAddr t a) = refl
effect_back (effect.AddImm t s z) = refl
effect_back (effect.Mem t s z n) = refl
effect_back (effect.Write t) = refl

target_from : Parts → Option ℕ
target_from p = pick p.number
  where
    pick : ℕ → Option ℕ
    pick zero = None
    pick (suc n) = Some p.address

target_back : (t : Option ℕ) → target_from (target_parts t) ≡ t
unfolding target_from
target_back None = refl
target_back (Some a) = refl

flow_from : ℕ → Flow
flow_from zero = flow.None
flow_from (suc zero) = flow.Call
flow_from (suc (suc zero)) = flow.Jump
flow_from (suc (suc (suc zero))) = flow.CondJump
flow_from (suc (suc (suc (suc zero)))) = flow.Ret
flow_from (suc (suc (suc (suc (suc n))))) = flow.Interrupt

flow_back : (f : Flow) → flow_from (flow_number f) ≡ f
unfolding flow_from
flow_back flow.None = refl
flow_back flow.Call = refl
flow_back flow.Jump = refl
flow_back flow.CondJump = refl
flow_back flow.Ret = refl
flow_back flow.Interrupt = refl

-- ── so they tell it apart ──

one : {A K : Type 0} (k : A → K) (from : K → A) → ((x : A) → from (k x) ≡ x) → (x y : A) → k x ≡ k y → x ≡ y
one k from back x y e = sym (back x) ∙ (ap from e ∙ back y)

pub op_parts_one : (x y : Op) → op_parts x ≡ op_parts y → x ≡ y
op_parts_one = one op_parts op_from op_back

pub effect_parts_one : (x y : Effect) → effect_parts x ≡ effect_parts y → x ≡ y
effect_parts_one = one effect_parts effect_from effect_back

pub target_parts_one : (x y : Option ℕ) → target_parts x ≡ target_parts y → x ≡ y
target_parts_one = one target_parts target_from target_back

pub flow_number_one : (x y : Flow) → flow_number x ≡ flow_number y → x ≡ y
flow_number_one = one flow_number flow_from flow_back

-- ── and the six numbers are all that `Parts` has ──

pub parts_one : (a b : Parts) →
    a.number ≡ b.number → a.first ≡ b.first → a.second ≡ b.second → a.size ≡ b.size →
    a.value ≡ b.value → a.address ≡ b.address → a ≡ b
parts_one a b p q r s t u =
    λ i. record { number = p i; first = q i; second = r i; size = s i; value = t i; address = u i }

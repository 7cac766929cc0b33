-- The operands of a row: at most four, what holds of each of them, and the slots that they are in.
use Prim.Native.Nat.{ℕ, zero, suc, ◌≤◌, ◌<◌}
use mathlib.Core.Path.{◌≡◌, refl, sym, ◌∙◌, ap, subst}
use mathlib.Core.Bool.{Bool, true, false, ◌&&◌}
use mathlib.Core.List.{List, [], ◌∷◌, map}
use native.Mathlib.Omega.{arith}
use lib.Dec.{T, eqb, leb, ltb, leb→le, ltb→lt}
use lib.ListN.{length, take, get_or, get_or-eq_default}
use Rattle.word.specs.Word.{Fields, rs, rd, sa}
use Rattle.word.specs.Numbers.{size_of}
use Rattle.reading.specs.declared.Op.{Op}
use Rattle.reading.specs.declared.Op.TheVariants.{Reg, Imm}
use Rattle.reading.specs.declared.Operand.{Operand}
use Rattle.reading.specs.Kind.{many}
use Rattle.reading.specs.Reading.{operand, unused}
use Rattle.classes.specs.Row.{Code, reg, num, Form, end, ◌▸◌, pos_size, link, Row}
use Rattle.classes.specs.Meaning.{out, outs, head, tail, first, second, third, fourth, slots}
use Rattle.classes.specs.Table.{common, by_width, table}
use Rattle.laws.proofs.Tests.{and_l, and_r, either}
use Rattle.classes.proofs.Find.{every}

-- ── how many there are ──

-- the most operands that a form has
unfoldable pub operands_in : Form → ℕ
operands_in end = 0
operands_in (c ▸ φ) = suc (operands_in φ)
operands_in pos_size = 2
operands_in link = 2

outs_length : (φ : Form) (va : ℕ) (f : Fields) → length (outs φ va f) ≤ operands_in φ
unfolding outs operands_in
outs_length end va f = omega arith
outs_length (c ▸ φ) va f = omega (arith, outs_length φ va f)
outs_length pos_size va f = omega arith
outs_length link va f =
    either (λ os. length os ≤ 2) (eqb (f rd) 31) {x = Reg (f rs) ∷ []} {y = Reg (f rd) ∷ Reg (f rs) ∷ []} (omega arith) (omega arith)

pub most_outs : (φ : Form) → operands_in φ ≤ 4 → (va : ℕ) (f : Fields) → length (outs φ va f) ≤ 4
most_outs φ h va f = omega (arith, outs_length φ va f)

-- every row has one of the mnemonics, and no more operands than there are slots
unfoldable pub known : Row → Bool
known r = ltb r.kind many && leb (operands_in r.form) 4

pub known_table : (wide : Bool) → T (every known (table wide))
unfolding every known operands_in table common by_width
known_table true = tt
known_table false = tt

module _ (r : Row) (t : T (known r)) where
  pub known_kind : r.kind < many
  unfolding known
  known_kind = ltb→lt r.kind many (and_l (ltb r.kind many) _ t)

  pub known_most : (va : ℕ) (f : Fields) → length (outs r.form va f) ≤ 4
  unfolding known
  known_most = most_outs r.form (leb→le (operands_in r.form) 4 (and_r (ltb r.kind many) _ t))

-- ── what holds of each ──

abbrev pub Each : (Op → Type 0) → List Op → Type 0
Each P [] = Unit {0}
Each P (o ∷ os) = P o × Each P os

pub each_at : (P : Op → Type 0) → P (Reg 0) → (os : List Op) → Each P os → (k : ℕ) → P (get_or os k (Reg 0))
each_at P z [] h k = z
each_at P z (o ∷ os) h zero = h.0
each_at P z (o ∷ os) h (suc k) = each_at P z os h.1 k

-- a test of each code that a form has; `ins` and `jalr` have these at their end
unfoldable pub each_code : (Code → Bool) → Form → Bool
each_code p end = true
each_code p (c ▸ φ) = p c && each_code p φ
each_code p pos_size = p (num sa)
each_code p link = p (reg rd) && p (reg rs)

-- the operands are those of the codes, and the size of `ins`
module _ (P : Op → Type 0) (p : Code → Bool) (va : ℕ) (f : Fields) (h : (c : Code) → T (p c) → P (out c va f)) (s : P (Imm (size_of (f rd) (f sa)))) where
  pub outs_each : (φ : Form) → T (each_code p φ) → Each P (outs φ va f)
  unfolding out outs each_code
  outs_each end t = tt
  outs_each (c ▸ φ) t = (h c (and_l (p c) _ t), outs_each φ (and_r (p c) _ t))
  outs_each pos_size t = (h (num sa) t, (s, tt))
  outs_each link t =
      let base : P (Reg (f rs)) = h (reg rs) (and_r (p (reg rd)) _ t) in
      either (Each P) (eqb (f rd) 31) (base, tt) (h (reg rd) (and_l (p (reg rd)) _ t), (base, tt))

-- what is asked of no code
pub any_code : (φ : Form) → T (each_code (λ c. true) φ)
unfolding each_code
any_code end = tt
any_code (c ▸ φ) = any_code φ
any_code pos_size = tt
any_code link = tt

-- ── the four slots ──

head_at : (os : List Op) → head os ≡ get_or os 0 (Reg 0)
head_at [] = refl
head_at (o ∷ os) = refl

tail_at : (os : List Op) (k : ℕ) → get_or (tail os) k (Reg 0) ≡ get_or os (suc k) (Reg 0)
tail_at [] k = refl
tail_at (o ∷ os) k = refl

module _ (os : List Op) (h : length os ≤ 4) where
  -- each operand is in its slot, and register 0 past the last
  pub slot_at : (k : ℕ) → get_or (slots os) k unused ≡ operand (get_or os k (Reg 0))
  slot_at zero = ap operand (head_at os)
  slot_at (suc zero) = ap operand (head_at (tail os) ∙ tail_at os 0)
  slot_at (suc (suc zero)) = ap operand (head_at (tail (tail os)) ∙ (tail_at (tail os) 0 ∙ tail_at os 1))
  slot_at (suc (suc (suc zero))) =
      ap operand (head_at (tail (tail (tail os))) ∙ (tail_at (tail (tail os)) 0 ∙ (tail_at (tail os) 1 ∙ tail_at os 2)))
  slot_at (suc (suc (suc (suc k)))) = ap operand (sym (get_or-eq_default os (Reg 0) {n = suc (suc (suc (suc k)))} (omega arith)))

  pub slot_past : (k : ℕ) → length os ≤ k → get_or (slots os) k unused ≡ unused
  slot_past k l = slot_at k ∙ ap operand (get_or-eq_default os (Reg 0) l)

  pub each_slot : (P : Op → Type 0) → P (Reg 0) → Each P os → (k : ℕ) → P (get_or (slots os) k unused).op
  each_slot P z e k = subst (λ (o : Operand). P o.op) (sym (slot_at k)) (each_at P z os e k)

-- what is in the slots in use, whatever is made of each
pub in_use : {A : Type 0} (g : Op → A) (os : List Op) → length os ≤ 4 → take (length os) (g (first os) ∷ g (second os) ∷ g (third os) ∷ g (fourth os) ∷ []) ≡ map g os
in_use g [] h = refl
in_use g (a ∷ []) h = refl
in_use g (a ∷ b ∷ []) h = refl
in_use g (a ∷ b ∷ c ∷ []) h = refl
in_use g (a ∷ b ∷ c ∷ d ∷ []) h = refl
in_use g (a ∷ b ∷ c ∷ d ∷ e ∷ os) h = absurd (omega arith)

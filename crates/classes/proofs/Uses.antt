-- The operands of a class are made of the fields that its row reads: a test of each row, computed. So what is not read
-- makes no difference to the reading.
use Prim.Native.Nat.{ℕ, ◌+◌}
use mathlib.Core.Path.{◌≡◌, refl, sym, ◌∙◌, ap, ap₂, subst}
use mathlib.Core.Bool.{Bool, true, false, cond, ◌||◌, beq}
use mathlib.Core.List.{List, [], ◌∷◌}
use mathlib.Core.Option.{some}
use lib.Dec.{T, eqb}
use lib.IntN.{pos}
use Rattle.word.specs.Word.{Field, same_field, rs, rt, rd, sa, funct, Fields, Fit, fields_of}
use Rattle.word.proofs.Fields.{fields_fit}
use Rattle.word.specs.Numbers.{imm, index, signed, branch_to, jump_to, size_of}
use Rattle.reading.specs.declared.Op.{Op}
use Rattle.reading.specs.declared.Op.TheVariants.{Reg, FReg, Imm, Mem, Addr, Cop0}
use Rattle.classes.specs.Row.{Pat, is, read, read_but, zeros, extra, skip_but, low, Row, pat_of}
use Rattle.classes.specs.Row.{Code, reg, freg, cop0, num, size, s16, u16, mem, br, jmp, Form, end, ◌▸◌, pos_size}
use Rattle.classes.specs.Row.{link}
use Rattle.classes.specs.Meaning.{six, find, out, outs, reading, meaning}
use Rattle.classes.specs.Table.{common, by_width, table}
use Rattle.reading.specs.Reading.{accepted_as}
use Rattle.classes.specs.Refusals.{Refusal, refusals}
use Rattle.classes.specs.Decoded.{decoded_by, decoded_of}
use Rattle.classes.specs.Theorems.{AgreeAt, Agree, Ignored}
use Rattle.laws.proofs.Tests.{or_l, or_r, beq_same}
use Rattle.classes.proofs.Tests.{six_at, self}
use Rattle.classes.proofs.Find.{every, every_found}
use Rattle.classes.proofs.Boxes.{exact}
use Rattle.classes.proofs.Accepts.{accepted_by, exact_table}

-- ── the fields that operands are made of ──

abbrev pub low16 : Field → Bool
low16 x = same_field rd x || (same_field sa x || same_field funct x)

unfoldable pub uses : Code → Field → Bool
uses (reg y) x = same_field y x
uses (freg y) x = same_field y x
uses (cop0 y) x = same_field y x
uses (num y) x = same_field y x
uses size x = same_field rd x
uses s16 x = low16 x
uses u16 x = low16 x
uses mem x = same_field rs x || low16 x
uses br x = low16 x
uses jmp x = same_field rs x || (same_field rt x || low16 x)

unfoldable pub uses_form : Form → Field → Bool
uses_form end x = false
uses_form (c ▸ φ) x = uses c x || uses_form φ x
uses_form pos_size x = same_field rd x || same_field sa x
uses_form link x = same_field rd x || same_field rs x

module _ (f g : Fields) where
  imm_same : f rd ≡ g rd → f sa ≡ g sa → f funct ≡ g funct → imm f ≡ imm g
  unfolding imm
  imm_same p q r = cc

  index_same : f rs ≡ g rs → f rt ≡ g rt → f rd ≡ g rd → f sa ≡ g sa → f funct ≡ g funct → index f ≡ index g
  unfolding index
  index_same p q r s t = cc

  out_same : (c : Code) (va : ℕ) → ((x : Field) → T (uses c x) → f x ≡ g x) → out c va f ≡ out c va g
  unfolding out uses
  out_same (reg y) va h = ap Reg (h y (self y))
  out_same (freg y) va h = ap FReg (h y (self y))
  out_same (cop0 y) va h = ap Cop0 (h y (self y))
  out_same (num y) va h = ap (λ (n : ℕ). Imm (pos n)) (h y (self y))
  out_same size va h = ap (λ (n : ℕ). Imm (pos (n + 1))) (h rd tt)
  out_same s16 va h = ap (λ (n : ℕ). Imm (signed 16 n)) (imm_same (h rd tt) (h sa tt) (h funct tt))
  out_same u16 va h = ap (λ (n : ℕ). Imm (pos n)) (imm_same (h rd tt) (h sa tt) (h funct tt))
  out_same mem va h = ap₂ (λ (n b : ℕ). Mem (signed 16 n) b) (imm_same (h rd tt) (h sa tt) (h funct tt)) (h rs tt)
  out_same br va h = ap (λ (n : ℕ). Addr (branch_to va n)) (imm_same (h rd tt) (h sa tt) (h funct tt))
  out_same jmp va h = ap (λ (n : ℕ). Addr (jump_to va n)) (index_same (h rs tt) (h rt tt) (h rd tt) (h sa tt) (h funct tt))

  pub outs_same : (φ : Form) (va : ℕ) → ((x : Field) → T (uses_form φ x) → f x ≡ g x) → outs φ va f ≡ outs φ va g
  unfolding outs uses_form
  outs_same end va h = refl
  outs_same (c ▸ φ) va h =
      ap₂ (λ (o : Op) (os : List Op). o ∷ os) (out_same c va (λ x t. h x (or_l (uses c x) (uses_form φ x) t)))
      (outs_same φ va (λ x t. h x (or_r (uses c x) (uses_form φ x) t)))
  outs_same pos_size va h = ap₂ (λ (m l : ℕ). Imm (pos l) ∷ Imm (size_of m l) ∷ []) (h rd tt) (h sa tt)
  outs_same link va h = ap₂ (λ (d s : ℕ). cond (eqb d 31) (Reg s ∷ []) (Reg d ∷ Reg s ∷ [])) (h rd tt) (h rs tt)

-- ── the test ──

unfoldable pub is_read : Pat → Bool
is_read (is v) = false
is_read read = true
is_read (read_but v) = true
is_read zeros = false
is_read extra = false
is_read (skip_but v) = false
is_read (low v) = false

pub read_agree : (p : Pat) (a b : ℕ) → T (is_read p) → AgreeAt p a b → a ≡ b
unfolding is_read
read_agree (is v) a b t e = e
read_agree read a b t e = e
read_agree (read_but v) a b t e = e
read_agree zeros a b t e = absurd t
read_agree extra a b t e = absurd t
read_agree (skip_but v) a b t e = absurd t
read_agree (low v) a b t e = absurd t

-- the operands are made of exactly the fields that the row reads
unfoldable pub made_of_read : Row → Bool
made_of_read r = six (λ x. beq (uses_form r.form x) (is_read (pat_of r x)))

meaning_same : (r : Row) (va : ℕ) (f g : Fields) → T (made_of_read r) → Agree r f g → meaning r va f ≡ meaning r va g
unfolding meaning made_of_read
meaning_same r va f g t a = ap (reading r.kind r.manner) (outs_same f g r.form va agree)
  where
    agree : (x : Field) → T (uses_form r.form x) → f x ≡ g x
    agree x u =
        read_agree (pat_of r x) (f x) (g x)
        (subst T (beq_same (uses_form r.form x) (is_read (pat_of r x)) (six_at (λ y. beq (uses_form r.form y) (is_read (pat_of r y))) t x)) u)
        (a x)

-- THE LAW for any table and any acceptance table that pass the tests
pub ignored_by : (ts : List Row) (es : List Refusal) → T (exact ts es) → T (every made_of_read ts) →
    (va : ℕ) (f g : Fields) → Fit f → Fit g →
    (r : Row) → find ts f ≡ some r → find ts g ≡ some r → Agree r f g →
    decoded_by ts es va f ≡ decoded_by ts es va g
ignored_by ts es t made va f g h k r d e a =
    accepted_by ts es t f h va r d
    ∙ (ap accepted_as (meaning_same r va f g (every_found made_of_read ts made f r d) a)
    ∙ sym (accepted_by ts es t g k va r e))

-- ── the table of the definition ──

pub made_table : (wide : Bool) → T (every made_of_read (table wide))
unfolding every made_of_read six uses_form uses is_read table common by_width
made_table true = tt
made_table false = tt

pub ignored : (w v va : ℕ) (wide : Bool) → Ignored w v va wide
unfolding decoded_of
ignored w v va wide =
    record {
      same =
          ignored_by (table wide) refusals (exact_table wide) (made_table wide) va (fields_of w) (fields_of v)
          (fields_fit w) (fields_fit v);
    }

-- Document 01's rules of marks and targets: a test of each row, computed, and what it means for every word.
use Prim.Native.Nat.{ℕ}
use mathlib.Core.Path.{◌≡◌, refl, ◌∙◌}
use mathlib.Core.Bool.{Bool, true, false, not, cond, ◌&&◌, ◌||◌, beq}
use mathlib.Core.List.{List}
use lib.Dec.{T, eqb}
use Rattle.word.specs.Word.{Fields, fields_of, rd}
use Rattle.reading.specs.declared.Op.{Op}
use Rattle.reading.specs.declared.Flow.TheVariants as flow
use Rattle.reading.specs.Kind as kind
use Rattle.reading.specs.Reading.{blank_insn}
use Rattle.classes.specs.Row.{Code, reg, freg, cop0, num, size, s16, u16, mem, br, jmp, Form, end, ◌▸◌, pos_size}
use Rattle.classes.specs.Row.{link, Row}
use Rattle.classes.specs.Row.{Control, plain, call, jump, branch, return, interrupt, by_register}
use Rattle.classes.specs.Meaning.{first, reg_of, out, outs, flow_of, mark_of, target_in, reading, meaning}
use Rattle.classes.specs.Table.{common, by_width, table}
use Rattle.classes.specs.Refusals.{Refusal, refusals}
use Rattle.classes.specs.Decoded.{decoded_by, decoded_of}
use Rattle.classes.specs.Theorems.{turns, present, Marked}
use Rattle.laws.proofs.Tests.{and_l, and_r, either, beq_same}
use Rattle.classes.proofs.Find.{every, reading_by_lem}

-- ── the mark ──

-- Call, Jump and CondJump, whatever the operands are
unfoldable pub turning : Control → Bool
turning plain = false
turning call = true
turning jump = true
turning branch = true
turning return = false
turning interrupt = false
turning by_register = false

marks : (c : Control) (j : Bool) (os : List Op) → mark_of c ≡ (turning c || j) → mark_of c ≡ (turns (flow_of c os) || j)
unfolding mark_of turning flow_of
marks plain j os e = e
marks call j os e = e
marks jump j os e = e
marks branch j os e = e
marks return j os e = e
marks interrupt j os e = e
marks by_register j os e = go (eqb (reg_of (first os)) 31) j e
  where
    go : (b j : Bool) → true ≡ j → true ≡ (turns (cond b flow.Ret flow.Jump) || j)
    go true j d = d
    go false j d = refl

-- ── the target ──

unfoldable pub places : Code → Bool
places (reg x) = false
places (freg x) = false
places (cop0 x) = false
places (num x) = false
places size = false
places s16 = false
places u16 = false
places mem = false
places br = true
places jmp = true

unfoldable pub targeted : Form → Bool
targeted end = false
targeted (c ▸ φ) = places c || targeted φ
targeted pos_size = false
targeted link = false

presents : (φ : Form) (va : ℕ) (f : Fields) → present (target_in (outs φ va f)) ≡ targeted φ
unfolding target_in outs out places targeted
presents end va f = refl
presents (reg x ▸ φ) va f = presents φ va f
presents (freg x ▸ φ) va f = presents φ va f
presents (cop0 x ▸ φ) va f = presents φ va f
presents (num x ▸ φ) va f = presents φ va f
presents (size ▸ φ) va f = presents φ va f
presents (s16 ▸ φ) va f = presents φ va f
presents (u16 ▸ φ) va f = presents φ va f
presents (mem ▸ φ) va f = presents φ va f
presents (br ▸ φ) va f = refl
presents (jmp ▸ φ) va f = refl
presents pos_size va f = refl
presents link va f = either (λ os. present (target_in os) ≡ false) (eqb (f rd) 31) refl refl

-- ── the test ──

-- the rule of the mark, and that of the target
unfoldable pub mark_ruled : Row → Bool
mark_ruled r = beq (mark_of r.manner.control) (turning r.manner.control || eqb r.kind kind.jr)

unfoldable pub target_ruled : Row → Bool
target_ruled r =
    beq (targeted r.form)
    (mark_of r.manner.control && not (eqb r.kind kind.jr || eqb r.kind kind.jalr))

unfoldable pub ruled : Row → Bool
ruled r = mark_ruled r && target_ruled r

marked_row : (r : Row) (va : ℕ) (f : Fields) → T (ruled r) → Marked (meaning r va f)
unfolding ruled mark_ruled target_ruled meaning reading
marked_row r va f t =
    let os = outs r.form va f in
    record {
      mark = marks r.manner.control (eqb r.kind kind.jr) os (beq_same _ _ (and_l (mark_ruled r) _ t));
      target = presents r.form va f ∙ beq_same _ _ (and_r (mark_ruled r) _ t);
    }

-- THE LAW for any table whose rows pass the test
pub marked_by : (ts : List Row) (es : List Refusal) → T (every ruled ts) → (va : ℕ) (f : Fields) →
    Marked (decoded_by ts es va f).insn
marked_by ts es t va f = reading_by_lem Marked ruled blank_marked ts es t va f (λ r. marked_row r va f)
  where
    blank_marked : Marked blank_insn
    blank_marked = record { mark = refl; target = refl }

-- ── the table of the definition ──

ruled_table : (wide : Bool) → T (every ruled (table wide))
unfolding every ruled mark_ruled target_ruled mark_of turning targeted places table common by_width
ruled_table true = tt
ruled_table false = tt

pub marked : (w va : ℕ) (wide : Bool) → Marked (decoded_of w va wide).insn
unfolding decoded_of
marked w va wide = marked_by (table wide) refusals (ruled_table wide) va (fields_of w)

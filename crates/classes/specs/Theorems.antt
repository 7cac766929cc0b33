-- WHAT IS PROVED OF THE DEFINITION, for every word, address and width flag. The proofs are in proofs/Proved.antt.
use Rattle.std.specs.Prelude.{ℕ, ◌+◌, ◌%◌, ◌≡◌, Bool, true, false, not, cond}
use Rattle.std.specs.Prelude.{◌&&◌, ◌||◌, List, [], ◌∷◌, map, eqb, None, Option, Some}
use Rattle.std.proofs.Math.Option.{some}
use Rattle.word.specs.Word.{Field, Fields, fields_of, op, rs, rt, rd, funct}
use Rattle.reading.specs.declared.Op.TheVariants.{Reg}
use Rattle.reading.specs.declared.Flow.{Flow}
use Rattle.reading.specs.declared.Flow.TheVariants as flow
use Rattle.reading.specs.declared.Insn.{Insn}
use Rattle.reading.specs.Reading.{refused_of, accepted_as}
use Rattle.reading.specs.Kind as kind
use Rattle.classes.specs.Row.{Pat, is, read, read_but, zeros, extra, skip_but, low, Row, pat_of}
use Rattle.classes.specs.Meaning.{takes, find, reading}
use Rattle.classes.specs.Table.{computes, table}
use Rattle.classes.specs.Decoded.{decoded_of}
use Rattle.classes.specs.Unread.{unread_by, listed}

-- ── acceptance ──

-- how many rows take the word
unfoldable pub taking : List Row → Fields → ℕ
taking [] f = 0
taking (r ∷ ts) f = cond (takes r f) 1 0 + taking ts f

-- number 0: exactly one row takes the word. Another number: no row does, and the reading is blank
pub record Acceptance (w va : ℕ) (wide : Bool) : Type 0 where
  pub accepted : (decoded_of w va wide).number ≡ 0 → taking (table wide) (fields_of w) ≡ 1
  pub refused : ¬ ((decoded_of w va wide).number ≡ 0) → taking (table wide) (fields_of w) ≡ 0
  pub blank : ¬ ((decoded_of w va wide).number ≡ 0) → decoded_of w va wide ≡ refused_of (decoded_of w va wide).number

-- ── the fields that are not read ──

-- row by row, the table's columns say what document 01's list says
abbrev pub Unread : Bool → Type 0
Unread wide = map unread_by (table wide) ≡ map (λ r. listed r.kind) (table wide)

-- two values of a field are the same as far as a class that asks this of the field reads it
abbrev pub AgreeAt : Pat → ℕ → ℕ → Type 0
AgreeAt (is v) a b = a ≡ b
AgreeAt read a b = a ≡ b
AgreeAt (read_but v) a b = a ≡ b
AgreeAt zeros a b = Unit {0}
AgreeAt extra a b = Unit {0}
AgreeAt (skip_but v) a b = Unit {0}
AgreeAt (low v) a b = a % 4 ≡ b % 4

abbrev pub Agree : Row → Fields → Fields → Type 0
Agree r f g = (x : Field) → AgreeAt (pat_of r x) (f x) (g x)

-- what is not read makes no difference: two words of one class that agree in the fields which the class reads have one
-- answer
pub record Ignored (w v va : ℕ) (wide : Bool) : Type 0 where
  pub same : (r : Row) →
      find (table wide) (fields_of w) ≡ some r →
      find (table wide) (fields_of v) ≡ some r →
      Agree r (fields_of w) (fields_of v) →
      decoded_of w va wide ≡ decoded_of v va wide

-- ── marks and targets ──

abbrev pub turns : Flow → Bool
turns flow.None = false
turns flow.Call = true
turns flow.Jump = true
turns flow.CondJump = true
turns flow.Ret = false
turns flow.Interrupt = false

abbrev pub present : Option ℕ → Bool
present None = false
present (Some a) = true

-- the mark is set exactly if flow is Call, Jump or CondJump, or the word is `jr`; a target is present exactly if the
-- mark is set and the word is neither `jr` nor `jalr`
pub record Marked (i : Insn) : Type 0 where
  pub mark : i.delay_slot ≡ (turns i.flow || eqb i.mnemonic kind.jr)
  pub target : present i.target ≡ (i.delay_slot && not (eqb i.mnemonic kind.jr || eqb i.mnemonic kind.jalr))

-- ── the width flag ──

-- SPECIAL 45 with rt zero
abbrev pub Flagged : Fields → Type 0
Flagged f = (f op ≡ 0) × (f funct ≡ 45) × (f rt ≡ 0)

pub record Width (w va : ℕ) : Type 0 where
  pub same : ¬ Flagged (fields_of w) → decoded_of w va true ≡ decoded_of w va false
  pub wide : Flagged (fields_of w) →
      decoded_of w va true ≡ accepted_as (reading kind.move computes (Reg (fields_of w rd) ∷ Reg (fields_of w rs) ∷ []))
  pub narrow : Flagged (fields_of w) →
      decoded_of w va false
      ≡ accepted_as (reading kind.daddu computes (Reg (fields_of w rd) ∷ Reg (fields_of w rs) ∷ Reg 0 ∷ []))

-- ── all of it ──

pub record Theorems : Type 0 where
  pub acceptance : (w va : ℕ) (wide : Bool) → Acceptance w va wide
  pub unread : (wide : Bool) → Unread wide
  pub ignored : (w v va : ℕ) (wide : Bool) → Ignored w v va wide
  pub marked : (w va : ℕ) (wide : Bool) → Marked (decoded_of w va wide).insn
  pub width : (w va : ℕ) → Width w va

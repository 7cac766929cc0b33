-- The width flag changes SPECIAL 45 with rt zero, and nothing else.
use Prim.Native.Nat.{ℕ, ◌≤◌}
use mathlib.Core.Path.{◌≡◌, refl, sym, ◌∙◌, ap}
use mathlib.Core.Bool.{Bool, true, false, not, cond, ◌&&◌}
use mathlib.Core.List.{List, [], ◌∷◌, ◌++◌}
use mathlib.Core.Option.{Option, none, some}
use native.Mathlib.Omega.{arith}
use lib.Dec.{T, eqb}
use borrow.Author.Tests.{eq-eqb, eqb-true}
use Rattle.word.specs.Word.{Fields, Fit, fields_of, op, rs, rt, rd, funct}
use Rattle.word.proofs.Fields.{fields_fit}
use Rattle.reading.specs.declared.Op.TheVariants.{Reg}
use Rattle.reading.specs.declared.Insn.{Insn}
use Rattle.reading.specs.Kind as kind
use Rattle.classes.specs.Row.{Row, Pat, is, read, read_but, zeros}
use Rattle.classes.specs.Meaning.{match, six, takes, find, out, outs, reading, meaning}
use Rattle.classes.specs.Table.{row, rd_rs, rd_rs_rt, computes, common, by_width, table}
use Rattle.classes.specs.Refusals.{Refusal, refusal, refusals}
use Rattle.reading.specs.Reading.{accepted_as}
use Rattle.classes.specs.Decoded.{reading_by, decoded_by, decoded_of}
use Rattle.classes.specs.Theorems.{taking, Flagged, Width}
use Rattle.classes.proofs.Boxes.{exact, taken_or_refused}
use Rattle.classes.proofs.Accepts.{none_taking, accepted_by, exact_table}
use Rattle.classes.proofs.Find.{or_else, find_append, taking_append}

-- ── elsewhere ──

-- the rows of SPECIAL 45
move_row : Row
move_row = row kind.move (is 0) read (is 0) read zeros (is 45) rd_rs computes

-- with what it asks of rt
daddu_row : Pat → Row
daddu_row p = row kind.daddu (is 0) read p read zeros (is 45) rd_rs_rt computes

-- what they make of a word, by the tests of op, rt and funct
rest : (f : Fields) (va : ℕ) (o t n : Bool) → (o ≡ true → t ≡ true → n ≡ true → ⊥) →
    reading_by
    (cond ((o && (t && n)) && true) (some move_row) (cond ((o && (not t && n)) && true) (some (daddu_row (read_but 0))) none))
    va f
    ≡ reading_by (cond ((o && n) && true) (some (daddu_row read)) none) va f
unfolding meaning move_row daddu_row
rest f va false t n h = refl
rest f va true true false h = refl
rest f va true true true h = absurd (h refl refl refl)
rest f va true false false h = refl
rest f va true false true h = refl

rest_same : (f : Fields) (va : ℕ) → ¬ Flagged f →
    reading_by (find (by_width true) f) va f ≡ reading_by (find (by_width false) f) va f
unfolding by_width find takes six match move_row daddu_row
rest_same f va h =
    rest f va (eqb (f op) 0) (eqb (f rt) 0) (eqb (f funct) 45)
    (λ o t n. h (eqb-true (f op) 0 o, eqb-true (f funct) 45 n, eqb-true (f rt) 0 t))

same_reading : (ts : List Row) (f : Fields) (va : ℕ) → ¬ Flagged f →
    reading_by (find (ts ++ by_width true) f) va f ≡ reading_by (find (ts ++ by_width false) f) va f
same_reading ts f va h =
    ap (λ (o : Option Row). reading_by o va f) (find_append ts (by_width true) f)
    ∙ (go (find ts f) ∙ ap (λ (o : Option Row). reading_by o va f) (sym (find_append ts (by_width false) f)))
  where
    go : (o : Option Row) →
        reading_by (or_else o (find (by_width true) f)) va f ≡ reading_by (or_else o (find (by_width false) f)) va f
    go none = rest_same f va h
    go (some r) = refl

-- ── there ──

-- the row that takes SPECIAL 45 with rt zero
abbrev there : Bool → Row
there true = move_row
there false = daddu_row read

found_there : (wide : Bool) (f : Fields) → Flagged f → find (by_width wide) f ≡ some (there wide)
unfolding by_width find takes six match move_row daddu_row
found_there true f h = rw (eq-eqb (f op) 0 h.0, eq-eqb (f funct) 45 h.1, eq-eqb (f rt) 0 h.2)
found_there false f h = rw (eq-eqb (f op) 0 h.0, eq-eqb (f funct) 45 h.1)

taking_there : (wide : Bool) (f : Fields) → Flagged f → 1 ≤ taking (by_width wide) f
unfolding by_width taking takes six match
taking_there true f h = rw (eq-eqb (f op) 0 h.0, eq-eqb (f funct) 45 h.1, eq-eqb (f rt) 0 h.2) (omega arith)
taking_there false f h = rw (eq-eqb (f op) 0 h.0, eq-eqb (f funct) 45 h.1) (omega arith)

-- THE LAWS for any rows before these, and any acceptance table that passes the test with them
module _ (ts : List Row) (es : List Refusal) (va : ℕ) (f : Fields) where
  pub same_by : ¬ Flagged f → decoded_by (ts ++ by_width true) es va f ≡ decoded_by (ts ++ by_width false) es va f
  unfolding decoded_by
  same_by h = ap (λ (i : Insn). record { number = refusal es f; insn = i }) (same_reading ts f va h)

  -- no other row takes the word
  decoded_there : (wide : Bool) → T (exact (ts ++ by_width wide) es) → Fit f → Flagged f →
      decoded_by (ts ++ by_width wide) es va f ≡ accepted_as (meaning (there wide) va f)
  decoded_there wide t fit h = accepted_by (ts ++ by_width wide) es t f fit va (there wide) found
    where
      alone : taking ts f ≡ 0
      alone =
          omega (
            arith,
            taken_or_refused (ts ++ by_width wide) es t f fit,
            taking_append ts (by_width wide) f,
            taking_there wide f h,
          )

      found : find (ts ++ by_width wide) f ≡ some (there wide)
      found =
          find_append ts (by_width wide) f
          ∙ (ap (λ (o : Option Row). or_else o (find (by_width wide) f)) (none_taking ts f alone) ∙ found_there wide f h)

  pub move_by : T (exact (ts ++ by_width true) es) → Fit f → Flagged f →
      decoded_by (ts ++ by_width true) es va f ≡ accepted_as (reading kind.move computes (Reg (f rd) ∷ Reg (f rs) ∷ []))
  unfolding meaning outs out move_row
  move_by t fit h = decoded_there true t fit h

  pub daddu_by : T (exact (ts ++ by_width false) es) → Fit f → Flagged f →
      decoded_by (ts ++ by_width false) es va f
      ≡ accepted_as (reading kind.daddu computes (Reg (f rd) ∷ Reg (f rs) ∷ Reg 0 ∷ []))
  unfolding meaning outs out daddu_row
  daddu_by t fit h =
      decoded_there false t fit h
      ∙ ap (λ (n : ℕ). accepted_as (reading kind.daddu computes (Reg (f rd) ∷ Reg (f rs) ∷ Reg n ∷ []))) h.2

-- ── the table of the definition ──

pub width : (w va : ℕ) → Width w va
unfolding decoded_of table
width w va =
    record {
      same = same_by common refusals va (fields_of w);
      wide = move_by common refusals va (fields_of w) (exact_table true) (fields_fit w);
      narrow = daddu_by common refusals va (fields_of w) (exact_table false) (fields_fit w);
    }

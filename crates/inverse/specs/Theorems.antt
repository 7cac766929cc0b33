-- DEMAND 3, stated over demand 2's definition: when two words share a reading, and which word a reading gets. The
-- proofs are in proofs/Proved.antt.
use Rattle.inverse.specs.Encoded.{Encoded, Encodes}
use Rattle.std.specs.Prelude.{ℕ, ◌<◌, ◌≤◌, ◌≡◌, Bool, List, ◌↔◌, T}
use Rattle.std.proofs.Math.Option.{some}
use Rattle.word.specs.Word.{fields_of, words}
use Rattle.reading.specs.declared.Insn.{Insn}
use Rattle.reading.specs.declared.Decoded.{Decoded}
use Rattle.classes.specs.Row.{Row}
use Rattle.classes.specs.Meaning.{find}
use Rattle.classes.specs.Table.{table}
use Rattle.classes.specs.Refusals.{Refusal, refusals}
use Rattle.classes.specs.Decoded.{decoded_by, decoded_of}
use Rattle.inverse.specs.Same.{Alike}
use Rattle.inverse.specs.Least.{Least}

abbrev pub Accepted : (ℕ → Decoded) → ℕ → Type 0
Accepted answer w = (answer w).number ≡ 0

-- of the answers to all words at an address, by a table of classes
pub record Demand3 (answer : ℕ → Decoded) (ts : List Row) (va : ℕ) : Type 0 where
  -- two accepted words have the same reading exactly when they are alike
  pub same : (w v : ℕ) → Accepted answer w → Accepted answer v →
      ((answer w).insn ≡ (answer v).insn) ↔ Alike ts va (fields_of w) (fields_of v)
  -- any reading at all has an answer of the encoder, and only one
  pub answered : (i : Insn) → (e : Encoded) × Encodes answer i e
  pub unique : (i : Insn) (d e : Encoded) → Encodes answer i d → Encodes answer i e → d ≡ e
  -- the reading of an accepted word is encoded to a word with the same answer, no larger than the first
  pub restored : (w : ℕ) (e : Encoded) → w < words → Accepted answer w → Encodes answer (answer w).insn e →
      (e.number ≡ 0) × (answer e.word ≡ answer w) × (e.word ≤ w)

-- for every address and width flag; and for any table of classes and acceptance table that pass a test, as those of the
-- definition do (it is `good` in proofs/Good.antt)
pub record Theorems (test : List Row → List Refusal → Bool) : Type 0 where
  pub definition : (wide : Bool) (va : ℕ) → Demand3 (λ w. decoded_of w va wide) (table wide) va
  pub tables : (ts : List Row) (es : List Refusal) → T (test ts es) → (va : ℕ) →
      Demand3 (λ w. decoded_by ts es va (fields_of w)) ts va
  pub passed : (wide : Bool) → T (test (table wide) refusals)
  -- the word that the reading of an accepted word gets has zeros in what its class does not read, or needs rs 1
  pub least : (wide : Bool) (va w : ℕ) (e : Encoded) (r : Row) → w < words →
      Accepted (λ v. decoded_of v va wide) w → Encodes (λ v. decoded_of v va wide) (decoded_of w va wide).insn e →
      find (table wide) (fields_of e.word) ≡ some r → Least r e.word

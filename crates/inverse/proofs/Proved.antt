-- What specs/Theorems.antt states, proved: for any tables that pass the test, and for those of the definition. And what
-- an encoder has to do: try the candidate, read it back and compare.
-- How: each operand puts bits into a word (`part`, one line for each way of making an operand,
-- specs/Private/Fill.antt), and the operands of a word put its own fields back (`fill_law`, Fill.antt). So the operands
-- of a row tell the fields that they are made of, which is `same` (Same.antt). Put into the row's least word, they give
-- a word of the row that is no larger than the one they came from (`own`, Rows.antt), or of its twin (`twin_within`,
-- Twins.antt). If any word has a reading, the candidate of the mnemonic's first fitting row then has it and is the
-- smallest (`smallest_law`, Smallest.antt). Its fields are those of the word where the row reads them, and the least
-- elsewhere (`restored`, Restored.antt), which is `least`; Later.antt says when that row is the word's own.
-- The test is `good` (Good.antt): each word is in one row or refused (`exact`); a row's operands are made of exactly
-- the fields that it reads, none twice, at most four; the values of its other fields can be the least ones; and a row
-- has the mnemonic of a later one only if it is its twin, with the same manner and with words that are no larger.
use Rattle.inverse.specs.Encoded.{Encoded, Has, encoded_as, Encodes, smallest, no_word}
use Prim.Native.Nat.{ℕ, ◌<◌, ◌≤◌}
use mathlib.Core.Path.{◌≡◌, refl, sym, ◌∙◌, ap}
use mathlib.Core.Bool.{Bool, true, false}
use mathlib.Core.List.{List}
use mathlib.Core.Option.{Option, none, some, none-ne-some, some-injective}
use native.Mathlib.Decide.{ℕ_discrete}
use native.Mathlib.Omega.{arith}
use borrow.Author.Tests.{ltb-true, ltb-false}
use lib.Dec.{ltb}
use Rattle.refusal.specs.Numbers as refusal
use Rattle.word.specs.Word.{fields_of, words}
use Rattle.reading.specs.declared.Insn.{Insn}
use Rattle.reading.specs.declared.Decoded.{Decoded}
use Rattle.classes.specs.Row.{Row}
use Rattle.classes.specs.Meaning.{find, int_of}
use Rattle.classes.specs.Table.{table}
use Rattle.classes.specs.Refusals.{Refusal, refusals}
use Rattle.reading.specs.Reading.{accepted_as}
use Rattle.classes.specs.Decoded.{decoded_of}
use Rattle.classes.proofs.Accepts.{accepted_as_lem, accepted_insn}
use Rattle.inverse.specs.Least.{Least}
use Rattle.inverse.specs.Theorems.{Accepted, Demand3, Theorems}
use Rattle.inverse.proofs.Good.{good}
use Rattle.inverse.proofs.Computed.{good_table, rotating_table}
use Rattle.inverse.proofs.Decide.{insn}
use Rattle.inverse.specs.Private.Candidate.{candidate, pick, operand_at, Tries}
use Rattle.inverse.proofs.Tables.{Good, good_is}
use Rattle.inverse.proofs.Smallest.{answer_by, smallest_law}
use Rattle.inverse.proofs.Restored.{least_law}
use Rattle.inverse.proofs.Same.{same_law}

abbrev encoded_to : ℕ → ℕ → Encoded
encoded_to n w = record { number = n; word = w }

-- ── there is one answer ──

pub unique : (answer : ℕ → Decoded) (i : Insn) (d e : Encoded) → Encodes answer i d → Encodes answer i e → d ≡ e
unique answer i d e (smallest p h l) (smallest q k m) =
    let a : d.word ≤ e.word = l e.word k in
    let b : e.word ≤ d.word = m d.word h in
    let w : d.word ≡ e.word = omega arith in
    λ t. encoded_to ((p ∙ sym q) t) (w t)
unique answer i d e (smallest p h l) (no_word q z n) = absurd (n d.word h)
unique answer i d e (no_word p y m) (smallest q k l) = absurd (m e.word k)
unique answer i d e (no_word p y m) (no_word q z n) = λ t. encoded_to ((p ∙ sym q) t) ((y ∙ sym z) t)

small : (w : ℕ) → Dec (w < words)
small w = go (ltb w words) refl
  where
    go : (b : Bool) → ltb w words ≡ b → Dec (w < words)
    go true e = yes (ltb-true w words e)
    go false e = no (λ l. let m : words ≤ w = ltb-false w words e in absurd (omega arith))

-- whether a word has a reading can be decided
has : (answer : ℕ → Decoded) (i : Insn) (w : ℕ) → Dec (Has answer i w)
has answer i w = go (small w) (ℕ_discrete (answer w).number 0) (insn (answer w).insn i)
  where
    go : Dec (w < words) → Dec ((answer w).number ≡ 0) → Dec ((answer w).insn ≡ i) → Dec (Has answer i w)
    go (yes l) (yes z) (yes e) = yes (record { small = l; reads = accepted_as_lem (answer w) i z e })
    go (yes l) (yes z) (no n) = no (λ h. n (ap (λ (d : Decoded). d.insn) h.reads))
    go (yes l) (no n) d = no (λ h. n (ap (λ (e : Decoded). e.number) h.reads))
    go (no n) c d = no (λ h. n h.small)

-- ── any tables that pass the test ──

module _ (ts : List Row) (es : List Refusal) (ok : Good ts es) (va : ℕ) where
  abbrev answer : ℕ → Decoded
  answer w = answer_by ts es va w

  -- what is tried has the reading: it is the answer. It has not: no word has
  pub tried : (i : Insn) (c : ℕ) → Tries ts va i c → Has answer i c → Encodes answer i (encoded_as c)
  tried i c t h = smallest refl h (λ w k. (smallest_law ts es ok va i c t w k).1)

  pub failed : (i : Insn) (c : ℕ) → Tries ts va i c → ¬ Has answer i c → Encodes answer i (encoded_to 9 0)
  failed i c t n = no_word refl refl (λ w h. n (smallest_law ts es ok va i c t w h).0)

  unpicked : (i : Insn) → pick ts i.mnemonic (int_of (operand_at i.ops 1)) ≡ none → (c : ℕ) → Tries ts va i c
  unpicked i e c h d = absurd (none-ne-some h (sym e ∙ d))

  pub picked : (i : Insn) (h : Row) → pick ts i.mnemonic (int_of (operand_at i.ops 1)) ≡ some h →
      Tries ts va i (candidate h va i.count (operand_at i.ops))
  picked i h e k d = ap (λ (x : Row). candidate x va i.count (operand_at i.ops)) (some-injective h k (sym e ∙ d))

  by_trying : (i : Insn) (c : ℕ) → Tries ts va i c → (e : Encoded) × Encodes answer i e
  by_trying i c t = elim (has answer i c) [ yes h ↦ (encoded_as c, tried i c t h) | no n ↦ (encoded_to 9 0, failed i c t n) ]

  pub answered : (i : Insn) → (e : Encoded) × Encodes answer i e
  answered i = go (pick ts i.mnemonic (int_of (operand_at i.ops 1))) refl
    where
      go : (o : Option Row) → pick ts i.mnemonic (int_of (operand_at i.ops 1)) ≡ o → (e : Encoded) × Encodes answer i e
      go none e = by_trying i 0 (unpicked i e 0)
      go (some h) e = by_trying i (candidate h va i.count (operand_at i.ops)) (picked i h e)

  restored : (w : ℕ) (e : Encoded) → w < words → Accepted answer w → Encodes answer (answer w).insn e →
      (e.number ≡ 0) × (answer e.word ≡ answer w) × (e.word ≤ w)
  restored w e l z (smallest p h m) =
      (p, h.reads ∙ sym (accepted_insn (answer w) z), m w (record { small = l; reads = accepted_insn (answer w) z }))
  restored w e l z (no_word p y n) = absurd (n w (record { small = l; reads = accepted_insn (answer w) z }))

  pub demand3 : Demand3 answer ts va
  demand3 =
      record {
        same = same_law ts es ok va;
        answered = answered;
        unique = unique answer;
        restored = restored;
      }

-- ── the tables of the definition ──

pub good_of : (wide : Bool) → Good (table wide) refusals
good_of wide = good_is (table wide) refusals (good_table wide)

-- what an encoder has to show of its answer
pub encoded : (wide : Bool) (va : ℕ) (i : Insn) (c : ℕ) → Tries (table wide) va i c → c < words → decoded_of c va wide ≡ accepted_as i →
    Encodes (λ w. decoded_of w va wide) i (encoded_as c)
unfolding decoded_of
encoded wide va i c t l e = tried (table wide) refusals (good_of wide) va i c t (record { small = l; reads = e })

pub refused : (wide : Bool) (va : ℕ) (i : Insn) (c : ℕ) → Tries (table wide) va i c → ¬ (decoded_of c va wide ≡ accepted_as i) →
    (e : Encoded) → e.number ≡ refusal.no_word → e.word ≡ 0 → Encodes (λ w. decoded_of w va wide) i e
unfolding decoded_of
refused wide va i c t n e p q = no_word p q (λ w h. n (smallest_law (table wide) refusals (good_of wide) va i c t w h).0.reads)

least : (wide : Bool) (va w : ℕ) (e : Encoded) (r : Row) → w < words →
    Accepted (λ v. decoded_of v va wide) w → Encodes (λ v. decoded_of v va wide) (decoded_of w va wide).insn e →
    find (table wide) (fields_of e.word) ≡ some r → Least r e.word
unfolding decoded_of
least wide va = least_law (table wide) refusals (good_of wide) (rotating_table wide) va

by_definition : (wide : Bool) (va : ℕ) → Demand3 (λ w. decoded_of w va wide) (table wide) va
unfolding decoded_of
by_definition wide va = demand3 (table wide) refusals (good_of wide) va

-- DEMAND 3
pub theorems : Theorems good
theorems =
    record {
      definition = by_definition;
      tables = λ ts es t va. demand3 ts es (good_is ts es t) va;
      passed = good_table;
      least = least;
    }

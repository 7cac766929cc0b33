-- DOCUMENT 01'S ATTACKS: answers that are wrong and would pass a careless reader do not meet the contracts. Each is
-- stated of one case where it is wrong; that no other wrong answer meets them is what Theorems.antt says.
use Rattle.std.specs.Prelude.{ℕ, suc, ◌<◌, ◌≡◌, Bool, true, false, List, [], ◌∷◌, ◌++◌, get_or, replicate, Result}
use contract.Lifetimes.{Lfts}
use Rattle.std.specs.Borrow.{Bor, MutBor}
use Rattle.refusal.specs.declared.Refusal.{Refusal}
use Rattle.reading.specs.declared.Insn.{Insn}
use Rattle.reading.specs.declared.Decoded.{Decoded}
use Rattle.reading.specs.Reading.{refused_of, answer_of}
use Rattle.decode.proofs.decode_word.Kinds as decode-word-kinds
use Rattle.decode.proofs.decode_word.Reads as decode_word
use Rattle.buffers.specs.Bytes.{over}
use Rattle.record.proofs.pack.Kinds as pack-kinds
use Rattle.record.proofs.pack.Reads as pack
use Rattle.line.specs.Line.{plain}
use Rattle.body.specs.declared.View.{View}
use Rattle.pages.specs.declared.extent.Page.{Page}
use Rattle.pages.specs.Lines.{lines_from}
use Rattle.pages.specs.Page.{Paged, paging_of, word_line, page_of}
use Rattle.pages.proofs.page.Kinds as page-kinds
use Rattle.pages.proofs.page.Reads as page
use Rattle.contracts.specs.Exact.{Meets}

-- ── decoding ──

-- an answer of this number and reading meets the contract
abbrev pub Decodes : Lfts 0 → ℕ → ℕ → Bool → Decoded → Type 0
Decodes κs w va wide d =
    (x : Result Insn Refusal) × (answer_of x ≡ d) ×
    Meets decode-word-kinds.ps decode-word-kinds.r decode_word.Learnt κs (w, (va, (wide, tt))) x (tt, (tt, (tt, tt)))

-- refusing everything: word 0 is `nop`, and no refusal of it meets the contract
abbrev pub Refusing : Type 0
Refusing = (κs : Lfts 0) (va : ℕ) (wide : Bool) (number : ℕ) → ¬ Decodes κs 0 va wide (refused_of (suc number))

-- one reading for all words
abbrev pub OneReading : Type 0
OneReading = (κs : Lfts 0) (d : Decoded) → ¬ ((w va : ℕ) (wide : Bool) → Decodes κs w va wide d)

-- ── the record ──

-- an untouched record: 80 bytes 255 are not the record of any answer, so they do not stay, whatever number is answered
abbrev pub UntouchedRecord : Type 0
UntouchedRecord =
    (κs : Lfts 1) (d : Decoded) (out : MutBor (List ℕ)) (number : ℕ) → out.now ≡ replicate 80 255 →
    ¬ Meets pack-kinds.ps pack-kinds.r pack.Learnt κs (d, (out, tt)) number (tt, (out.now, tt))

-- ── the page ──

-- document 01's example: six big-endian words at 80001000
abbrev pub example : List ℕ
example =
    0x3c ∷ 0x04 ∷ 0x80 ∷ 0x00 ∷ 0x0c ∷ 0x00 ∷ 0x04 ∷ 0x03 ∷ 0x8c ∷ 0x82 ∷ 0x00 ∷ 0x10 ∷
    0x03 ∷ 0xe0 ∷ 0x00 ∷ 0x08 ∷ 0x00 ∷ 0x00 ∷ 0x00 ∷ 0x00 ∷ 0x7c ∷ 0x00 ∷ 0x00 ∷ 0x01 ∷
    []

abbrev pub view : View
view = record { va = 0x80001000; big_endian = true; wide = false }

-- the example in a lent slice is listed from its start on into another, of 300 bytes 0, which is more than its lines
-- have; an answer of number, words and bytes x is given, and l is left there. The contract is met
pub record Lists (κs : Lfts 2) (body : Bor (List ℕ)) (out : MutBor (List ℕ)) (x : Paged) (l : List ℕ) : Type 0 where
  pub is_example : body.now ≡ example
  pub is_blank : out.now ≡ replicate 300 0
  pub meets :
      (r : Result Page Refusal) × (paging_of r ≡ x) ×
      Meets page-kinds.ps page-kinds.r page.Learnt κs (body, (view, (0, (out, (0, tt))))) r
      (tt, (tt, (tt, (l, (tt, tt)))))

-- an untouched page
abbrev pub UntouchedPage : Type 0
UntouchedPage =
    (κs : Lfts 2) (body : Bor (List ℕ)) (out : MutBor (List ℕ)) (x : Paged) →
    ¬ Lists κs body out x (replicate 300 0)

-- a true first line and mere spaces below
abbrev pub SpacesBelow : Type 0
SpacesBelow =
    (κs : Lfts 2) (body : Bor (List ℕ)) (out : MutBor (List ℕ)) (x : Paged) (n : ℕ) →
    ¬ Lists κs body out x (word_line plain view example 0 ++ replicate n 32)

-- invented words: more than there are
abbrev pub InventedWords : Type 0
InventedWords =
    (κs : Lfts 2) (body : Bor (List ℕ)) (out : MutBor (List ℕ)) (x : Paged) (l : List ℕ) → 6 < x.words →
    ¬ Lists κs body out x l

-- invented bytes: something after the last line
abbrev pub InventedBytes : Type 0
InventedBytes =
    (κs : Lfts 2) (body : Bor (List ℕ)) (out : MutBor (List ℕ)) (x : Paged) (l : List ℕ) →
    ¬ (get_or l 299 0 ≡ 0) → ¬ Lists κs body out x l

-- while the six lines and six words do meet it
abbrev pub RightPage : Type 0
RightPage =
    (κs : Lfts 2) (body : Bor (List ℕ)) (out : MutBor (List ℕ)) → body.now ≡ example → out.now ≡ replicate 300 0 →
    Lists κs body out (page_of plain view example 0 300 0)
    (over (lines_from (word_line plain view example) 6 0) (replicate 300 0))

pub record Attacks : Type 0 where
  pub refusing : Refusing
  pub one_reading : OneReading
  pub untouched_record : UntouchedRecord
  pub untouched_page : UntouchedPage
  pub spaces_below : SpacesBelow
  pub invented_words : InventedWords
  pub invented_bytes : InventedBytes
  pub right_page : RightPage

-- What specs/Attacks.antt states, proved: the contract gives a byte or a number that the wrong answer does not have.
use Prim.Native.Nat.{ℕ, zero, suc, ◌+◌}
use mathlib.Core.Path.{◌≡◌, refl, sym, ap, ◌∙◌}
use Rattle.std.proofs.Common.{Result, Ok}
use mathlib.Core.Bool.{Bool, true, false, cond}
use lib.Dec.{eqb, ltb}
use Rattle.refusal.specs.declared.Refusal.{Refusal}
use Rattle.refusal.specs.Numbers as refusal_numbers
use mathlib.Core.List.{List, ◌++◌}
use native.Mathlib.Nat.{add-zero}
use native.Mathlib.Omega.{arith}
use lib.ListN.{length, get_or, replicate}
use lib.Seq.{get_or-append-add}
use contract.Lifetimes.{Lfts}
use Rattle.std.specs.Borrow.{Bor, MutBor}
use Rattle.word.specs.Word.{fields_of}
use Rattle.word.specs.Numbers.{imm, index, signed, jump_to}
use Rattle.reading.specs.declared.Decoded.{Decoded}
use Rattle.reading.specs.Names.{mnemonics, name_of}
use Rattle.classes.specs.Meaning.{match, six, nop_like, takes, find, out, outs, reading, meaning}
use Rattle.classes.specs.Table.{common, by_width, table}
use Rattle.laws.specs.Lists.{elem}
use Rattle.classes.specs.Refusals.{holds, meets, refusal, refusals}
use Rattle.classes.specs.Decoded.{decoded_by, decoded_of}
use Rattle.names.specs.Names.{registers}
use Rattle.buffers.specs.Bytes.{over, over_at}
use Rattle.buffers.proofs.Laws.{at_start}
use Rattle.record.specs.Record.{record_of, bytes_by, packed}
use Rattle.text.specs.Text.{letter, letters, text_of, last_of, numeral_of, decimal_of, address_of, hex_of}
use Rattle.line.specs.Line.{plain, register_name, op_text, listed, line_of}
use Rattle.body.specs.Body.{decoded_at, words_in}
use Rattle.pages.specs.Lines.{lines_from, fitting}
use Rattle.pages.specs.declared.extent.Page.{Page}
use Rattle.pages.specs.Page.{Paged, paging_of, answer_text, word_line, page_words, page_bytes, page_number, page_of}
use Rattle.contracts.specs.Attacks.{Decodes, Refusing, OneReading, UntouchedRecord, example, view, Lists, UntouchedPage, SpacesBelow, InventedWords, InventedBytes, RightPage, Attacks}

-- ── decoding ──

nop_accepted : (va : ℕ) (wide : Bool) → (decoded_of 0 va wide).number ≡ 0
unfolding decoded_of decoded_by refusal refusals meets holds elem fields_of
nop_accepted va true = refl
nop_accepted va false = refl

-- such an answer is what the word means
meaning_of : {κs : Lfts 0} (w va : ℕ) (wide : Bool) {d : Decoded} → Decodes κs w va wide d → d ≡ decoded_of w va wide
meaning_of w va wide p = sym p.1 ∙ p.2

refusing : Refusing
refusing κs va wide number p = omega (arith, ap (λ (d : Decoded). d.number) (meaning_of 0 va wide p) ∙ nop_accepted va wide)

-- word 0 is `nop`, word 0x40 `ssnop`
two_mnemonics : ((decoded_of 0 0 false).insn.mnemonic ≡ 0) × ((decoded_of 0x40 0 false).insn.mnemonic ≡ 1)
unfolding decoded_of decoded_by table common by_width find takes six match nop_like fields_of meaning reading outs
two_mnemonics = (refl, refl)

one_reading : OneReading
one_reading κs d p =
    let m : (decoded_of 0 0 false).insn.mnemonic ≡ (decoded_of 0x40 0 false).insn.mnemonic = ap (λ (d : Decoded). d.insn.mnemonic) (sym (meaning_of 0 0 false (p 0 0 false)) ∙ meaning_of 0x40 0 false (p 0x40 0 false)) in
    omega (arith, two_mnemonics.0, two_mnemonics.1, m)

-- ── the record ──

-- byte 0 of an accepted answer's record is 0, byte 1 of a refused one's
packed_byte : (d : Decoded) → replicate 80 255 ≡ packed d (replicate 80 255) → ⊥
unfolding record_of
packed_byte d = go d.number
  where
    go : (n : ℕ) → replicate 80 255 ≡ over (bytes_by n d.insn) (replicate 80 255) → ⊥
    go zero q = omega (arith, ap (λ (l : List ℕ). get_or l 0 0) q)
    go (suc n) q = omega (arith, ap (λ (l : List ℕ). get_or l 1 0) q)

untouched_record : UntouchedRecord
untouched_record κs d out number e p = packed_byte d (sym e ∙ p.1 ∙ ap (packed d) e)

-- ── the page ──

abbrev sheet : List ℕ
sheet = over_at 0 (page_bytes plain view example 0 300 0) (replicate 300 0)

-- the first byte of the first two lines, and the last of the buffer
bytes : (get_or sheet 0 0 ≡ 48) × (get_or sheet 40 0 ≡ 48) × (get_or sheet 299 0 ≡ 0)
unfolding page_bytes page_words fitting lines_from word_line answer_text decoded_at decoded_of decoded_by refusal refusals meets holds elem
    table common by_width find takes six match nop_like fields_of meaning reading outs out imm index signed jump_to
    line_of listed op_text register_name registers text_of letters letter name_of mnemonics decimal_of address_of numeral_of last_of hex_of
bytes = (refl, refl, refl)

-- the first line, and how many words there are
first_line : length (word_line plain view example 0) ≡ 40
unfolding word_line answer_text decoded_at decoded_of decoded_by refusal refusals meets holds elem
    table common by_width find takes six match nop_like fields_of meaning reading outs out imm
    line_of listed op_text register_name registers text_of letters letter name_of mnemonics decimal_of numeral_of last_of hex_of
first_line = refl

six_words : page_words plain view example 0 300 0 ≡ 6
unfolding page_words fitting word_line answer_text decoded_at decoded_of decoded_by refusal refusals meets holds elem
    table common by_width find takes six match nop_like fields_of meaning reading outs out imm index signed jump_to
    line_of listed op_text register_name registers text_of letters letter name_of mnemonics decimal_of address_of numeral_of last_of hex_of
six_words = refl

-- what the contract says of the example
module _ {κs : Lfts 2} {body : Bor (List ℕ)} {out : MutBor (List ℕ)} {x : Paged} {l : List ℕ} (h : Lists κs body out x l) where
  left : l ≡ sheet
  left =
      h.meets.2.1
      ∙ ap (λ (b : List ℕ). over_at 0 (page_bytes plain view b 0 (length out.now) 0) out.now) h.is_example
      ∙ ap (λ (o : List ℕ). over_at 0 (page_bytes plain view example 0 (length o) 0) o) h.is_blank

  counted : x.words ≡ 6
  counted =
      ap (λ (y : Paged). y.words) (sym h.meets.1 ∙ h.meets.2.0)
      ∙ ap (λ (b : List ℕ). page_words plain view b 0 (length out.now) 0) h.is_example
      ∙ ap (λ (o : List ℕ). page_words plain view example 0 (length o) 0) h.is_blank
      ∙ six_words

untouched_page : UntouchedPage
untouched_page κs body out x h = omega (arith, ap (λ (l : List ℕ). get_or l 0 0) (left h), bytes.0)

-- what comes right after the first line is not a second line
below : (n : ℕ) → ¬ (get_or (word_line plain view example 0 ++ replicate n 32) 40 0 ≡ 48)
below n e =
    let first : List ℕ = word_line plain view example 0 in
    let end : length first + 0 ≡ 40 = add-zero (length first) ∙ first_line in
    go n (sym (get_or-append-add first (replicate n 32) 0 0) ∙ ap (λ (k : ℕ). get_or (first ++ replicate n 32) k 0) end ∙ e)
  where
    go : (n : ℕ) → get_or {A = ℕ} (replicate n 32) 0 0 ≡ 48 → ⊥
    go zero e = omega (arith, e)
    go (suc n) e = omega (arith, e)

spaces_below : SpacesBelow
spaces_below κs body out x n h = below n (ap (λ (l : List ℕ). get_or l 40 0) (left h) ∙ bytes.1)

invented_words : InventedWords
invented_words κs body out x l more h = omega (arith, more, counted h)

invented_bytes : InventedBytes
invented_bytes κs body out x l other h = other (ap (λ (l : List ℕ). get_or l 299 0) (left h) ∙ bytes.2)

-- six lines are all that the page has
six_lines : over_at 0 (lines_from (word_line plain view example) 6 0) (replicate 300 0) ≡ sheet
unfolding page_bytes
six_lines = ap (λ (k : ℕ). over_at 0 (lines_from (word_line plain view example) k 0) (replicate 300 0)) (sym six_words)

-- and it is not refused
numbered : page_number plain view example 0 300 0 ≡ 0
unfolding page_number
numbered = ap (λ (k : ℕ). cond (ltb 0 (words_in example)) (cond (eqb k 0) refusal_numbers.no_room 0) refusal_numbers.no_index) six_words

-- the answer with its words and bytes
whole_page : Result Page Refusal
whole_page = Ok (record { words = page_words plain view example 0 300 0; bytes = length (page_bytes plain view example 0 300 0) })

its_answer : paging_of whole_page ≡ page_of plain view example 0 300 0
unfolding whole_page
its_answer =
    λ i.
    record {
      number = sym numbered i;
      words = page_words plain view example 0 300 0;
      bytes = length (page_bytes plain view example 0 300 0);
    }

right_page : RightPage
right_page κs body out e z =
    let lent : List ℕ → List ℕ → List ℕ = λ b o. over_at 0 (page_bytes plain view b 0 (length o) 0) o in
    let answered : List ℕ → List ℕ → Paged = λ b o. page_of plain view b 0 (length o) 0 in
    record {
      is_example = e;
      is_blank = z;
      meets = (whole_page, its_answer, (its_answer ∙ (λ i. answered (sym e i) (sym z i)), sym (at_start (lines_from (word_line plain view example) 6 0) (replicate 300 0)) ∙ six_lines ∙ (λ i. lent (sym e i) (sym z i))));
    }

pub attacks : Attacks
attacks =
    record {
      refusing = refusing;
      one_reading = one_reading;
      untouched_record = untouched_record;
      untouched_page = untouched_page;
      spaces_below = spaces_below;
      invented_words = invented_words;
      invented_bytes = invented_bytes;
      right_page = right_page;
    }

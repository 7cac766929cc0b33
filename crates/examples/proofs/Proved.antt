-- What specs/Examples.antt states, computed: a line here for each line of the table there.
use Prim.Native.Nat.{ℕ, ◌<◌}
use mathlib.Core.Path.{◌≡◌, refl, subst}
use mathlib.Core.Bool.{Bool, true, false}
use mathlib.Core.Option.{some}
use native.Mathlib.Decide.{ℕ_discrete}
use native.Mathlib.Omega.{arith}
use Rattle.word.specs.Word.{fields_of, word, words}
use Rattle.word.specs.Numbers.{imm, index, signed, branch_to, jump_to, size_of}
use Rattle.reading.specs.declared.Insn.{Insn}
use Rattle.reading.specs.declared.Decoded.{Decoded}
use Rattle.reading.specs.Kind as kind
use Rattle.reading.specs.Kind.{from}
use Rattle.classes.specs.Row.{is, read, zeros, Row}
use Rattle.classes.specs.Meaning.{match, six, nop_like, takes, find, out, outs, mark_of, target_in, reading, meaning}
use Rattle.classes.specs.Meaning.{int_of}
use Rattle.classes.specs.Table.{rd_rt_sa, offset, rt_imm, jumps, computes, sets_immediate, row, row_but_nops, common}
use Rattle.classes.specs.Table.{by_width, table}
use Rattle.laws.specs.Lists.{elem}
use Rattle.classes.specs.Refusals.{holds, meets, refusal, refusals}
use Rattle.reading.specs.Reading.{accepted_as, refused_of}
use Rattle.classes.specs.Decoded.{decoded_by, decoded_of}
use Rattle.inverse.specs.Encoded.{encoded_as, Encodes}
use Rattle.inverse.specs.Private.Fill.{branch_back, part, filled}
use Rattle.inverse.specs.Private.Candidate.{least, holds as holdsIn, suits, after_nops, candidate, pick, operand_at}
use Rattle.inverse.specs.Private.Candidate.{Tries}
use Rattle.inverse.proofs.Proved.{good_of, picked, encoded}
use Rattle.reading.specs.Names.{mnemonics, name_of}
use Rattle.text.specs.Text.{letter, letters, text_of, last_of, numeral_of, decimal_of, address_of, hex_of}
use Rattle.names.specs.Names.{registers}
use Rattle.line.specs.Line.{register_name, op_text, listed, line_of}
use Rattle.section.specs.Section as section
use Rattle.body.specs.Body.{decoded_at, refused_from, refused_in}
use Rattle.pages.specs.Lines.{lines_from}
use Rattle.pages.specs.Page.{answer_text, word_line}
use Rattle.listing.specs.Swept.{sum_from, head_line, line_in, total_line, refused_line, sections_from, swept_of}
use Rattle.examples.specs.Examples.{bytes, printed, examples, sweeps, Holds, Prints, Every, Examples}

-- a line's answer, and the lines after it
abbrev ◌⨾◌ : {A B : Type 0} → A → B → A × B
a ⨾ b = (a, b)

infixr 30 ◌⨾◌
-- ── encoded words ──

-- the row that a reading is encoded in, and the word that it gives
module _ (wide : Bool) (va : ℕ) (i : Insn) (h : Row) where
  abbrev there : ℕ → Decoded
  there w = decoded_of w va wide

  pub by_row : (c : ℕ) → pick (table wide) i.mnemonic (int_of (operand_at i.ops 1)) ≡ some h →
      candidate h va i.count (operand_at i.ops) ≡ c →
      c < words → there c ≡ accepted_as i → Encodes there i (encoded_as c)
  by_row c p e l d =
      encoded wide va i c (subst (Tries (table wide) va i) e (picked (table wide) refusals (good_of wide) va i h p)) l d

sll_row : Row
sll_row = row_but_nops kind.sll (is 0) zeros read read read (is 0) rd_rt_sa computes

b_row : Row
b_row = row kind.b (is 1) (is 0) (is 1) read read read offset jumps

li_row : Row
li_row = row kind.li (is 9) (is 0) read read read read rt_imm sets_immediate

-- ── the table ──

words_proved : Every Holds examples
unfolding examples Every decoded_of decoded_by table common by_width refusals find takes six match nop_like refusal meets
    holds elem from fields_of meaning reading outs out mark_of target_in imm index signed branch_to jump_to size_of pick suits
    filled part branch_back candidate after_nops least word sll_row b_row li_row ℕ_discrete holdsIn
words_proved =
    (λ va wide. (refl, refl, refl, refl))
    ⨾ (λ va wide. ((refl, refl, refl, refl), by_row wide va _ sll_row 0x00200000 refl refl (omega arith) refl))
    ⨾ (λ va wide. ((refl, refl, refl, refl), by_row wide va _ sll_row 0x00200000 refl refl (omega arith) refl))
    ⨾ (λ wide. (refl, refl))
    ⨾ (λ wide. (refl, refl))
    ⨾ (λ wide. ((refl, refl, refl, refl), by_row wide 0x1000 _ b_row 0x0401ffff refl refl (omega arith) refl))
    ⨾ (λ wide. ((refl, refl, refl, refl), by_row wide 0x1000 _ b_row 0x0401ffff refl refl (omega arith) refl))
    ⨾ (λ va wide. ((refl, refl, refl, refl), by_row wide va _ li_row 0x24020005 refl refl (omega arith) refl))
    ⨾ (λ va wide. ((refl, refl, refl, refl), by_row wide va _ li_row 0x24020005 refl refl (omega arith) refl))
    ⨾ (λ va wide. ((refl, refl, refl, refl), by_row wide va _ li_row 0x24020005 refl refl (omega arith) refl))
    ⨾ (λ va wide. (refl, refl, refl, refl))
    ⨾ (λ va wide. (refl, refl, refl, refl))
    ⨾ (λ va wide. (refl, refl, refl, refl))
    ⨾ (λ va wide. ((refl, refl, refl, refl), refl))
    ⨾ (λ va wide. elim wide as (λ k. decoded_of 53 va k ≡ refused_of 3) [ true ↦ refl | false ↦ refl ])
    ⨾ (λ va wide. elim wide as (λ k. decoded_of 0x7c000001 va k ≡ refused_of 8) [ true ↦ refl | false ↦ refl ])
    ⨾ tt

-- ── what `sweep` prints ──

sweeps_proved : Every Prints sweeps
unfolding sweeps Every bytes printed swept_of sections_from head_line line_in total_line refused_line sum_from
    section.checked section.good_header section.good_entries section.good_from section.good_entry section.refusal_of
    section.count_of section.flags_of section.address_of section.start_of section.length_of
    decoded_at refused_from refused_in answer_text word_line lines_from
    decoded_of decoded_by table common by_width refusals find takes six match nop_like refusal meets holds elem
    fields_of meaning reading outs out imm index signed jump_to
    line_of listed op_text register_name registers text_of letters letter name_of mnemonics
    decimal_of address_of numeral_of last_of hex_of
sweeps_proved = refl ⨾ refl ⨾ refl ⨾ tt

pub proved : Examples
proved = (words_proved, sweeps_proved)

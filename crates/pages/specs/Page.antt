-- A PAGE: the lines of the words from an index on, as many whole ones as fit, every byte of them, in any spelling of
-- registers and addresses.
use Rattle.std.specs.Prelude.{ℕ, ◌+◌, ◌-◌, cond, List, [], ◌∷◌, ◌++◌, ltb, eqb, length, Result, Ok, Err}
use Rattle.refusal.specs.Numbers as refusal
use Rattle.refusal.specs.declared.Refusal.{Refusal}
use Rattle.refusal.specs.Refusals.{number_of}
use Rattle.reading.specs.declared.Decoded.{Decoded}
use Rattle.text.specs.Text.{text_of, numeral_of, hex_of, newline}
use Rattle.line.specs.Line.{Spelling, line_of, longest}
use Rattle.body.specs.declared.View.{View}
use Rattle.body.specs.Body.{words_in, address_at, word_at, decoded_at, is_refused}
use Rattle.pages.specs.declared.extent.Page.{Page}
use Rattle.pages.specs.Lines.{lines_from, fitting}

-- ── a line ──

-- the printed line, or `refused` and the number
unfoldable pub answer_text : Spelling → Decoded → List ℕ
answer_text σ d = cond (is_refused d) (text_of "refused " ++ numeral_of 10 d.number) (line_of σ d.insn)

-- address, word and text
unfoldable pub word_line : Spelling → View → List ℕ → ℕ → List ℕ
word_line σ v body n =
    hex_of 16 (address_at v n) ++ text_of " " ++
    hex_of 8 (word_at v body n) ++ text_of " " ++
    answer_text σ (decoded_at v body n) ++ (newline ∷ [])

-- how many bytes it has before its text
abbrev pub text_column : ℕ
text_column = 26

-- and at most with text and newline
abbrev pub longest_line : ℕ
longest_line = text_column + longest + 1

-- ── the page of a body from word n on, in a buffer of this size from a place on ──

-- a place past its end leaves no room

unfoldable pub page_words : Spelling → View → List ℕ → ℕ → ℕ → ℕ → ℕ
page_words σ v body n size place = fitting (word_line σ v body) (words_in body - n) n (size - place)

unfoldable pub page_bytes : Spelling → View → List ℕ → ℕ → ℕ → ℕ → List ℕ
page_bytes σ v body n size place = lines_from (word_line σ v body) (page_words σ v body n size place) n

-- refused for an index not below the word count, then if not one line fits
unfoldable pub page_number : Spelling → View → List ℕ → ℕ → ℕ → ℕ → ℕ
page_number σ v body n size place =
    cond (ltb n (words_in body)) (cond (eqb (page_words σ v body n size place) 0) refusal.no_room 0) refusal.no_index

-- 0, how many words the page has and how many bytes; or the number and nothing
pub record Paged : Type 0 where
  pub number : ℕ
  pub words : ℕ
  pub bytes : ℕ

-- an answer in that number, words and bytes
abbrev pub paging_of : Result Page Refusal → Paged
paging_of (Ok p) = record { number = 0; words = p.words; bytes = p.bytes }
paging_of (Err r) = record { number = number_of r; words = 0; bytes = 0 }

abbrev pub page_of : Spelling → View → List ℕ → ℕ → ℕ → ℕ → Paged
page_of σ v body n size place =
    record {
      number = page_number σ v body n size place;
      words = page_words σ v body n size place;
      bytes = length (page_bytes σ v body n size place);
    }

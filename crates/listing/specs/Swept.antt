-- THE LISTING OF A SECTION FILE: every byte that the program `sweep` writes.
use Rattle.std.specs.Prelude.{ℕ, zero, suc, ◌+◌, cond, List, [], ◌∷◌, ◌++◌, eqb}
use Rattle.text.specs.Text.{newline, text_of, numeral_of}
use Rattle.line.specs.Line.{plain}
use Rattle.section.specs.Section.{checked, count_of, flags_of, address_of, body_of}
use Rattle.body.specs.declared.View.{View}
use Rattle.body.specs.Body.{view_of, words_in, refused_in}
use Rattle.pages.specs.Lines.{lines_from}
use Rattle.pages.specs.Page.{word_line}

-- ── the words of section n ──

-- they are read from its address on, under the file's flags
abbrev pub view_in : List ℕ → ℕ → View
view_in f n = view_of (address_of f n) (flags_of f)

abbrev pub word_count : List ℕ → ℕ → ℕ
word_count f n = words_in (body_of f n)

abbrev pub refused_count : List ℕ → ℕ → ℕ
refused_count f n = refused_in (view_in f n) (body_of f n)

-- a count, added up over k sections from section n on
unfoldable pub sum_from : (ℕ → ℕ) → ℕ → ℕ → ℕ
sum_from count zero n = 0
sum_from count (suc k) n = count n + sum_from count k (n + 1)

-- ── the lines ──

-- two texts, each with a number after it
abbrev pub counted : List ℕ → ℕ → List ℕ → ℕ → List ℕ
counted before m between n = before ++ numeral_of 10 m ++ between ++ numeral_of 10 n ++ (newline ∷ [])

-- `section`, its number, `words`, its word count
unfoldable pub head_line : List ℕ → ℕ → List ℕ
head_line f n = counted (text_of "section ") n (text_of " words ") (word_count f n)

-- the line of word w of section n
unfoldable pub line_in : List ℕ → ℕ → ℕ → List ℕ
line_in f n w = word_line plain (view_in f n) (body_of f n) w

-- `words`, all words, `refused`, how many
unfoldable pub total_line : List ℕ → List ℕ
total_line f =
    counted (text_of "words ") (sum_from (word_count f) (count_of f) 0)
    (text_of " refused ") (sum_from (refused_count f) (count_of f) 0)

-- `file refused` and the number
unfoldable pub refused_line : List ℕ → List ℕ
refused_line f = text_of "file refused " ++ numeral_of 10 (checked f) ++ (newline ∷ [])

-- ── the listing ──

-- k sections from section n on: of each `section` and its counts, then the lines of its words
unfoldable pub sections_from : List ℕ → ℕ → ℕ → List ℕ
sections_from f zero n = []
sections_from f (suc k) n = head_line f n ++ lines_from (line_in f n) (word_count f n) 0 ++ sections_from f k (n + 1)

-- all sections and at the end the counts; of a bad file only its number
unfoldable pub swept_of : List ℕ → List ℕ
swept_of f = cond (eqb (checked f) 0) (sections_from f (count_of f) 0 ++ total_line f) (refused_line f)
